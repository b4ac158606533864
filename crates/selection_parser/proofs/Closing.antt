-- Bytes that can't go on a primary that may end.
use Rattle.std.proofs.Common.{◌≡◌, ℕ, ◌==◌, false, List, Option, Some, None, refl, ap}
use Rattle.plain_model.specs.Numbers.{is_digit}
use Rattle.selection_parser.specs.declared.kind.KindSet.{KindSet}
use Rattle.selection_parser.specs.declared.field.FieldSet.{FieldSet}
use Rattle.selection_parser.specs.declared.item.Item.{Item}
use Rattle.selection_parser.specs.declared.item.Spot.{Spot}
use Rattle.selection_parser.specs.declared.place.Place.TheVariants as place
use Rattle.selection_parser.specs.declared.place.SpotPlace.TheVariants as spot
use Rattle.selection_parser.specs.Plain.{PlainSelection}
use Rattle.selection_parser.specs.Spelling.{with_kind, with_field}
use Rattle.selection_parser.specs.Reading.{placed, in_spot, after_spot, inside, number_spot, near_at, within, nesting, after_near, step, State, Parts}
use Rattle.selection_parser.specs.Reading.{Frame, Reader}
use Rattle.selection_parser.specs.Reading.State.{Inside, After}

-- the byte is no digit, no comma, no point, and no letter of a kind or a field
pub record Closes (b : ℕ) : Type 0 where
  pub digit : is_digit b ≡ false
  pub comma : (b == 44) ≡ false
  pub point : (b == 46) ≡ false
  pub kind : (kinds : KindSet) → with_kind kinds b ≡ None
  pub field : (fields : FieldSet) → with_field fields b ≡ None

pub closes_question : Closes 63
unfolding with_kind with_field
closes_question = record { digit = refl; comma = refl; point = refl; kind = λ k. refl; field = λ f. refl }

pub closes_and : Closes 38
unfolding with_kind with_field
closes_and = record { digit = refl; comma = refl; point = refl; kind = λ k. refl; field = λ f. refl }

pub closes_or : Closes 124
unfolding with_kind with_field
closes_or = record { digit = refl; comma = refl; point = refl; kind = λ k. refl; field = λ f. refl }

pub closes_parenthesis : Closes 41
unfolding with_kind with_field
closes_parenthesis = record { digit = refl; comma = refl; point = refl; kind = λ k. refl; field = λ f. refl }

pub closes_space : Closes 32
unfolding with_kind with_field
closes_space = record { digit = refl; comma = refl; point = refl; kind = λ k. refl; field = λ f. refl }

pub closes_tab : Closes 9
unfolding with_kind with_field
closes_tab = record { digit = refl; comma = refl; point = refl; kind = λ k. refl; field = λ f. refl }

after_spot_closed : (before : List Item) (start : Option Spot) (here : Spot) (b : ℕ) → Closes b → after_spot before start here b ≡ None
unfolding after_spot
after_spot_closed before start here b c = rw (c.comma, c.point) refl

-- inside such a primary, the byte leads nowhere
pub inside_closed : (at : State) (p : ℕ × PlainSelection) → near_at at ≡ Some p → (b : ℕ) → Closes b → within at b ≡ None
unfolding inside in_spot
inside_closed (After times x) p h b c = refl
inside_closed (Inside (place.InKinds kinds)) p h b c = ap (placed place.InKinds) (c.kind kinds)
inside_closed (Inside (place.InFields pattern fields)) p h b c = ap (placed (place.InFields pattern)) (c.field fields)
inside_closed (Inside (place.InItems before start (spot.Digits marked (n, count)))) p h b c =
    rw c.digit (after_spot_closed before start (number_spot marked n) b c)
inside_closed (Inside (place.InItems before start (spot.After here))) p h b c = after_spot_closed before start here b c
inside_closed (Inside (place.AfterPath path)) p h b c = refl
inside_closed (Inside (place.AfterBracket pattern whole)) p h b c = refl
inside_closed (Inside (place.InItems before start spot.Start)) p h b c = absurd cc
inside_closed (Inside (place.InItems before start spot.AfterColon)) p h b c = absurd cc
inside_closed (Inside (place.InItems before start (spot.InText text))) p h b c = absurd cc
inside_closed (Inside (place.InItems before start (spot.AfterDot here))) p h b c = absurd cc
inside_closed (Inside place.Start) p h b c = absurd cc
inside_closed (Inside (place.InName name)) p h b c = absurd cc
inside_closed (Inside place.AfterEquals) p h b c = absurd cc
inside_closed (Inside (place.InPattern bracketed pattern)) p h b c = absurd cc
inside_closed (Inside (place.InPath path)) p h b c = absurd cc
inside_closed (Inside (place.AfterPathPattern pattern whole)) p h b c = absurd cc

-- nothing nests after it
pub nesting_closed : (at : State) (p : ℕ × PlainSelection) → near_at at ≡ Some p → (parts : Parts) (frames : List Frame) (b : ℕ)
    → nesting at parts frames b ≡ None
unfolding nesting
nesting_closed (After times x) p h parts frames b = refl
nesting_closed (Inside place.Start) p h parts frames b = absurd cc
nesting_closed (Inside (place.InName name)) p h parts frames b = absurd cc
nesting_closed (Inside place.AfterEquals) p h parts frames b = refl
nesting_closed (Inside (place.InKinds kinds)) p h parts frames b = refl
nesting_closed (Inside (place.InItems before start at)) p h parts frames b = refl
nesting_closed (Inside (place.InPattern bracketed pattern)) p h parts frames b = refl
nesting_closed (Inside (place.InFields pattern fields)) p h parts frames b = refl
nesting_closed (Inside (place.InPath path)) p h parts frames b = refl
nesting_closed (Inside (place.AfterPathPattern pattern whole)) p h parts frames b = refl
nesting_closed (Inside (place.AfterPath path)) p h parts frames b = refl
nesting_closed (Inside (place.AfterBracket pattern whole)) p h parts frames b = refl

-- so it is judged by what is around the primary
pub step_closed : (r : Reader) (p : ℕ × PlainSelection) → near_at r.state ≡ Some p → (b : ℕ) → Closes b
    → step r b ≡ after_near (Some p) r.parts r.frames b
unfolding step
step_closed r p h b c =
    rw (nesting_closed r.state p h r.parts r.frames b, inside_closed r.state p h b c)
    (ap (λ q. after_near q r.parts r.frames b) h)
