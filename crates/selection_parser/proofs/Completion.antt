-- What a reader has read can be completed to a selection.
use Rattle.std.proofs.Common.{◌≡◌, ℕ, suc, ◌||◌, Bool, true, false, cond, List, [], ◌∷◌, ◌++◌, Option, Some, None, refl, sym, ◌∙◌, ap, subst, inl}
use Rattle.std.proofs.Common.{inr, append_assoc, append-nil}
use Rattle.std.specs.Prelude.{codes, ◌⊎◌}
use Rattle.std.specs.List.{list_any}
use Rattle.plain_model.proofs.Words.{begins_rest}
use Rattle.plain_model.specs.Paths.{Bytes, is_empty}
use Rattle.plain_model.specs.Parts.{begins}
use Rattle.selection_parser.specs.declared.function.Function.{Function}
use Rattle.selection_parser.specs.declared.item.Item.{Item}
use Rattle.selection_parser.specs.declared.item.Item.TheVariants.{One}
use Rattle.selection_parser.specs.declared.item.Spot.{Spot}
use Rattle.selection_parser.specs.declared.item.Spot.TheVariants.{Last, Named}
use Rattle.selection_parser.specs.declared.place.Place.{Place}
use Rattle.selection_parser.specs.declared.place.Place.TheVariants as place
use Rattle.selection_parser.specs.declared.place.SpotPlace.{SpotPlace}
use Rattle.selection_parser.specs.declared.place.SpotPlace.TheVariants as spot
use Rattle.selection_parser.specs.Plain.{PlainSelection, near}
use Rattle.selection_parser.specs.Plain.PlainSelection.{Not, Call, Listed}
use Rattle.selection_parser.specs.Spelling.{SpellsPrimary, SpellsTerm, SpellsWithin, Spells, with_kind, no_kinds, no_fields, name_of}
use Rattle.selection_parser.specs.Spelling.SpellsPrimary.{call, items}
use Rattle.selection_parser.specs.Reading.{spot_begun, in_spot, in_pattern, in_path, after_path_pattern, inside, primary_at, begins_name, functions, whole}
use Rattle.selection_parser.specs.Reading.{called, State, Parts, Frame, Reader}
use Rattle.selection_parser.specs.Reading.State.{Inside, After}
use Rattle.selection_parser.specs.Reading.Frame.{Opened, Negation}
use Rattle.selection_parser.proofs.Places.{ends_in_backslash_push}
use Rattle.selection_parser.proofs.HasRead.{inner_at, near_term, not_term, whole_spelled, sign_of, FramesHaveRead, PlaceHasRead, StateHasRead, HasRead}
use Rattle.selection_parser.proofs.PlaceSteps.{place_has_read, primary_at_spelled}
use Rattle.selection_parser.proofs.Steps.{called_spelled}

-- ---- a primary

-- the bytes lead from a place to another one
abbrev Reaches : Place → Bytes → Place → Type 0
Reaches p [] q = p ≡ q
Reaches p (b ∷ bs) q = (mid : Place) × (inside p b ≡ Some mid) × Reaches mid bs q

reached : (more : Bytes) (p q : Place) (deep : ℕ) (text : Bytes) → Reaches p more q → PlaceHasRead deep p text → PlaceHasRead deep q (text ++ more)
reached [] p q deep text h k = subst (λ z. PlaceHasRead deep z (text ++ [])) h (subst (PlaceHasRead deep p) (sym (append-nil text)) k)
reached (b ∷ bs) p q deep text h k =
    subst (PlaceHasRead deep q) (append_assoc text (b ∷ []) bs)
    (reached bs h.0 q deep (text ++ b ∷ []) h.2 (place_has_read p h.0 deep text b k h.1))

-- some bytes lead to where the primary may end
abbrev Finishes : Place → Type 0
Finishes p = (more : Bytes) × (q : Place) × (x : PlainSelection) × Reaches p more q × (primary_at q ≡ Some x)

-- one byte, and then others
then_finishes : (b : ℕ) (p mid : Place) → inside p b ≡ Some mid → Finishes mid → Finishes p
then_finishes b p mid h k = (b ∷ k.0, k.1, k.2, (mid, h, k.3), k.4)

pushed_filled : (xs : Bytes) (b : ℕ) → is_empty (xs ++ b ∷ []) ≡ false
pushed_filled [] b = refl
pushed_filled (x ∷ xs) b = refl

name_ends : (before : List Item) (start : Option Spot) (name : Bytes)
    → in_spot before start (spot.InText (name ++ 120 ∷ [])) 62 ≡ Some (place.InItems before start (spot.After (Named (name ++ 120 ∷ []))))
unfolding in_spot
name_ends before start name = rw (pushed_filled name 120) refl

pattern_ends : (bracketed : Bool) (pattern : Bytes)
    → in_pattern bracketed (pattern ++ 120 ∷ []) 47
    ≡ cond bracketed (Some (place.AfterPathPattern (pattern ++ 120 ∷ []) false)) (Some (place.InFields (pattern ++ 120 ∷ []) no_fields))
unfolding in_pattern
pattern_ends bracketed pattern = rw (ends_in_backslash_push pattern 120, pushed_filled pattern 120) refl

closing_finishes : (pattern : Bytes) (trees : Bool) → Finishes (place.AfterPathPattern pattern trees)
unfolding inside after_path_pattern
closing_finishes pattern trees = (93 ∷ [], place.AfterBracket pattern trees, _, (place.AfterBracket pattern trees, refl, refl), refl)

items_finish : (before : List Item) (start : Option Spot) (at : SpotPlace) → Finishes (place.InItems before start at)
unfolding inside in_spot spot_begun
items_finish before start spot.Start =
    (36 ∷ [], place.InItems before start (spot.After Last), _, (place.InItems before start (spot.After Last), refl, refl), refl)
items_finish before start spot.AfterColon =
    (48 ∷ [], place.InItems before start (spot.Digits true (0, 1)), _, (place.InItems before start (spot.Digits true (0, 1)), refl, refl), refl)
items_finish before start (spot.Digits marked (n, count)) = ([], place.InItems before start (spot.Digits marked (n, count)), _, refl, refl)
items_finish before start (spot.After s) = ([], place.InItems before start (spot.After s), _, refl, refl)
items_finish before start (spot.InText name) = (
  120 ∷ 62 ∷ [],
  place.InItems before start (spot.After (Named (name ++ 120 ∷ []))),
  _,
  (
    place.InItems before start (spot.InText (name ++ 120 ∷ [])),
    refl,
    (place.InItems before start (spot.After (Named (name ++ 120 ∷ []))), name_ends before start name, refl),
  ),
  refl,
)
items_finish before start (spot.AfterDot s) = (
  46 ∷ 36 ∷ [],
  place.InItems before (Some s) (spot.After Last),
  _,
  (place.InItems before (Some s) spot.Start, refl, (place.InItems before (Some s) (spot.After Last), refl, refl)),
  refl,
)

pattern_finishes : (bracketed : Bool) (pattern : Bytes) → Finishes (place.InPattern bracketed pattern)
unfolding inside in_pattern
pattern_finishes true pattern =
    then_finishes 120 (place.InPattern true pattern) (place.InPattern true (pattern ++ 120 ∷ [])) refl
    (then_finishes 47 (place.InPattern true (pattern ++ 120 ∷ [])) (place.AfterPathPattern (pattern ++ 120 ∷ []) false) (pattern_ends true pattern)
    (closing_finishes (pattern ++ 120 ∷ []) false))
pattern_finishes false pattern =
    then_finishes 120 (place.InPattern false pattern) (place.InPattern false (pattern ++ 120 ∷ [])) refl
    (then_finishes 47 (place.InPattern false (pattern ++ 120 ∷ [])) (place.InFields (pattern ++ 120 ∷ []) no_fields) (pattern_ends false pattern)
    ([], place.InFields (pattern ++ 120 ∷ []) no_fields, _, refl, refl))

path_finishes : (path : Bytes) → Finishes (place.InPath path)
unfolding inside in_path
path_finishes [] =
    (120 ∷ 93 ∷ [], place.AfterPath (120 ∷ []), _, (place.InPath (120 ∷ []), refl, (place.AfterPath (120 ∷ []), refl, refl)), refl)
path_finishes (c ∷ cs) = (93 ∷ [], place.AfterPath (c ∷ cs), _, (place.AfterPath (c ∷ cs), refl, refl), refl)

-- ---- a function's name

either : (a b : Bool) → (a || b) ≡ true → (a ≡ true) ⊎ (b ≡ true)
either true b h = inl refl
either false b h = inr h

name_found : (fs : List Function) (front : Bytes) → list_any (λ f. begins front (name_of f)) fs ≡ true
    → (f : Function) × (rest : Bytes) × (name_of f ≡ front ++ rest)
name_found [] front h = absurd cc
name_found (f ∷ fs) front h =
    elim (either (begins front (name_of f)) (list_any (λ g. begins front (name_of g)) fs) h) [
      | inl here ↦ let rest = begins_rest front (name_of f) here in (f, rest.0, rest.1)
      | inr later ↦ name_found fs front later
    ]

pub dollar : PlainSelection
dollar = Listed (One Last ∷ [])

-- `$` is a selection
dollar_spelled : (deep : ℕ) → SpellsWithin deep (codes "$") dollar
unfolding dollar
dollar_spelled deep =
    let primary : SpellsPrimary (inner_at deep) (codes "$") (Listed (One Last ∷ [])) = items (One Last ∷ []) refl refl in
    let term = near_term deep (codes "$") (Listed (One Last ∷ [])) (codes "$", 0, Listed (One Last ∷ []), primary, refl, refl) in
    (Listed (One Last ∷ []) ∷ [], (Listed (One Last ∷ []) ∷ [], term, refl), refl)

function_finishes : (name text : Bytes) (less : ℕ) → begins_name name ≡ true → text ≡ 64 ∷ name
    → (more : Bytes) × (x : PlainSelection) × SpellsPrimary (SpellsWithin less) (text ++ more) x
unfolding begins_name
function_finishes name text less h e =
    let found = name_found functions name h in
    let f = found.0 in
    let rest = found.1 in (
      rest ++ codes "($)",
      Call f dollar,
      subst (λ t. SpellsPrimary (SpellsWithin less) t (Call f dollar))
          (ap (λ n. 64 ∷ n ++ codes "($)") found.2 ∙ ap (λ t. 64 ∷ t) (append_assoc name rest (codes "($)")) ∙ ap (λ t. t ++ (rest ++ codes "($)")) (sym e))
          (call f (codes "$") dollar (dollar_spelled less) (sym (shape f)) refl),
    )
  where
    shape : (f : Function) → codes "@" ++ name_of f ++ codes "(" ++ codes "$" ++ codes ")" ≡ 64 ∷ name_of f ++ codes "($)"
    shape f = simp append_assoc

-- ---- a primary, and a term

primary_finishes : (at : Place) (deep : ℕ) (text : Bytes) → PlaceHasRead deep at text
    → (more : Bytes) × (x : PlainSelection) × SpellsPrimary (inner_at deep) (text ++ more) x
unfolding inside spot_begun with_kind
primary_finishes at deep text h = go at h
  where
    by : (p : Place) → PlaceHasRead deep p text → Finishes p → (more : Bytes) × (x : PlainSelection) × SpellsPrimary (inner_at deep) (text ++ more) x
    by p k f = (f.0, f.2, primary_at_spelled f.1 f.2 deep (text ++ f.0) (reached f.0 p f.1 deep text f.3 k) f.4 (inner_at deep))

    go : (p : Place) → PlaceHasRead deep p text → (more : Bytes) × (x : PlainSelection) × SpellsPrimary (inner_at deep) (text ++ more) x
    go (place.InName name) k =
        subst (λ d. (more : Bytes) × (x : PlainSelection) × SpellsPrimary (inner_at d) (text ++ more) x) (sym k.1) (function_finishes name text k.0 k.2 k.3)
    go place.Start k = by place.Start k (36 ∷ [], place.InItems [] None (spot.After Last), _, (place.InItems [] None (spot.After Last), refl, refl), refl)
    go place.AfterEquals k =
        by place.AfterEquals k
        (66 ∷ [], place.InKinds (record no_kinds { blobs = true }), _, (place.InKinds (record no_kinds { blobs = true }), refl, refl), refl)
    go (place.InKinds set) k = by (place.InKinds set) k ([], place.InKinds set, _, refl, refl)
    go (place.InItems before start p) k = by (place.InItems before start p) k (items_finish before start p)
    go (place.InPattern bracketed pattern) k = by (place.InPattern bracketed pattern) k (pattern_finishes bracketed pattern)
    go (place.InFields pattern fields) k = by (place.InFields pattern fields) k ([], place.InFields pattern fields, _, refl, refl)
    go (place.InPath path) k = by (place.InPath path) k (path_finishes path)
    go (place.AfterPathPattern pattern trees) k = by (place.AfterPathPattern pattern trees) k (closing_finishes pattern trees)
    go (place.AfterPath path) k = by (place.AfterPath path) k ([], place.AfterPath path, _, refl, refl)
    go (place.AfterBracket pattern trees) k = by (place.AfterBracket pattern trees) k ([], place.AfterBracket pattern trees, _, refl, refl)

term_finishes : (s : State) (deep : ℕ) (text : Bytes) → StateHasRead deep s text
    → (more : Bytes) × (x : PlainSelection) × SpellsTerm deep (text ++ more) x
term_finishes (Inside at) deep text h =
    let p = primary_finishes at deep text h in
    (p.0, p.1, near_term deep (text ++ p.0) p.1 (text ++ p.0, 0, p.1, p.2, sym (append-nil (text ++ p.0)), refl))
term_finishes (After times x) deep text h = (
  [],
  near times x,
  subst (λ t. SpellsTerm deep t (near times x)) (sym (append-nil text))
      (near_term deep text (near times x) (h.0, times, x, h.1, h.2, refl)),
)

-- ---- what is open

frames_finish : (frames : List Frame) (deep : ℕ) (parts : Parts) (front back : Bytes) (x : PlainSelection)
    → FramesHaveRead deep frames parts front → SpellsTerm deep back x → (more : Bytes) × (y : PlainSelection) × Spells (front ++ back ++ more) y
frames_finish [] deep parts front back x h k = (
  [],
  whole x parts,
  subst (λ t. Spells t (whole x parts)) (sym (append-nil (front ++ back)))
      (subst (λ d. SpellsWithin d (front ++ back) (whole x parts)) h.0 (whole_spelled deep parts front back x h.1 k)),
)
frames_finish (Negation ∷ frames) deep parts front back x h k =
    let rest = frames_finish frames (suc deep) parts h.0 (126 ∷ back) (Not x) h.1 (not_term deep back x k) in (
      rest.0,
      rest.1,
      subst (λ t. Spells t rest.1) (sym (ap (λ t. t ++ back ++ rest.0) h.2 ∙ simp append_assoc)) rest.2,
    )
frames_finish (Opened f outer ∷ frames) deep parts front back x h k =
    let all = whole_spelled deep parts h.1 back x h.3 k in
    let here = sign_of f ++ (h.1 ++ back) ++ codes ")" in
    let term = near_term (suc deep) here (called f (whole x parts))
    (here, 0, called f (whole x parts), called_spelled f deep (h.1 ++ back) (whole x parts) all, sym (append-nil here), refl) in
    let rest = frames_finish frames (suc deep) outer h.0 here (called f (whole x parts)) h.2 term in (
      41 ∷ rest.0,
      rest.1,
      subst (λ t. Spells t rest.1) (sym (ap (λ t. t ++ back ++ 41 ∷ rest.0) h.4 ∙ simp append_assoc)) rest.2,
    )

-- what was read is the front of a selection
pub completed : (r : Reader) (text : Bytes) → HasRead r text → (more : Bytes) × (x : PlainSelection) × Spells (text ++ more) x
completed r text h =
    let term = term_finishes r.state h.deep h.back h.state in
    let rest = frames_finish r.frames h.deep r.parts h.front (h.back ++ term.0) term.1 h.frames term.2 in (
      term.0 ++ rest.0,
      rest.1,
      subst (λ t. Spells t rest.1) (sym (ap (λ t. t ++ (term.0 ++ rest.0)) h.joined ∙ simp append_assoc)) rest.2,
    )
