-- Each byte is at most one question mark.
use Rattle.std.proofs.Common.{◌≡◌, ℕ, ◌+◌, ◌≤◌, ◌==◌, Bool, true, false, cond, List, [], ◌∷◌, Option, Some, None, refl, sym, ap, subst, arith}
use Rattle.selection_parser.specs.declared.function.Function.{Function}
use Rattle.selection_parser.specs.declared.place.Place.{Place}
use Rattle.selection_parser.specs.declared.place.Place.TheVariants as place
use Rattle.selection_parser.specs.Plain.{PlainSelection, near}
use Rattle.selection_parser.specs.Reading.{placed, primary_at, near_at, within, nesting, or_else, or_after, after_near, after_term, negated, around, closed}
use Rattle.selection_parser.specs.Reading.{ended, called_by, function_of, no_parts, with_term, with_part, before_term, has_room, if_room, step, times_of}
use Rattle.selection_parser.specs.Reading.{State, Parts, Frame, Reader, Next}
use Rattle.selection_parser.specs.Reading.State.{Inside, After}
use Rattle.selection_parser.specs.Reading.Frame.{Opened, Negation}
use Rattle.selection_parser.specs.Reading.Next.{Goes, Ends, Stops}
use Rattle.plain_model.specs.Blanks.{is_blank}

-- so many at most, where the byte is taken
abbrev AtMost : ℕ → Next → Type 0
AtMost k (Goes r) = times_of r.state ≤ k
AtMost k (Ends x) = Unit {0}
AtMost k Stops = Unit {0}

abbrev AllAtMost : ℕ → Option Next → Type 0
AllAtMost k (Some next) = AtMost k next
AllAtMost k None = Unit {0}

none_left : (k : ℕ) → 0 ≤ k
none_left k = omega arith

choice : (k : ℕ) (b : Bool) (x y : Next) → AtMost k x → AtMost k y → AtMost k (cond b x y)
choice k true x y h i = h
choice k false x y h i = i

option_choice : (k : ℕ) (b : Bool) (x y : Option Next) → AllAtMost k x → AllAtMost k y → AllAtMost k (cond b x y)
option_choice k true x y h i = h
option_choice k false x y h i = i

called_times : (k : ℕ) (o : Option Function) (parts : Parts) (frames : List Frame) → AtMost k (called_by o parts frames)
called_times k None parts frames = tt
called_times k (Some f) parts frames = none_left k

closed_times : (k : ℕ) (x : PlainSelection) (parts : Parts) (frames : List Frame) → AtMost k (closed x parts frames)
closed_times k x parts [] = tt
closed_times k x parts (Negation ∷ frames) = tt
closed_times k x parts (Opened f outer ∷ frames) = none_left k

ended_times : (k : ℕ) (x : PlainSelection) (parts : Parts) (frames : List Frame) → AtMost k (ended x parts frames)
ended_times k x parts [] = tt
ended_times k x parts (frame ∷ frames) = tt

nesting_times : (k : ℕ) (s : State) (parts : Parts) (frames : List Frame) (b : ℕ) → AllAtMost k (nesting s parts frames b)
unfolding nesting
nesting_times k (Inside place.Start) parts frames b =
    option_choice k (b == 126) (Some (if_room frames (before_term parts (Negation ∷ frames)))) _
    (choice k (has_room frames) (Goes (before_term parts (Negation ∷ frames))) Stops (none_left k) tt)
    (option_choice k (b == 40) (Some (if_room frames (before_term no_parts (Opened None parts ∷ frames)))) _
    (choice k (has_room frames) (Goes (before_term no_parts (Opened None parts ∷ frames))) Stops (none_left k) tt)
    (option_choice k (b == 64) (Some (if_room frames (record { state = Inside (place.InName []); parts = parts; frames = frames }))) None
    (choice k (has_room frames) (Goes (record { state = Inside (place.InName []); parts = parts; frames = frames })) Stops (none_left k) tt) tt))
nesting_times k (Inside (place.InName name)) parts frames b =
    option_choice k (b == 40) (Some (called_by (function_of name) parts frames)) None (called_times k (function_of name) parts frames) tt
nesting_times k (Inside place.AfterEquals) parts frames b = tt
nesting_times k (Inside (place.InKinds set)) parts frames b = tt
nesting_times k (Inside (place.InItems before start at)) parts frames b = tt
nesting_times k (Inside (place.InPattern bracketed pattern)) parts frames b = tt
nesting_times k (Inside (place.InFields pattern fields)) parts frames b = tt
nesting_times k (Inside (place.InPath path)) parts frames b = tt
nesting_times k (Inside (place.AfterPathPattern pattern trees)) parts frames b = tt
nesting_times k (Inside (place.AfterPath path)) parts frames b = tt
nesting_times k (Inside (place.AfterBracket pattern trees)) parts frames b = tt
nesting_times k (After times x) parts frames b = tt

term_times : (k : ℕ) (x : PlainSelection) (parts : Parts) (frames : List Frame) (b : ℕ) → AtMost k (after_term x parts frames b)
unfolding after_term
term_times k x parts frames b =
    choice k (b == 38) (Goes (before_term (with_term x parts) frames)) _ (none_left k)
    (choice k (b == 124) (Goes (before_term (with_part x parts) frames)) _ (none_left k)
    (choice k (b == 41) (closed x parts frames) _ (closed_times k x parts frames)
    (choice k (is_blank b) (ended x parts frames) Stops (ended_times k x parts frames) tt)))

after_near_times : (k : ℕ) (o : Option (ℕ × PlainSelection)) (parts : Parts) (frames : List Frame) (b : ℕ)
    → ((p : ℕ × PlainSelection) → o ≡ Some p → p.0 + 1 ≤ k) → AtMost k (after_near o parts frames b)
after_near_times k None parts frames b h = tt
after_near_times k (Some p) parts frames b h =
    choice k (b == 63) (Goes (record { state = After (p.0 + 1) p.1; parts = parts; frames = frames })) _ (h p refl)
    (term_times k (negated (near p.0 p.1) frames) parts (around frames) b)

placed_none : (o : Option PlainSelection) (p : ℕ × PlainSelection) → placed (λ x. (0, x)) o ≡ Some p → p.0 ≡ 0
placed_none None p h = absurd cc
placed_none (Some x) p h = let same : (0, x) ≡ p = cc in sym (ap (λ (q : ℕ × PlainSelection). q.0) same)

near_at_times : (s : State) (p : ℕ × PlainSelection) → near_at s ≡ Some p → p.0 + 1 ≤ times_of s + 1
near_at_times (Inside at) p h = let e = placed_none (primary_at at) p h in omega arith
near_at_times (After times x) p h =
    let same : (times, x) ≡ p = cc in
    let e = ap (λ (q : ℕ × PlainSelection). q.0) same in omega arith

or_after_times : (k : ℕ) (o : Option Place) (s : State) (parts : Parts) (frames : List Frame) (b : ℕ) → times_of s + 1 ≤ k
    → AtMost k (or_after o s parts frames b)
or_after_times k (Some at) s parts frames b h = none_left k
or_after_times k None s parts frames b h =
    after_near_times k (near_at s) parts frames b (λ p e. let t = near_at_times s p e in omega arith)

or_else_times : (k : ℕ) (o : Option Next) (next : Next) → AllAtMost k o → AtMost k next → AtMost k (or_else o next)
or_else_times k (Some x) next h i = h
or_else_times k None next h i = i

step_times : (r : Reader) (b : ℕ) → AtMost (times_of r.state + 1) (step r b)
unfolding step
step_times r b =
    or_else_times (times_of r.state + 1) (nesting r.state r.parts r.frames b) (or_after (within r.state b) r.state r.parts r.frames b)
    (nesting_times (times_of r.state + 1) r.state r.parts r.frames b)
    (or_after_times (times_of r.state + 1) (within r.state b) r.state r.parts r.frames b (omega arith))

pub times_grow : (r next : Reader) (b : ℕ) → step r b ≡ Goes next → times_of next.state ≤ times_of r.state + 1
times_grow r next b h = subst (AtMost (times_of r.state + 1)) h (step_times r b)
