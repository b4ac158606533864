-- Sums over marks: how often a mark is in a history, and how many aliases it has.
use Rattle.std.proofs.Common.{◌≡◌, ℕ, suc, ◌+◌, ◌<◌, ◌≤◌, Bool, true, false, cond, List, [], ◌∷◌, ◌++◌, refl, sym, ap, ◌∙◌, arith, eqb-true, eq-eqb, nat_lt}
use Rattle.std.specs.Prelude.{◌==◌, ◌||◌, filter, not}
use Rattle.std.specs.List.{AllByRecursion}
use Rattle.std.proofs.lemmas.Bool.{and_from, or_from, or_parts}
use Rattle.std.proofs.lemmas.Bool.Decides.{nat_tests}
use Rattle.plain_model.specs.declared.event.PlainEvent.{PlainEvent}
use Rattle.plain_model.specs.declared.event.PlainEvent.TheVariants.{Blob, Commit, Tag, Reset, Pass}
use Rattle.plain_model.specs.Lookups.{event_marks}
use Rattle.plain_model.specs.Marks.{IsMark}
use Rattle.plain_model.specs.Soundness.{are_distinct}
use Rattle.plain_model.specs.Streams.{is_among, is_marked}
use Rattle.stream_grammar.specs.Known.{alias_marks, aliases_for}
use Rattle.std.proofs.Math.Bool.{or_assoc}

-- ---- sums

-- what the marks weigh together
abbrev pub weigh : (ℕ → ℕ) → List ℕ → ℕ
weigh f [] = 0
weigh f (mark ∷ marks) = f mark + weigh f marks

-- the same of all marks of the events
abbrev pub weight : (ℕ → ℕ) → List PlainEvent → ℕ
weight f [] = 0
weight f (e ∷ events) = weigh f (event_marks e) + weight f events

-- 1 for the mark m alone
abbrev pub one : ℕ → ℕ → ℕ
one m mark = cond (mark == m) 1 0

pub weight_append : (f : ℕ → ℕ) (a b : List PlainEvent) → weight f (a ++ b) ≡ weight f a + weight f b
weight_append f [] b = omega arith
weight_append f (x ∷ a) b = let more = weight_append f a b in omega arith

-- ---- marks that are there

marked_step : (e : PlainEvent) (events : List PlainEvent) (m : ℕ) → is_marked (e ∷ events) m ≡ (is_among (event_marks e) m || is_marked events m)
marked_step (Blob id mark bytes) events m = sym (or_assoc (mark == m) false (is_marked events m))
marked_step (Commit id mark branch author committer encoding comment parents ops aliases) events m = sym (or_assoc (mark == m) (is_among aliases m) (is_marked events m))
marked_step (Tag id name target tagger comment mark) events m = refl
marked_step (Reset id branch target) events m = refl
marked_step (Pass id line) events m = refl

-- a mark that isn't among some weighs nothing there
pub none_among : (m : ℕ) (marks : List ℕ) → is_among marks m ≡ false → weigh (one m) marks ≡ 0
none_among m [] h = refl
none_among m (mark ∷ marks) h =
    let parts = or_parts (mark == m) (is_among marks m) h in
    let head : one m mark ≡ 0 = ap (λ b. cond b 1 0) parts.0 in
    let more = none_among m marks parts.1 in
    omega arith

pub none_marked : (m : ℕ) (events : List PlainEvent) → is_marked events m ≡ false → weight (one m) events ≡ 0
none_marked m [] h = refl
none_marked m (e ∷ events) h =
    let parts = or_parts (is_among (event_marks e) m) (is_marked events m) (sym (marked_step e events m) ∙ h) in
    let here = none_among m (event_marks e) parts.0 in
    let more = none_marked m events parts.1 in
    omega arith

-- and the other way round
among_none : (m : ℕ) (marks : List ℕ) → weigh (one m) marks ≡ 0 → is_among marks m ≡ false
among_none m [] h = refl
among_none m (mark ∷ marks) h = go (mark == m) h (among_none m marks)
  where
    go : (b : Bool) → cond b 1 0 + weigh (one m) marks ≡ 0 → (weigh (one m) marks ≡ 0 → is_among marks m ≡ false) → (b || is_among marks m) ≡ false
    go true h more = absurd (omega arith)
    go false h more = more (omega arith)

pub marked_none : (m : ℕ) (events : List PlainEvent) → weight (one m) events ≡ 0 → is_marked events m ≡ false
marked_none m [] h = refl
marked_none m (e ∷ events) h =
    marked_step e events m ∙ or_from (is_among (event_marks e) m) (is_marked events m) (among_none m (event_marks e) (omega arith)) (marked_none m events (omega arith))

-- ---- aliases of later commits

-- what the aliases weigh that name commits from k on
abbrev pub late : (ℕ → ℕ) → ℕ → List (ℕ × ℕ) → ℕ
late f k [] = 0
late f k (a ∷ aliases) = cond (nat_lt a.1 k) 0 (f a.0) + late f k aliases

pub late_all : (f : ℕ → ℕ) (k : ℕ) (aliases : List (ℕ × ℕ)) → late f k aliases ≤ weigh f (alias_marks aliases)
late_all f k [] = omega arith
late_all f k (a ∷ aliases) = go (nat_lt a.1 k) (late_all f k aliases)
  where
    go : (b : Bool) → late f k aliases ≤ weigh f (alias_marks aliases) → cond b 0 (f a.0) + late f k aliases ≤ f a.0 + weigh f (alias_marks aliases)
    go true more = omega arith
    go false more = omega arith

-- the aliases of the commit k come before those of later ones
pub late_step : (f : ℕ → ℕ) (k : ℕ) (aliases : List (ℕ × ℕ)) → weigh f (aliases_for k aliases) + late f (suc k) aliases ≤ late f k aliases
late_step f k [] = omega arith
late_step f k (a ∷ aliases) = go (a.1 == k) (nat_lt a.1 k) (nat_lt a.1 (suc k)) refl refl refl (late_step f k aliases)
  where
    go : (x y z : Bool) → (a.1 == k) ≡ x → nat_lt a.1 k ≡ y → nat_lt a.1 (suc k) ≡ z → weigh f (aliases_for k aliases) + late f (suc k) aliases ≤ late f k aliases
        → weigh f (alias_marks (cond x (a ∷ filter (λ b. b.1 == k) aliases) (filter (λ b. b.1 == k) aliases))) + (cond z 0 (f a.0) + late f (suc k) aliases) ≤ cond y 0 (f a.0) + late f k aliases
    go true true z here low lower more = let is = eqb-true a.1 k here in absurd (grind (arith, nat_tests))
    go true false true here low lower more = omega arith
    go true false false here low lower more = let is = eqb-true a.1 k here in absurd (grind (arith, nat_tests))
    go false true true here low lower more = omega arith
    go false true false here low lower more = absurd (grind (arith, nat_tests))
    go false false true here low lower more = omega arith
    go false false false here low lower more = omega arith

pub late_less : (f : ℕ → ℕ) (k : ℕ) (aliases : List (ℕ × ℕ)) → late f (suc k) aliases ≤ late f k aliases
late_less f k aliases = let step = late_step f k aliases in omega arith

-- ---- marks that aren't there twice

-- no mark of the events is there twice
abbrev pub AreOnce : List PlainEvent → Type 0
AreOnce events = (m : ℕ) → 0 < m → weight (one m) events ≤ 1

one_own : (m : ℕ) → one m m ≡ 1
one_own m = ap (λ b. cond b 1 0) (eq-eqb m m refl)

-- so the marks of an event aren't those of earlier ones
pub marks_new : (earlier : List PlainEvent) (marks : List ℕ) → AllByRecursion IsMark marks → ((m : ℕ) → 0 < m → weight (one m) earlier + weigh (one m) marks ≤ 1) → AllByRecursion (λ m. is_marked earlier m ≡ false) marks
marks_new earlier [] formed h = tt
marks_new earlier (mark ∷ marks) formed h =
    let low = formed.0.0 in
    let here = h mark (omega arith) in
    let own = one_own mark in
    (marked_none mark earlier (omega arith), marks_new earlier marks formed.1 (λ m is. let more = h m is in omega arith))

pub marks_distinct : (marks : List ℕ) → AllByRecursion IsMark marks → ((m : ℕ) → 0 < m → weigh (one m) marks ≤ 1) → are_distinct marks ≡ true
marks_distinct [] formed h = refl
marks_distinct (mark ∷ marks) formed h =
    let low = formed.0.0 in
    let here = h mark (omega arith) in
    let own = one_own mark in
    and_from (not (is_among marks mark)) (are_distinct marks) (ap not (among_none mark marks (omega arith))) (marks_distinct marks formed.1 (λ m is. let more = h m is in omega arith))
