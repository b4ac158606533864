-- A history such as reading gives it has no more marks than there are: each is 1 to 4,294,967,295, and occurs once.
use Rattle.std.proofs.Common.{◌≡◌, ℕ, suc, ◌+◌, ◌<◌, ◌≤◌, Bool, true, false, cond, List, [], ◌∷◌, ◌++◌, length, Some, None, refl, ap, sym, subst, inl, inr, ◌⊎◌, arith, eqb, eqb-true}
use Rattle.std.specs.Prelude.{map}
use Rattle.std.specs.List.{AllByRecursion, IsDistinct, list_any}
use Rattle.std.specs.Map.{lookup}
use Rattle.std.proofs.lemmas.Bool.{or_cases, false_from_ne_true}
use Rattle.std.proofs.lemmas.List.{map-append}
use Rattle.std.proofs.lemmas.Map.Steps.{length-le_from_distinct_below}
use Rattle.plain_model.specs.declared.limit.TheConstants.{MAX_MARK}
use Rattle.plain_model.specs.declared.id.AnyId.{AnyId}
use Rattle.plain_model.specs.declared.event.PlainEvent.{PlainEvent}
use Rattle.plain_model.specs.declared.event.PlainEvent.TheVariants.{Blob, Commit, Tag, Reset, Pass}
use Rattle.plain_model.specs.Lookups.{event_marks, id_of, marks_of, own_marks}
use Rattle.plain_model.specs.Marks.{IsMark}
use Rattle.history_laws.specs.Once.{AreMarkedOnce}
use Rattle.history_laws.proofs.SoundOnce.{sound_once}
use Rattle.plain_model.specs.Soundness.{IsFormedEvent, IsSound}

-- the numbers alone
abbrev numbers : List (ℕ × AnyId) → List ℕ
numbers marks = map (λ (own : ℕ × AnyId). own.0) marks

-- a mark that isn't found differs from each
all_differ : (m : ℕ) (marks : List (ℕ × AnyId)) → lookup (λ n. eqb m n) marks ≡ None → AllByRecursion (λ n. eqb m n ≡ false) (numbers marks)
all_differ m [] h = tt
all_differ m (x ∷ marks) h = go (eqb m x.0) refl h (all_differ m marks)
  where
    go : (b : Bool) → eqb m x.0 ≡ b → cond b (Some x.1) (lookup (λ n. eqb m n) marks) ≡ None → (lookup (λ n. eqb m n) marks ≡ None → AllByRecursion (λ n. eqb m n ≡ false) (numbers marks)) → (eqb m x.0 ≡ false) × AllByRecursion (λ n. eqb m n ≡ false) (numbers marks)
    go true is h more = absurd cc
    go false is h more = (is, more h)

numbers_distinct : (marks : List (ℕ × AnyId)) → AreMarkedOnce marks → IsDistinct eqb (numbers marks)
unfolding IsDistinct
numbers_distinct [] h = tt
numbers_distinct (x ∷ marks) h = (all_differ x.0 marks h.0, numbers_distinct marks h.1)

-- they are marks
are_marks : (events : List PlainEvent) → AllByRecursion IsFormedEvent events → AllByRecursion IsMark (numbers (marks_of events))
are_marks [] h = tt
are_marks (e ∷ events) h =
    subst (AllByRecursion IsMark) (sym (map-append (λ (own : ℕ × AnyId). own.0) (own_marks e) (marks_of events)))
    (both (event_marks e) (numbers (marks_of events)) (id_of e) (own e h.0) (are_marks events h.1))
  where
    own : (e : PlainEvent) → IsFormedEvent e → AllByRecursion IsMark (event_marks e)
    own (Blob id mark bytes) h = (h, tt)
    own (Commit id mark branch author committer encoding comment parents ops aliases) h = (h.0, h.2)
    own (Tag id name target tagger comment None) h = tt
    own (Tag id name target tagger comment (Some mark)) h = (h, tt)
    own (Reset id branch target) h = tt
    own (Pass id line) h = tt

    both : (ms ns : List ℕ) (id : AnyId) → AllByRecursion IsMark ms → AllByRecursion IsMark ns → AllByRecursion IsMark (numbers (map (λ m. (m, id)) ms) ++ ns)
    both [] ns id h more = more
    both (m ∷ ms) ns id h more = (h.0, both ms ns id h.1 more)

-- so 0 is none of them
none_is_0 : (ns : List ℕ) → AllByRecursion IsMark ns → AllByRecursion (λ n. eqb 0 n ≡ false) ns
none_is_0 [] h = tt
none_is_0 (n ∷ ns) h = (false_from_ne_true (eqb 0 n) (λ e. let is = eqb-true 0 n e in let low = h.0.0 in absurd (omega arith)), none_is_0 ns h.1)

with_0 : (ns : List ℕ) → AllByRecursion IsMark ns → IsDistinct eqb ns → IsDistinct eqb (0 ∷ ns)
unfolding IsDistinct
with_0 ns h distinct = (none_is_0 ns h, distinct)

-- and none is above the greatest
at_most : (ns : List ℕ) → AllByRecursion IsMark ns → (q : ℕ) → list_any (eqb q) ns ≡ true → q < MAX_MARK + 1
at_most [] h q e = absurd cc
at_most (n ∷ ns) h q e = go (or_cases (eqb q n) (list_any (eqb q) ns) e) (at_most ns h.1 q)
  where
    go : (eqb q n ≡ true) ⊎ (list_any (eqb q) ns ≡ true) → (list_any (eqb q) ns ≡ true → q < MAX_MARK + 1) → q < MAX_MARK + 1
    go (inl is) more = let same = eqb-true q n is in let high = h.0.1 in omega arith
    go (inr later) more = more later

numbers_length : (marks : List (ℕ × AnyId)) → length (numbers marks) ≡ length marks
numbers_length [] = refl
numbers_length (x ∷ marks) = ap suc (numbers_length marks)

pub few_marks : (events : List PlainEvent) → IsSound events → length (marks_of events) ≤ MAX_MARK
few_marks events h =
    let ns = numbers (marks_of events) in
    let marks = are_marks events h.spelled in
    let few = length-le_from_distinct_below (0 ∷ ns) (MAX_MARK + 1) (with_0 ns marks (numbers_distinct (marks_of events) (sound_once events h).marks)) below in
    let same = numbers_length (marks_of events) in
    omega arith
  where
    below : (q : ℕ) → list_any (eqb q) (0 ∷ numbers (marks_of events)) ≡ true → q < MAX_MARK + 1
    below q e = go (or_cases (eqb q 0) (list_any (eqb q) (numbers (marks_of events))) e)
      where
        go : (eqb q 0 ≡ true) ⊎ (list_any (eqb q) (numbers (marks_of events)) ≡ true) → q < MAX_MARK + 1
        go (inl is) = let same = eqb-true q 0 is in omega arith
        go (inr later) = at_most (numbers (marks_of events)) (are_marks events h.spelled) q later
