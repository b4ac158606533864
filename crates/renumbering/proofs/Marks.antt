-- The marks of an event that takes them from a first one on.
use Rattle.std.proofs.Common.{◌≡◌, ◌∙◌, ℕ, zero, suc, ◌+◌, ◌<◌, ◌≤◌, true, not, ◌&&◌, ◌⊎◌, inl, inr, List, [], ◌∷◌, ◌++◌, length, take, get_or, Some, None, refl, sym, ap, add-one, arith, eqb, eqb-true}
use Rattle.std.specs.Prelude.{map}
use Rattle.std.specs.List.{AllByRecursion, enumerate_from}
use Rattle.std.proofs.lemmas.Bool.{false_from_ne_true, or_cases}
use Rattle.std.proofs.lemmas.List.{length-map}
use Rattle.plain_model.specs.declared.id.AnyId.{AnyId}
use Rattle.plain_model.specs.declared.limit.TheConstants.{MAX_MARK}
use Rattle.plain_model.specs.declared.event.PlainEvent.{PlainEvent}
use Rattle.plain_model.specs.declared.event.PlainEvent.TheVariants.{Blob, Commit, Tag, Reset, Pass}
use Rattle.plain_model.specs.Lookups.{event_marks, id_of, own_marks}
use Rattle.plain_model.specs.Marks.{IsMark}
use Rattle.plain_model.specs.Soundness.{are_distinct}
use Rattle.plain_model.specs.Streams.{is_among}
use Rattle.event_arena.proofs.ListLemmas.{take_more}
use Rattle.renumbering.specs.Renumbered.{marked_from, marks_from}

-- ---- as many marks from a first one on

pub length_from : (n : ℕ) (ms : List ℕ) → length (marks_from n ms) ≡ length ms
length_from n [] = refl
length_from n (m ∷ ms) = ap suc (length_from (n + 1) ms)

pub from_twice : (n : ℕ) (ms : List ℕ) → marks_from n (marks_from n ms) ≡ marks_from n ms
from_twice n [] = refl
from_twice n (m ∷ ms) = ap (λ xs. n ∷ xs) (from_twice (n + 1) ms)

-- each is one of them
pub among_from : (n : ℕ) (ms : List ℕ) (m : ℕ) → is_among (marks_from n ms) m ≡ true → (n ≤ m) × (m < n + length ms)
among_from n [] m h = absurd cc
among_from n (x ∷ ms) m h = go (or_cases (eqb n m) (is_among (marks_from (n + 1) ms) m) h) (among_from (n + 1) ms m)
  where
    go : (eqb n m ≡ true) ⊎ (is_among (marks_from (n + 1) ms) m ≡ true) → (is_among (marks_from (n + 1) ms) m ≡ true → (n + 1 ≤ m) × (m < n + 1 + length ms)) → (n ≤ m) × (m < n + suc (length ms))
    go (inl is) later = let same = eqb-true n m is in (omega arith, omega arith)
    go (inr among) later = let rest = later among in (omega arith, omega arith)

pub distinct_from : (n : ℕ) (ms : List ℕ) → are_distinct (marks_from n ms) ≡ true
distinct_from n [] = refl
distinct_from n (m ∷ ms) =
    ap (λ b. not b && are_distinct (marks_from (n + 1) ms)) (false_from_ne_true (is_among (marks_from (n + 1) ms) n) (λ h. let rest = among_from (n + 1) ms n h in absurd (omega arith)))
    ∙ distinct_from (n + 1) ms

-- as long as there are so many
pub marks_are : (n : ℕ) (ms : List ℕ) → 1 ≤ n → n + length ms ≤ MAX_MARK + 1 → AllByRecursion IsMark (marks_from n ms)
marks_are n [] low fits = tt
marks_are n (m ∷ ms) low fits = ((low, omega arith), marks_are (n + 1) ms (omega arith) (omega arith))

pub numbers_from : (n : ℕ) (id : AnyId) (ms : List ℕ) → map (λ m. (m, id)) (marks_from n ms) ≡ enumerate_from n (map (λ (own : ℕ × AnyId). own.1) (map (λ m. (m, id)) ms))
numbers_from n id [] = refl
numbers_from n id (m ∷ ms) = ap (λ xs. (n, id) ∷ xs) (numbers_from (n + 1) id ms)

-- one more
pub from_more : (n : ℕ) (ms : List ℕ) (k : ℕ) → k < length ms → marks_from n (take (suc k) ms) ≡ marks_from n (take k ms) ++ (n + k) ∷ []
from_more n [] k within = absurd (omega arith)
from_more n (m ∷ ms) zero within = ap (λ x. x ∷ []) (let is : n ≡ n + 0 = omega arith in is)
from_more n (m ∷ ms) (suc k) within =
    ap (λ xs. n ∷ xs) (from_more (n + 1) ms k (omega arith) ∙ ap (λ x. marks_from (n + 1) (take k ms) ++ x ∷ []) (let is : n + 1 + k ≡ n + suc k = omega arith in is))

-- marks that go on from the first, and go on by one more
pub same_more : (n : ℕ) (ms : List ℕ) (k m : ℕ) → k < length ms → m ≡ get_or ms k m → m ≡ n + k → take k ms ≡ marks_from n (take k ms) → take (k + 1) ms ≡ marks_from n (take (k + 1) ms)
same_more n ms k m within at is same = rw add-one (take_more ms k m within at ∙ (λ i. same i ++ is i ∷ []) ∙ sym (from_more n ms k within))

-- ---- an event with its marks from a first one on

pub id_from : (n : ℕ) (e : PlainEvent) → id_of (marked_from n e) ≡ id_of e
id_from n (Blob id mark bytes) = refl
id_from n (Commit id mark branch author committer encoding comment parents ops aliases) = refl
id_from n (Tag id name target tagger comment mark) = refl
id_from n (Reset id branch target) = refl
id_from n (Pass id line) = refl

pub event_from : (n : ℕ) (e : PlainEvent) → event_marks (marked_from n e) ≡ marks_from n (event_marks e)
event_from n (Blob id mark bytes) = refl
event_from n (Commit id mark branch author committer encoding comment parents ops aliases) = refl
event_from n (Tag id name target tagger comment None) = refl
event_from n (Tag id name target tagger comment (Some mark)) = refl
event_from n (Reset id branch target) = refl
event_from n (Pass id line) = refl

pub length_event : (n : ℕ) (e : PlainEvent) → length (event_marks (marked_from n e)) ≡ length (event_marks e)
length_event n e = ap length (event_from n e) ∙ length_from n (event_marks e)

pub marked_twice : (n : ℕ) (e : PlainEvent) → marked_from n (marked_from n e) ≡ marked_from n e
marked_twice n (Blob id mark bytes) = refl
marked_twice n (Commit id mark branch author committer encoding comment parents ops aliases) =
    ap (λ ms. Commit id n branch author committer encoding comment parents ops ms) (from_twice (n + 1) aliases)
marked_twice n (Tag id name target tagger comment None) = refl
marked_twice n (Tag id name target tagger comment (Some mark)) = refl
marked_twice n (Reset id branch target) = refl
marked_twice n (Pass id line) = refl

-- ---- how many marks there are

pub length_own : (e : PlainEvent) → length (own_marks e) ≡ length (event_marks e)
length_own e = length-map (event_marks e) (λ m. (m, id_of e))
