-- The history without a link: whatever the link is, each event is lawful, in order and spelled as before, and each commit has the
-- tree that it had.
use Rattle.reparent_laws.specs.Remaining.{IsRewritten}
use Rattle.std.proofs.Common.{◌≡◌, ℕ, suc, ◌≤◌, Bool, true, false, cond, not, List, [], ◌∷◌, filter, length, map, refl, ap, arith, le_trans}
use Rattle.std.specs.Prelude.{◌==◌}
use Rattle.std.specs.List.{AllByRecursion, list_any}
use Rattle.std.proofs.lemmas.Bool.{and_from, and_parts, not-true, or_parts, or_from}
use Rattle.plain_model.specs.declared.id.AnyId.{AnyId}
use Rattle.plain_model.specs.declared.id.AnyId.TheVariants as any
use Rattle.plain_model.specs.declared.operation.FileOp.{FileOp}
use Rattle.plain_model.specs.declared.event.PlainEvent.{PlainEvent}
use Rattle.plain_model.specs.declared.event.PlainEvent.TheVariants.{Blob, Commit, Tag, Reset, Pass}
use Rattle.plain_model.specs.Histories.{nodes, tree}
use Rattle.plain_model.specs.Lookups.{id_of}
use Rattle.plain_model.specs.Soundness.{IsFormedEvent, IsSound, are_distinct, has_id}
use Rattle.edit_laws.specs.Blobs.{HasBytesOf}
use Rattle.edit_laws.specs.Equations.{Fits}
use Rattle.edit_laws.specs.Parts.{AreInOrder, AreOnce, HasFewParents, IsLawful}
use Rattle.edit_laws.proofs.Lists.{all_filter}
use Rattle.edit_laws.proofs.Sound.{in_parts}
use Rattle.commit_laws.specs.Rewriting.{rewritten, rewritten_all}
use Rattle.commit_laws.proofs.Given.{IsHere}
use Rattle.commit_laws.proofs.Rewritten.{MayHave, all_fit, bytes_new, few_new, ids_same, in_order, lawful_all, once_same, spelled_all}
use Rattle.reparent_laws.specs.Reparent.{ops_onto}
use Rattle.reparent_laws.proofs.Changed.{one_of_all}
use Rattle.divide_laws.specs.Divide.{loses, parted, without_parent}
use Rattle.divide_laws.specs.declared.link.Link.{Link}
use Rattle.reparent_laws.proofs.Onto.{onto_fine, onto_tree}
use Rattle.divide_laws.proofs.Onto.{onto_blobs}

-- ---- some numbers of a list

none_passes : (test : ℕ → Bool) (x : ℕ) (xs : List ℕ) → list_any (λ y. y == x) xs ≡ false → list_any (λ y. y == x) (filter test xs) ≡ false
none_passes test x [] h = refl
none_passes test x (z ∷ xs) h =
    let parts = or_parts (z == x) (list_any (λ y. y == x) xs) h in
    let rest = none_passes test x xs parts.1 in
    elim (test z) as (λ b. list_any (λ y. y == x) (cond b (z ∷ filter test xs) (filter test xs)) ≡ false) [
      | true ↦ or_from (z == x) (list_any (λ y. y == x) (filter test xs)) parts.0 rest
      | false ↦ rest
    ]

distinct_filter : (test : ℕ → Bool) (xs : List ℕ) → are_distinct xs ≡ true → are_distinct (filter test xs) ≡ true
distinct_filter test [] h = refl
distinct_filter test (x ∷ xs) h =
    let parts = and_parts (not (list_any (λ y. y == x) xs)) (are_distinct xs) h in
    let rest = distinct_filter test xs parts.1 in
    elim (test x) as (λ b. are_distinct (cond b (x ∷ filter test xs) (filter test xs)) ≡ true) [
      | true ↦
          and_from (not (list_any (λ y. y == x) (filter test xs))) (are_distinct (filter test xs))
          (ap not (none_passes test x xs (not-true (list_any (λ y. y == x) xs) parts.0))) rest
      | false ↦ rest
    ]

pub filter_shorter : {X : Type 0} (test : X → Bool) (xs : List X) → length (filter test xs) ≤ length xs
filter_shorter test [] = omega arith
filter_shorter test (x ∷ xs) =
    let rest = filter_shorter test xs in
    elim (test x) as (λ b. length (cond b (x ∷ filter test xs) (filter test xs)) ≤ suc (length xs)) [ true ↦ omega arith | false ↦ omega arith ]

-- ---- the parted history

module _ (events : List PlainEvent) (cut : Link) where
  pub parted_ids : (id : AnyId) → has_id (parted events cut) id ≡ has_id events id
  parted_ids id = ids_same cut.child (loses events cut.parent) events id

  pub parted_list_ids : map id_of (parted events cut) ≡ map id_of events
  parted_list_ids = go events
    where
      its : (e : PlainEvent) → id_of (rewritten cut.child (loses events cut.parent) e) ≡ id_of e
      its (Commit id mark branch author committer encoding comment parents ops aliases) =
          elim (id == cut.child) as (λ b. id_of (cond b (Commit id mark branch author committer encoding comment (without_parent cut.parent parents) (ops_onto events (without_parent cut.parent parents) parents ops) aliases) (Commit id mark branch author committer encoding comment parents ops aliases)) ≡ any.Commit id) [ true ↦ refl | false ↦ refl ]
      its (Blob id mark bytes) = refl
      its (Tag id name target tagger comment mark) = refl
      its (Reset id branch target) = refl
      its (Pass id line) = refl

      go : (es : List PlainEvent) → map id_of (rewritten_all cut.child (loses events cut.parent) es) ≡ map id_of es
      go [] = refl
      go (e ∷ es) = λ i. its e i ∷ go es i

  module _ (h : IsSound events) where
    may : (parents : List ℕ) (ops : List FileOp) → MayHave events parents ops → MayHave events (without_parent cut.parent parents) (ops_onto events (without_parent cut.parent parents) parents ops)
    may parents ops m = record {
      distinct = distinct_filter (λ q. not (q == cut.parent)) parents m.distinct;
      here = all_filter (IsHere events) (λ q. not (q == cut.parent)) parents m.here;
      fine = onto_fine events h (without_parent cut.parent parents) parents ops m.fine;
    }

    pub parted_lawful : AllByRecursion IsLawful (parted events cut)
    parted_lawful = lawful_all cut.child (loses events cut.parent) events h may

    pub parted_spelled : AllByRecursion IsFormedEvent (parted events cut)
    parted_spelled = spelled_all cut.child (loses events cut.parent) events h may

    pub parted_few : AllByRecursion HasFewParents (parted events cut)
    parted_few =
        few_new cut.child (loses events cut.parent) events
        (λ parents f. le_trans (filter_shorter (λ q. not (q == cut.parent)) parents) f) (in_parts events h).few

    pub parted_once : AreOnce (parted events cut)
    parted_once = once_same cut.child (loses events cut.parent) events (in_parts events h).once

    pub parted_order : AreInOrder [] (parted events cut)
    parted_order =
        in_order cut.child (loses events cut.parent) events
        (λ xs e es is its parents ops a b. (
          all_filter (IsHere xs) (λ q. not (q == cut.parent)) parents a,
          onto_blobs events h xs e es is (without_parent cut.parent parents) parents ops a b,
        ))
        (in_parts events h).in_order

    pub parted_fits : AllByRecursion (Fits (tree events)) (nodes (parted events cut))
    parted_fits =
        all_fit cut.child (loses events cut.parent) events h
        (λ id parents ops is a. onto_tree events h (without_parent cut.parent parents) parents ops (all_filter (IsHere events) (λ q. not (q == cut.parent)) parents a) a)

    pub parted_bytes : AllByRecursion (HasBytesOf events) (parted events cut)
    parted_bytes = bytes_new cut.child (loses events cut.parent) events h

    pub parted_one_of : AllByRecursion (IsRewritten cut.child (loses events cut.parent) events) (parted events cut)
    parted_one_of = one_of_all cut.child (loses events cut.parent) events h
