-- A history in which one commit has other parents and operations: its ids, marks and blobs are as they were; it can be settled,
-- or is in order as it is, and trees fit its commits, if what the one commit gets allows it.
use Rattle.std.proofs.Common.{◌≡◌, ℕ, ◌+◌, ◌≤◌, ◌<◌, Bool, true, false, cond, List, [], ◌∷◌, ◌++◌, length, map, refl, sym, ap, subst, ◌∙◌, eqb-true, append_assoc, Some, None, IsTrue}
use Rattle.std.specs.Prelude.{◌||◌, ◌==◌, flat_map}
use Rattle.std.specs.List.{AllByRecursion, list_all}
use Rattle.std.proofs.lemmas.List.{map-append}
use Rattle.plain_model.specs.declared.limit.TheConstants.{MAX_PARENTS}
use Rattle.plain_model.specs.declared.id.AnyId.{AnyId}
use Rattle.plain_model.specs.declared.id.AnyId.TheVariants as any
use Rattle.plain_model.specs.declared.operation.FileOp.{FileOp}
use Rattle.plain_model.specs.declared.event.PlainEvent.{PlainEvent}
use Rattle.plain_model.specs.declared.event.PlainEvent.TheVariants.{Blob, Commit, Tag, Reset, Pass}
use Rattle.plain_model.specs.Histories.{Node, begun, folded, node_at, nodes, past, tree}
use Rattle.plain_model.specs.Lookups.{id_of, op_blobs, referents_of, same_id}
use Rattle.plain_model.specs.Soundness.{IsFormedEvent, IsFormedOp, IsSound, are_distinct, has_id}
use Rattle.edit_laws.specs.Blobs.{HasBytesOf}
use Rattle.edit_laws.specs.Equations.{Fits}
use Rattle.edit_laws.specs.Parts.{AreInOrder, AreOnce, CanBeSettled, HasFewParents, IsAbove, IsLawful, IsLawfulOp, of_id, of_mark, one_if, tally}
use Rattle.edit_laws.specs.Settling.{is_ready}
use Rattle.history_laws.proofs.Lists.{all_imply, all_join}
use Rattle.history_laws.proofs.Ids.{has_id_append}
use Rattle.edit_laws.specs.Keeping.{HasOperationsOf}
use Rattle.edit_laws.proofs.Fine.{IsFine, There, fine_formed, fine_lawful, fine_there}
use Rattle.edit_laws.proofs.Lists.{OfNodes, all_rear, all_true, events_of_nodes, own_id, true_all}
use Rattle.edit_laws.proofs.Shown.{has_own_bytes}
use Rattle.edit_laws.proofs.Sound.{in_parts}
use Rattle.commit_laws.specs.Rewriting.{Rewrite, rewritten, rewritten_all}
use Rattle.commit_laws.proofs.Given.{IsGiven, IsHere, all_given, fine_ops, here_parents, parents_here, rank}

-- a commit may have these parents and these operations, after some events
pub record MayHave (xs : List PlainEvent) (parents : List ℕ) (ops : List FileOp) : Type 0 where
  pub distinct : are_distinct parents ≡ true
  pub here : AllByRecursion (IsHere xs) parents
  pub fine : AllByRecursion (IsFine xs) ops

module _ (c : ℕ) (how : Rewrite) where
  abbrev new_of : PlainEvent → PlainEvent
  new_of e = rewritten c how e

  same_id_of : (e : PlainEvent) → id_of (new_of e) ≡ id_of e
  same_id_of (Commit id mark branch author committer encoding comment parents ops aliases) =
      elim (id == c) as (λ b. id_of (cond b (Commit id mark branch author committer encoding comment (how.parents parents) (how.ops parents ops) aliases) (Commit id mark branch author committer encoding comment parents ops aliases)) ≡ any.Commit id) [ true ↦ refl | false ↦ refl ]
  same_id_of (Blob id mark bytes) = refl
  same_id_of (Tag id name target tagger comment mark) = refl
  same_id_of (Reset id branch target) = refl
  same_id_of (Pass id line) = refl

  one_same : (e : PlainEvent) (id : AnyId) → has_id (new_of e ∷ []) id ≡ has_id (e ∷ []) id
  one_same e id = own_id (new_of e) id ∙ ap (same_id id) (same_id_of e) ∙ sym (own_id e id)

  pub ids_same : (es : List PlainEvent) (id : AnyId) → has_id (rewritten_all c how es) id ≡ has_id es id
  ids_same [] id = refl
  ids_same (e ∷ es) id =
      has_id_append (new_of e ∷ []) (rewritten_all c how es) id
      ∙ (λ i. one_same e id i || ids_same es id i)
      ∙ sym (has_id_append (e ∷ []) es id)

  mark_same : (m : ℕ) (e : PlainEvent) → of_mark m (new_of e) ≡ of_mark m e
  mark_same m (Commit id mark branch author committer encoding comment parents ops aliases) =
      elim (id == c) as (λ b. of_mark m (cond b (Commit id mark branch author committer encoding comment (how.parents parents) (how.ops parents ops) aliases) (Commit id mark branch author committer encoding comment parents ops aliases)) ≡ of_mark m (Commit id mark branch author committer encoding comment parents ops aliases)) [ true ↦ refl | false ↦ refl ]
  mark_same m (Blob id mark bytes) = refl
  mark_same m (Tag id name target tagger comment mark) = refl
  mark_same m (Reset id branch target) = refl
  mark_same m (Pass id line) = refl

  sums_same : (f : PlainEvent → ℕ) → ((e : PlainEvent) → f (new_of e) ≡ f e) → (es : List PlainEvent) → tally f (rewritten_all c how es) ≡ tally f es
  sums_same f same [] = refl
  sums_same f same (e ∷ es) = λ i. same e i + sums_same f same es i

  pub once_same : (es : List PlainEvent) → AreOnce es → AreOnce (rewritten_all c how es)
  once_same es o = record {
    ids = λ id. subst (λ n. n ≤ 1) (sym (sums_same (of_id id) (λ e. ap one_if (one_same e id)) es)) (o.ids id);
    marks = λ m. subst (λ n. n ≤ 1) (sym (sums_same (of_mark m) (mark_same m) es)) (o.marks m);
  }

  pub all_new : (P Q : PlainEvent → Type 0) → ((e : PlainEvent) → P e → Q (new_of e)) → (es : List PlainEvent) → AllByRecursion P es → AllByRecursion Q (rewritten_all c how es)
  all_new P Q f [] a = tt
  all_new P Q f (e ∷ es) a = (f e a.0, all_new P Q f es a.1)

  -- what stands in one list stands in the other
  there_same : (es : List PlainEvent) (ids : List AnyId) → AllByRecursion (There es) ids → AllByRecursion (There (rewritten_all c how es)) ids
  there_same es ids a = all_imply (There es) (There (rewritten_all c how es)) (λ id x. ids_same es id ∙ x) ids a

  bytes_same : (events : List PlainEvent) (e : PlainEvent) → HasBytesOf events e → HasBytesOf events (new_of e)
  bytes_same events (Commit id mark branch author committer encoding comment parents ops aliases) f =
      elim (id == c) as (λ b. HasBytesOf events (cond b (Commit id mark branch author committer encoding comment (how.parents parents) (how.ops parents ops) aliases) (Commit id mark branch author committer encoding comment parents ops aliases))) [ true ↦ tt | false ↦ tt ]
  bytes_same events (Blob id mark bytes) f = f
  bytes_same events (Tag id name target tagger comment mark) f = tt
  bytes_same events (Reset id branch target) f = tt
  bytes_same events (Pass id line) f = tt

  pub bytes_new : (events : List PlainEvent) → IsSound events → AllByRecursion (HasBytesOf events) (rewritten_all c how events)
  bytes_new events h = all_new (HasBytesOf events) (HasBytesOf events) (bytes_same events) events (has_own_bytes events (in_parts events h).once)

  -- ---- settling

  module _ (events : List PlainEvent) (h : IsSound events)
      (may : (parents : List ℕ) (ops : List FileOp) → MayHave events parents ops → MayHave events (how.parents parents) (how.ops parents ops))
    where
      given_may : (parents : List ℕ) (ops : List FileOp) → are_distinct parents ≡ true → AllByRecursion IsLawfulOp ops → AllByRecursion IsFormedOp ops → list_all (has_id events) (map any.Commit parents ++ flat_map op_blobs ops) ≡ true → MayHave events parents ops
      given_may parents ops d l f r = record { distinct = d; here = parents_here events parents ops r; fine = fine_ops events parents ops l f r }

      lawful_new : (e : PlainEvent) → IsGiven events (rank events h) e → IsLawful (new_of e)
      lawful_new (Commit id mark branch author committer encoding comment parents ops aliases) g =
          let l = g.lawful in
          let m = may parents ops (given_may parents ops l.4 l.5 g.spelled.1 g.ready) in
          elim (id == c) as (λ b. IsLawful (cond b (Commit id mark branch author committer encoding comment (how.parents parents) (how.ops parents ops) aliases) (Commit id mark branch author committer encoding comment parents ops aliases))) [
            | true ↦ (l.0, l.1, l.2, l.3, m.distinct, fine_lawful events (how.ops parents ops) m.fine, l.6)
            | false ↦ l
          ]
      lawful_new (Blob id mark bytes) g = g.lawful
      lawful_new (Tag id name target tagger comment mark) g = g.lawful
      lawful_new (Reset id branch target) g = g.lawful
      lawful_new (Pass id line) g = g.lawful

      spelled_new : (e : PlainEvent) → IsGiven events (rank events h) e → IsFormedEvent (new_of e)
      spelled_new (Commit id mark branch author committer encoding comment parents ops aliases) g =
          let l = g.lawful in
          let m = may parents ops (given_may parents ops l.4 l.5 g.spelled.1 g.ready) in
          elim (id == c) as (λ b. IsFormedEvent (cond b (Commit id mark branch author committer encoding comment (how.parents parents) (how.ops parents ops) aliases) (Commit id mark branch author committer encoding comment parents ops aliases))) [
            | true ↦ (g.spelled.0, fine_formed events (how.ops parents ops) m.fine, g.spelled.2)
            | false ↦ g.spelled
          ]
      spelled_new (Blob id mark bytes) g = g.spelled
      spelled_new (Tag id name target tagger comment mark) g = g.spelled
      spelled_new (Reset id branch target) g = g.spelled
      spelled_new (Pass id line) g = g.spelled

      refers_new : (e : PlainEvent) → IsGiven events (rank events h) e → AllByRecursion (There events) (referents_of (new_of e))
      refers_new (Commit id mark branch author committer encoding comment parents ops aliases) g =
          let l = g.lawful in
          let m = may parents ops (given_may parents ops l.4 l.5 g.spelled.1 g.ready) in
          elim (id == c) as (λ b. AllByRecursion (There events) (referents_of (cond b (Commit id mark branch author committer encoding comment (how.parents parents) (how.ops parents ops) aliases) (Commit id mark branch author committer encoding comment parents ops aliases)))) [
            | true ↦ all_join (There events) (map any.Commit (how.parents parents)) (flat_map op_blobs (how.ops parents ops)) (here_parents events (how.parents parents) m.here) (fine_there events (how.ops parents ops) m.fine)
            | false ↦ all_true (has_id events) (map any.Commit parents ++ flat_map op_blobs ops) g.ready
          ]
      refers_new (Blob id mark bytes) g = tt
      refers_new (Tag id name target tagger comment mark) g = all_true (has_id events) (any.Commit target ∷ []) g.ready
      refers_new (Reset id branch None) g = tt
      refers_new (Reset id branch (Some target)) g = all_true (has_id events) (any.Commit target ∷ []) g.ready
      refers_new (Pass id line) g = tt

      ready_new : (e : PlainEvent) → IsGiven events (rank events h) e → is_ready (rewritten_all c how events) (new_of e) ≡ true
      ready_new e g = true_all (has_id (rewritten_all c how events)) (referents_of (new_of e)) (there_same events (referents_of (new_of e)) (refers_new e g))

      -- numbers of commits by which the change makes no circle
      module _ (number : ℕ → ℕ)
          (its : (id : ℕ) (parents : List ℕ) → (id == c) ≡ true → AllByRecursion (λ p. rank events h p < rank events h id) parents → AllByRecursion (IsHere events) parents → AllByRecursion (λ p. number p < number id) (how.parents parents))
          (others : (n : Node) → (n.id == c) ≡ false → AllByRecursion (λ p. rank events h p < rank events h n.id) n.parents → AllByRecursion (IsHere events) n.parents → node_at (past events) n.id ≡ Some n → AllByRecursion (λ p. number p < number n.id) n.parents)
        where
          low_new : (e : PlainEvent) → IsGiven events (rank events h) e → OfNodes (IsAbove number) (new_of e)
          low_new (Commit id mark branch author committer encoding comment parents ops aliases) g = go (id == c) refl
            where
              go : (b : Bool) → (id == c) ≡ b
                  → OfNodes (IsAbove number) (cond b (Commit id mark branch author committer encoding comment (how.parents parents) (how.ops parents ops) aliases) (Commit id mark branch author committer encoding comment parents ops aliases))
              go true is = (its id parents is g.low.0 (parents_here events parents ops g.ready), tt)
              go false is = (others (record { id = id; parents = parents; ops = ops }) is g.low.0 (parents_here events parents ops g.ready) g.found.0, tt)
          low_new (Blob id mark bytes) g = tt
          low_new (Tag id name target tagger comment mark) g = tt
          low_new (Reset id branch target) g = tt
          low_new (Pass id line) g = tt

          pub can_settle : CanBeSettled (rewritten_all c how events)
          can_settle =
              let given = all_given events h in record {
                lawful = all_new (IsGiven events (rank events h)) IsLawful lawful_new events given;
                spelled = all_new (IsGiven events (rank events h)) IsFormedEvent spelled_new events given;
                once = once_same events (in_parts events h).once;
                complete = all_new (IsGiven events (rank events h)) (λ e. IsTrue (is_ready (rewritten_all c how events) e)) ready_new events given;
                numbered = (number, events_of_nodes (IsAbove number) (rewritten_all c how events) (all_new (IsGiven events (rank events h)) (OfNodes (IsAbove number)) low_new events given));
              }

      pub spelled_all : AllByRecursion IsFormedEvent (rewritten_all c how events)
      spelled_all = all_new (IsGiven events (rank events h)) IsFormedEvent spelled_new events (all_given events h)

      pub lawful_all : AllByRecursion IsLawful (rewritten_all c how events)
      lawful_all = all_new (IsGiven events (rank events h)) IsLawful lawful_new events (all_given events h)

  -- ---- trees

  module _ (events : List PlainEvent) (h : IsSound events)
      (same_tree : (id : ℕ) (parents : List ℕ) (ops : List FileOp) → (id == c) ≡ true → AllByRecursion (IsHere events) parents → folded (how.ops parents ops) (begun (tree events) (how.parents parents)) ≡ folded ops (begun (tree events) parents))
    where
      fits_new : (e : PlainEvent) → IsGiven events (rank events h) e → OfNodes (Fits (tree events)) (new_of e)
      fits_new (Commit id mark branch author committer encoding comment parents ops aliases) g = go (id == c) refl
        where
          go : (b : Bool) → (id == c) ≡ b
              → OfNodes (Fits (tree events)) (cond b (Commit id mark branch author committer encoding comment (how.parents parents) (how.ops parents ops) aliases) (Commit id mark branch author committer encoding comment parents ops aliases))
          go true is = (g.fits.0 ∙ sym (same_tree id parents ops is (parents_here events parents ops g.ready)), tt)
          go false is = g.fits
      fits_new (Blob id mark bytes) g = tt
      fits_new (Tag id name target tagger comment mark) g = tt
      fits_new (Reset id branch target) g = tt
      fits_new (Pass id line) g = tt

      -- the old trees fit the commits after the change
      pub all_fit : AllByRecursion (Fits (tree events)) (nodes (rewritten_all c how events))
      all_fit = events_of_nodes (Fits (tree events)) (rewritten_all c how events) (all_new (IsGiven events (rank events h)) (OfNodes (Fits (tree events))) fits_new events (all_given events h))

  -- ---- order

  -- what it gets stands before it
  module _ (events : List PlainEvent)
      (after : (xs : List PlainEvent) (e : PlainEvent) (es : List PlainEvent) → events ≡ xs ++ e ∷ es → id_of e ≡ any.Commit c → (parents : List ℕ) (ops : List FileOp) → AllByRecursion (IsHere xs) parents → AllByRecursion (There xs) (flat_map op_blobs ops)
      → AllByRecursion (IsHere xs) (how.parents parents) × AllByRecursion (There xs) (flat_map op_blobs (how.ops parents ops)))
    where
      refers_before : (xs : List PlainEvent) (e : PlainEvent) (es : List PlainEvent) → events ≡ xs ++ e ∷ es → is_ready xs e ≡ true → AllByRecursion (There xs) (referents_of (new_of e))
      refers_before xs (Commit id mark branch author committer encoding comment parents ops aliases) es is r = go (id == c) refl
        where
          refs : AllByRecursion (There xs) (map any.Commit parents ++ flat_map op_blobs ops)
          refs = all_true (has_id xs) (map any.Commit parents ++ flat_map op_blobs ops) r

          go : (b : Bool) → (id == c) ≡ b
              → AllByRecursion (There xs) (referents_of (cond b (Commit id mark branch author committer encoding comment (how.parents parents) (how.ops parents ops) aliases) (Commit id mark branch author committer encoding comment parents ops aliases)))
          go true it =
              let new = after xs (Commit id mark branch author committer encoding comment parents ops aliases) es is (ap any.Commit (eqb-true id c it)) parents ops (parents_here xs parents ops r) (all_rear (There xs) (map any.Commit parents) (flat_map op_blobs ops) refs) in
              all_join (There xs) (map any.Commit (how.parents parents)) (flat_map op_blobs (how.ops parents ops)) (here_parents xs (how.parents parents) new.0) new.1
          go false it = refs
      refers_before xs (Blob id mark bytes) es is r = tt
      refers_before xs (Tag id name target tagger comment mark) es is r = all_true (has_id xs) (any.Commit target ∷ []) r
      refers_before xs (Reset id branch None) es is r = tt
      refers_before xs (Reset id branch (Some target)) es is r = all_true (has_id xs) (any.Commit target ∷ []) r
      refers_before xs (Pass id line) es is r = tt

      order_on : (xs es : List PlainEvent) → events ≡ xs ++ es → AreInOrder xs es → AreInOrder (rewritten_all c how xs) (rewritten_all c how es)
      order_on xs [] is s = tt
      order_on xs (e ∷ es) is s = (
        true_all (has_id (rewritten_all c how xs)) (referents_of (new_of e)) (there_same xs (referents_of (new_of e)) (refers_before xs e es is s.0)),
        subst (λ (l : List PlainEvent). AreInOrder l (rewritten_all c how es)) (map-append new_of xs (e ∷ [])) (order_on (xs ++ e ∷ []) es (is ∙ sym (append_assoc xs (e ∷ []) es)) s.1),
      )

      pub in_order : AreInOrder [] events → AreInOrder [] (rewritten_all c how events)
      in_order s = order_on [] events refl s

  -- ---- few parents

  pub few_new : (events : List PlainEvent) → ((parents : List ℕ) → length parents ≤ MAX_PARENTS → length (how.parents parents) ≤ MAX_PARENTS) → AllByRecursion HasFewParents events → AllByRecursion HasFewParents (rewritten_all c how events)
  few_new events less a = all_new HasFewParents HasFewParents one events a
    where
      one : (e : PlainEvent) → HasFewParents e → HasFewParents (new_of e)
      one (Commit id mark branch author committer encoding comment parents ops aliases) f =
          elim (id == c) as (λ b. HasFewParents (cond b (Commit id mark branch author committer encoding comment (how.parents parents) (how.ops parents ops) aliases) (Commit id mark branch author committer encoding comment parents ops aliases))) [
            | true ↦ less parents f
            | false ↦ f
          ]
      one (Blob id mark bytes) f = f
      one (Tag id name target tagger comment mark) f = f
      one (Reset id branch target) f = f
      one (Pass id line) f = f

  -- ---- operations that stay

  ops_stay : ((parents : List ℕ) (ops : List FileOp) → how.ops parents ops ≡ ops) → (events : List PlainEvent) (number : ℕ → ℕ) (e : PlainEvent) → IsGiven events number e → OfNodes (HasOperationsOf events) (new_of e)
  ops_stay same events number (Commit id mark branch author committer encoding comment parents ops aliases) g =
      let n : Node = record { id = id; parents = parents; ops = ops } in
      elim (id == c) as (λ b. OfNodes (HasOperationsOf events) (cond b (Commit id mark branch author committer encoding comment (how.parents parents) (how.ops parents ops) aliases) (Commit id mark branch author committer encoding comment parents ops aliases))) [
        | true ↦ ((n, g.found.0, sym (same parents ops)), tt)
        | false ↦ ((n, g.found.0, refl), tt)
      ]
  ops_stay same events number (Blob id mark bytes) g = tt
  ops_stay same events number (Tag id name target tagger comment mark) g = tt
  ops_stay same events number (Reset id branch target) g = tt
  ops_stay same events number (Pass id line) g = tt

  pub ops_all : ((parents : List ℕ) (ops : List FileOp) → how.ops parents ops ≡ ops) → (events : List PlainEvent) → IsSound events → AllByRecursion (OfNodes (HasOperationsOf events)) (rewritten_all c how events)
  ops_all same events h = all_new (IsGiven events (rank events h)) (OfNodes (HasOperationsOf events)) (ops_stay same events (rank events h)) events (all_given events h)
