-- Other parents, none of which descends from the commit: what is left can be settled, and with the tree written out each
-- commit has the tree that it had.
use Rattle.std.proofs.Common.{◌≡◌, ℕ, suc, ◌+◌, ◌<◌, Bool, true, false, cond, List, [], ◌∷◌, find, refl, sym, ap, subst, ◌∙◌, inl, inr, arith, Some, None, Ok}
use Rattle.std.specs.Prelude.{◌&&◌, ◌==◌, if◌then◌else◌}
use Rattle.std.specs.List.{AllByRecursion}
use Rattle.std.proofs.lemmas.Bool.{and_from, cases_Bool, eqb-true, or_left, or_right}
use Rattle.plain_model.specs.declared.id.AnyId.{AnyId}
use Rattle.plain_model.specs.declared.operation.FileOp.{FileOp}
use Rattle.plain_model.specs.declared.event.PlainEvent.{PlainEvent}
use Rattle.plain_model.specs.Histories.{Node, Past, begun, folded, node_at, past, tree}
use Rattle.plain_model.specs.Soundness.{IsCommitOf, IsSound, are_distinct, has_id}
use Rattle.ancestry_laws.specs.Ancestry.{descends, is_one_of, is_parent_in}
use Rattle.ancestry_laws.specs.Ancestry.IsPathOfParents.{through}
use Rattle.ancestry_laws.proofs.Descent.{all_here, child_known, from_itself}
use Rattle.ancestry_laws.proofs.Pasts.{known_past}
use Rattle.ancestry_laws.proofs.Paths.{descent_path}
use Rattle.edit_laws.specs.Blobs.{HasBytesOf}
use Rattle.edit_laws.specs.Keeping.{AddsNothing}
use Rattle.edit_laws.specs.Parts.{CanBeSettled}
use Rattle.edit_laws.specs.Settling.{settle}
use Rattle.edit_laws.proofs.Fine.{IsFine}
use Rattle.edit_laws.proofs.Lists.{all_among}
use Rattle.edit_laws.proofs.Settles.{settled_all, settled_ids, settled_sums, settled_trees, settling_ends}
use Rattle.commit_laws.specs.Rewriting.{rewritten_all}
use Rattle.commit_laws.proofs.Given.{IsHere, rank}
use Rattle.commit_laws.proofs.Rewritten.{MayHave, all_fit, bytes_new, can_settle, ids_same}
use Rattle.reparent_laws.specs.Remaining.{IsRewritten}
use Rattle.reparent_laws.specs.Reparent.{descendant, ops_onto, reparents}
use Rattle.reparent_laws.proofs.Changed.{adds_nothing, one_of_all}
use Rattle.reparent_laws.proofs.Onto.{onto_fine, onto_tree}

-- ---- parents and descent

-- a parent of a commit that is there is one of its parents
parent_link : (older : Past) (x : ℕ) (n : Node) (p : ℕ) → node_at older x ≡ Some n → is_one_of n.parents p ≡ true → is_parent_in older p x ≡ true
parent_link [] x n p found among = absurd cc
parent_link (m ∷ older) x n p found among = go (m.id == x) refl found (λ e. parent_link older x n p e among)
  where
    go : (b : Bool) → (m.id == x) ≡ b → cond b (Some m) (node_at older x) ≡ Some n → (node_at older x ≡ Some n → is_parent_in older p x ≡ true) → is_parent_in (m ∷ older) p x ≡ true
    go true is e f =
        let same : m ≡ n = cc in
        or_left ((m.id == x) && is_one_of m.parents p) (is_parent_in older p x)
        (and_from (m.id == x) (is_one_of m.parents p) is (ap (λ (k : Node). is_one_of k.parents p) same ∙ among))
    go false is e f = or_right ((m.id == x) && is_one_of m.parents p) (is_parent_in older p x) (f e)

none_passes : (test : ℕ → Bool) (ps : List ℕ) → find test ps ≡ None → AllByRecursion (λ p. test p ≡ false) ps
none_passes test [] h = tt
none_passes test (p ∷ ps) h = go (test p) refl h (none_passes test ps)
  where
    go : (b : Bool) → test p ≡ b → cond b (Some p) (find test ps) ≡ None → (find test ps ≡ None → AllByRecursion (λ p. test p ≡ false) ps) → (test p ≡ false) × AllByRecursion (λ p. test p ≡ false) ps
    go true is e f = absurd cc
    go false is e f = (is, f e)

-- ---- numbers

abbrev total : (ℕ → ℕ) → List ℕ → ℕ
total number [] = 0
total number (p ∷ ps) = number p + total number ps

module _ (rebase : Bool) (events : List PlainEvent) (h : IsSound events) (c : ℕ) (new : List ℕ) (there : IsHere events c) (here_new : AllByRecursion (IsHere events) new) (distinct_new : are_distinct new ≡ true) where
  abbrev descends_from : ℕ → Bool
  descends_from p = descends events (c ∷ []) p

  -- the parents of what is there pass on their descent
  pass_on : (n : Node) → node_at (past events) n.id ≡ Some n → AllByRecursion (IsHere events) n.parents → AllByRecursion (λ p. descends_from p ≡ true → descends_from n.id ≡ true) n.parents
  pass_on n found here = all_among (λ p. descends_from p ≡ true → descends_from n.id ≡ true) n.parents one
    where
      one : (p : ℕ) → is_one_of n.parents p ≡ true → descends_from p ≡ true → descends_from n.id ≡ true
      one p among d =
          let link = parent_link (past events) n.id n p found among in
          let its_here = sym (known_past events n.id) ∙ child_known (past events) p n.id link in
          (descent_path events c n.id h its_here).1 (through p n.id link ((descent_path events c p h (all_here (IsHere events) n.parents p here among)).0 d))

  own_descent : (id : ℕ) → (id == c) ≡ true → descends_from id ≡ true
  own_descent id is = ap descends_from (eqb-true id c is) ∙ from_itself (past events) c (known_past events c ∙ there)

  abbrev low : ℕ → ℕ
  low p = rank events h p

  -- what descends from the commit goes above all its new parents
  abbrev lift : ℕ
  lift = suc (total low new)

  abbrev number : ℕ → ℕ
  number p = low p + cond (descends_from p) lift 0

  lifted : (p : ℕ) → descends_from p ≡ true → number p ≡ low p + lift
  lifted p d = ap (λ b. low p + cond b lift 0) d

  not_lifted : (p : ℕ) → descends_from p ≡ false → number p ≡ low p
  not_lifted p d = let is = ap (λ b. low p + cond b lift 0) d in omega arith

  other_numbers : (n : Node) → (n.id == c) ≡ false → AllByRecursion (λ p. low p < low n.id) n.parents → AllByRecursion (IsHere events) n.parents → node_at (past events) n.id ≡ Some n → AllByRecursion (λ p. number p < number n.id) n.parents
  other_numbers n differs a k found = go n.parents a (pass_on n found k)
    where
      one : (p : ℕ) → low p < low n.id → (descends_from p ≡ true → descends_from n.id ≡ true) → number p < number n.id
      one p less pass =
          elim (cases_Bool (descends_from p)) [
            | inl d ↦ let up = lifted p d in let same = lifted n.id (pass d) in omega arith
            | inr d ↦ let stays = not_lifted p d in omega arith
          ]

      go : (ps : List ℕ) → AllByRecursion (λ p. low p < low n.id) ps → AllByRecursion (λ p. descends_from p ≡ true → descends_from n.id ≡ true) ps → AllByRecursion (λ p. number p < number n.id) ps
      go [] a f = tt
      go (p ∷ ps) a f = (one p a.0 f.0, go ps a.1 f.1)

  -- ---- settling

  abbrev pub left : List PlainEvent
  left = rewritten_all c (reparents rebase events new) events

  may_new : (parents : List ℕ) (ops : List FileOp) → MayHave events parents ops → MayHave events new (if rebase then ops else ops_onto events new parents ops)
  may_new parents ops m = record {
    distinct = distinct_new;
    here = here_new;
    fine =
        elim rebase as (λ b. AllByRecursion (IsFine events) (if b then ops else ops_onto events new parents ops)) [
          | true ↦ m.fine
          | false ↦ onto_fine events h new parents ops m.fine
        ];
  }

  module _ (none : descendant events c new ≡ None) where
    its_numbers : (id : ℕ) (parents : List ℕ) → (id == c) ≡ true → AllByRecursion (λ p. low p < low id) parents → AllByRecursion (IsHere events) parents → AllByRecursion (λ p. number p < number id) new
    its_numbers id parents is a k = go new (none_passes descends_from new none) 0 (omega arith)
      where
        go : (ps : List ℕ) → AllByRecursion (λ p. descends_from p ≡ false) ps → (before : ℕ) → before + total low ps ≡ total low new → AllByRecursion (λ p. number p < number id) ps
        go [] d before e = tt
        go (p ∷ ps) d before e =
            let one = not_lifted p d.0 in
            let two = lifted id (own_descent id is) in
            (omega arith, go ps d.1 (before + low p) (omega arith))

    pub left_settles : CanBeSettled left
    left_settles = can_settle c (reparents rebase events new) events h may_new number its_numbers other_numbers

    pub left_ends : (after : List PlainEvent) × (settle left ≡ Ok after)
    left_ends = settling_ends left left_settles

  -- ---- what is left, settled

  module _ (after : List PlainEvent) (is : settle left ≡ Ok after) where
    pub same_ids : (id : AnyId) → has_id after id ≡ has_id events id
    same_ids id = settled_ids left after is id ∙ ids_same c (reparents rebase events new) events id

    pub kept_trees : rebase ≡ false → (d : ℕ) → IsCommitOf after d → tree after d ≡ tree events d
    kept_trees default d k =
        settled_trees (tree events) left after
        (all_fit c (reparents rebase events new) events h
        (λ id parents ops it a. subst (λ b. folded (if b then ops else ops_onto events new parents ops) (begun (tree events) new) ≡ folded ops (begun (tree events) parents)) (sym default) (onto_tree events h new parents ops here_new a)))
        is d k

    pub same_bytes : AllByRecursion (HasBytesOf events) after
    same_bytes = settled_all (HasBytesOf events) left after (bytes_new c (reparents rebase events new) events h) is

    pub changes_one : AllByRecursion (IsRewritten c (reparents rebase events new) events) after
    changes_one = settled_all (IsRewritten c (reparents rebase events new) events) left after (one_of_all c (reparents rebase events new) events h) is

    pub no_event_more : AddsNothing events after
    no_event_more = adds_nothing c (reparents rebase events new) events after (λ f. let same = settled_sums left after is f in omega arith)
