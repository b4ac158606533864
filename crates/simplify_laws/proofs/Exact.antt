-- A simplifying is done exactly where the operations that are left can be carried out.
use Rattle.std.proofs.Common.{◌≡◌, ℕ, true, List, [], ◌∷◌, map, refl, sym, ap, subst, ◌∙◌, true≢false, Option, Some, None, Result, Ok, Err}
use Rattle.std.specs.Prelude.{IsSome}
use Rattle.std.specs.List.{AllByRecursion}
use Rattle.plain_model.specs.declared.fault.Fault.{Fault}
use Rattle.plain_model.specs.declared.id.AnyId.{AnyId}
use Rattle.plain_model.specs.declared.id.AnyId.TheVariants as any
use Rattle.plain_model.specs.declared.operation.FileOp.{FileOp}
use Rattle.plain_model.specs.declared.event.PlainEvent.{PlainEvent}
use Rattle.plain_model.specs.Histories.{Node, begun, folded, knows, nodes, past, tree}
use Rattle.plain_model.specs.Lookups.{is_listed}
use Rattle.plain_model.specs.Soundness.{IsCommitOf, IsSound}
use Rattle.plain_model.specs.Trees.{Tree}
use Rattle.ancestry_laws.proofs.Pasts.{known_past}
use Rattle.edit_laws.specs.Checking.{tree_check}
use Rattle.edit_laws.specs.Equations.{Fits}
use Rattle.edit_laws.proofs.Checked.{checked}
use Rattle.edit_laws.proofs.Swept.{swept_nodes}
use Rattle.edit_laws.proofs.Trees.{trees_fit, trees_solve}
use Rattle.simplify_laws.specs.Remaining.{CanBeCarriedOut}
use Rattle.simplify_laws.specs.Simplify.{ops_left, simplified, simplified_event, simplify_of}
use Rattle.simplify_laws.proofs.Simplified.{IsCarriedOut, all_known, begun_ordered, carried, carried_out, done, nodes_simple, old_fit, once, order, other_ids, simple_node, starts}

module _ (set : List AnyId) (events : List PlainEvent) (h : IsSound events) where
  abbrev new : List PlainEvent
  new = simplified set events

  abbrev Can : Node → Type 0
  Can n = CanBeCarriedOut set events n

  abbrev IsKnown : Node → Type 0
  IsKnown n = knows (past events) n.id ≡ true

  nodes_new : nodes new ≡ map (simple_node set) (nodes events)
  nodes_new = swept_nodes events (map (simplified_event set) events) ∙ nodes_simple set events

  -- ---- done

  new_fits : (n : Node) → Fits (tree events) n → IsCarriedOut set events h n → Can n → Fits (tree events) (simple_node set n)
  new_fits n fit carries can = go (folded (ops_left (is_listed (any.Commit n.id) set) n.ops) (begun (tree events) n.parents)) refl can
    where
      go : (o : Option Tree) → folded (ops_left (is_listed (any.Commit n.id) set) n.ops) (begun (tree events) n.parents) ≡ o → IsSome o →
          tree events n.id ≡ folded (ops_left (is_listed (any.Commit n.id) set) n.ops) (begun (tree events) n.parents)
      go None is some = absurd (true≢false (sym some))
      go (Some u) is some =
          fit
          ∙ carried set (is_listed (any.Commit n.id) set) n.ops (begun (tree events) n.parents) (begun (tree events) n.parents)
          (begun_ordered set (past events) n.parents) (λ t e. e) carries u is
          ∙ sym is

  all_fit : (ns : List Node) → AllByRecursion (Fits (tree events)) ns → AllByRecursion (IsCarriedOut set events h) ns →
      AllByRecursion Can ns → AllByRecursion (Fits (tree events)) (map (simple_node set) ns)
  all_fit [] f c k = tt
  all_fit (n ∷ ns) f c k = (new_fits n f.0 c.0 k.0, all_fit ns f.1 c.1 k.1)

  pub is_done : AllByRecursion Can (nodes events) → simplify_of set events ≡ Ok new
  is_done can =
      let fits = subst (AllByRecursion (Fits (tree events))) (sym nodes_new) (all_fit (nodes events) (old_fit set events h) (carried_out set events h) can) in
      let same = λ (c : ℕ) (there : IsCommitOf new c). trees_solve (tree events) new (order set events h) fits c there in
      let check = (checked new (once set events h) (order set events h)).0
      (λ c there. subst IsSome (sym (same c there)) (h.trees c (sym (other_ids set events c) ∙ there))) in
      ap (λ (r : Result (Unit {0}) Fault). elim r [ Ok y ↦ Ok new | Err why ↦ Err why ]) check

  -- ---- and nowhere else

  old_begun : (ops : List FileOp) (ps : List ℕ) → IsSome (folded ops (begun (tree new) ps)) → IsSome (folded ops (begun (tree events) ps))
  old_begun ops ps some = go (begun (tree new) ps) refl some
    where
      go : (o : Option Tree) → begun (tree new) ps ≡ o → IsSome (folded ops o) → IsSome (folded ops (begun (tree events) ps))
      go None is some = absurd (true≢false (sym some))
      go (Some t) is some = subst (λ (o : Option Tree). IsSome (folded ops o)) (sym (starts set events h ps t is)) some

  all_can : ((c : ℕ) → IsCommitOf new c → IsSome (tree new c)) → (ns : List Node) → AllByRecursion IsKnown ns →
      AllByRecursion (Fits (tree new)) (map (simple_node set) ns) → AllByRecursion Can ns
  all_can trees [] k f = tt
  all_can trees (n ∷ ns) k f = (
    old_begun (ops_left (is_listed (any.Commit n.id) set) n.ops) n.parents
        (subst IsSome f.0 (trees n.id (other_ids set events n.id ∙ sym (known_past events n.id) ∙ k.0))),
    all_can trees ns k.1 f.1,
  )

  pub can_be : tree_check new ≡ Ok tt → AllByRecursion Can (nodes events)
  can_be check =
      all_can ((checked new (once set events h) (order set events h)).1 check) (nodes events) (all_known set events h)
      (subst (AllByRecursion (Fits (tree new))) nodes_new (trees_fit new (once set events h) (order set events h)))

pub only_done : (set : List AnyId) (events result : List PlainEvent) → IsSound events →
    simplify_of set events ≡ Ok result → AllByRecursion (CanBeCarriedOut set events) (nodes events)
only_done set events result h d = can_be set events h (done set events result d).0
