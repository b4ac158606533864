-- A commit with fewer operations: what is left is linked.
use Rattle.std.proofs.Common.{ℕ, List, sym, subst, reverse}
use Rattle.std.specs.List.{AllByRecursion}
use Rattle.plain_model.specs.declared.event.PlainEvent.{PlainEvent}
use Rattle.plain_model.specs.Histories.{IsLinkedPast, Node, past}
use Rattle.plain_model.specs.Lookups.{op_blobs}
use Rattle.plain_model.specs.Soundness.{IsSound}
use Rattle.edit_laws.proofs.Fine.{There, joined_blobs, parted_blobs}
use Rattle.edit_laws.proofs.Sound.{in_parts}
use Rattle.edit_laws.proofs.Swept.{swept_nodes}
use Rattle.edit_laws.proofs.Trees.{linked_in_order}
use Rattle.commit_laws.specs.Rewriting.{rewritten_all}
use Rattle.commit_laws.proofs.Rewritten.{in_order, once_same}
use Rattle.reparent_laws.specs.Operations.{ops_without, removed, removes}
use Rattle.reparent_laws.specs.declared.removal.Removal.{Removal}
use Rattle.reparent_laws.proofs.Operated.{without_all}

-- parents are earlier commits still
pub removed_linked : (events : List PlainEvent) → IsSound events → (c : ℕ) (what : Removal) → IsLinkedPast (past (removed events c what))
removed_linked events h c what =
    let fewer = rewritten_all c (removes what) events in
    subst (λ (ns : List Node). IsLinkedPast (reverse ns)) (sym (swept_nodes events fewer))
    (linked_in_order fewer (once_same c (removes what) events (in_parts events h).once)
    (in_order c (removes what) events
    (λ xs e es is its parents ops a b. (a, joined_blobs xs (ops_without what ops) (without_all (λ op. AllByRecursion (There xs) (op_blobs op)) what ops (parted_blobs xs ops b))))
    (in_parts events h).in_order))
