-- Each commit of a sound history is found as it is.
use Rattle.std.proofs.Common.{◌≡◌, List, subst, Some}
use Rattle.std.specs.List.{AllByRecursion}
use Rattle.std.proofs.lemmas.List.{reverse-reverse}
use Rattle.plain_model.specs.declared.event.PlainEvent.{PlainEvent}
use Rattle.plain_model.specs.Histories.{Node, node_at, nodes, past}
use Rattle.plain_model.specs.Soundness.{IsSound}
use Rattle.ancestry_laws.proofs.Pasts.{linked_past}
use Rattle.edit_laws.proofs.Trees.{nodes_found}
use Rattle.history_laws.proofs.Lists.{all_reverse}

pub all_found : (events : List PlainEvent) → IsSound events → AllByRecursion (λ (n : Node). node_at (past events) n.id ≡ Some n) (nodes events)
all_found events h =
    subst (AllByRecursion (λ (n : Node). node_at (past events) n.id ≡ Some n)) (reverse-reverse (nodes events))
    (all_reverse (λ (n : Node). node_at (past events) n.id ≡ Some n) (past events) (nodes_found (past events) (linked_past events h)))
