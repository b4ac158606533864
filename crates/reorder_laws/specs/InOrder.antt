-- What a reorder leaves: the commits of the line on the parents that their order gives them, and all else as it was.
use Rattle.std.specs.Prelude.{◌≡◌, ℕ, List, ◌∷◌, Some}
use Rattle.std.specs.List.{AllByRecursion}
use Rattle.plain_model.specs.declared.event.PlainEvent.{PlainEvent}
use Rattle.plain_model.specs.declared.id.AnyId.{AnyId}
use Rattle.plain_model.specs.Histories.{Node, node_at, past}
use Rattle.plain_model.specs.Lookups.{find_event, id_of}
use Rattle.commit_laws.specs.Selected.{chosen, listed, node_of}
use Rattle.reorder_laws.specs.Reorder.{last_of, lined_up, relinked}

-- the commit is there, with these parents
abbrev pub HasParents : List PlainEvent → ℕ → List ℕ → Type 0
HasParents events c parents = (n : Node) × (node_at (past events) c ≡ Some n) × (n.parents ≡ parents)

-- The history has the event, and the two differ in nothing else than in the parents of a commit. A commit of the order has those that the
-- order gives it, any other those that it had, with the last of the order in the place of the last of the line.
abbrev pub IsOneInOrder : ℕ → List ℕ → ℕ → List ℕ → List PlainEvent → PlainEvent → Type 0
IsOneInOrder v vs w ws events e =
    (old : PlainEvent) × (find_event (id_of e) events ≡ Some old)
    × (relinked (lined_up (node_of events v).parents (w ∷ ws)) (last_of v vs) (last_of w ws) old ≡ e)

-- The line is the commits of the set as the list has them, and the order is that of the set. The first of the order has the parents of the
-- first of the line, and each further one has the commit before it.
pub record IsInOrder (set : List AnyId) (events new : List PlainEvent) : Type 0 where
  pub first : ℕ
  pub later : List ℕ
  pub front : ℕ
  pub behind : List ℕ
  pub line : listed set events ≡ first ∷ later
  pub order : chosen set ≡ front ∷ behind
  pub parents : AllByRecursion (λ g. HasParents new g.0 g.1) (lined_up (node_of events first).parents (front ∷ behind))
  pub events_in_order : AllByRecursion (IsOneInOrder first later front behind events) new
