-- What a simplifying needs, and what it leaves as it was.
use Rattle.std.specs.Prelude.{◌≡◌, List, Some, IsSome}
use Rattle.plain_model.specs.declared.id.AnyId.{AnyId}
use Rattle.plain_model.specs.declared.id.AnyId.TheVariants as any
use Rattle.plain_model.specs.declared.event.PlainEvent.{PlainEvent}
use Rattle.plain_model.specs.Histories.{Node, begun, folded, tree}
use Rattle.plain_model.specs.Lookups.{find_event, id_of, is_listed}
use Rattle.simplify_laws.specs.Simplify.{ops_left, simplified_event}

-- the operations that are left of a commit can be carried out on the old tree of its first parent
abbrev pub CanBeCarriedOut : List AnyId → List PlainEvent → Node → Type 0
CanBeCarriedOut set events n =
    IsSome (folded (ops_left (is_listed (any.Commit n.id) set) n.ops) (begun (tree events) n.parents))

-- the history had the event, which is as it was, but for the operations of a selected commit, which are simpler
abbrev pub IsSimplified : List AnyId → List PlainEvent → PlainEvent → Type 0
IsSimplified set events e = (old : PlainEvent) × (find_event (id_of e) events ≡ Some old) × (simplified_event set old ≡ e)
