-- What the tree check rests on, and what its calls answer. (own)
use Rattle.std.specs.Prelude.{◌≡◌, ℕ, ◌+◌, List, [], Option, Some, None, Result, Ok, Err, IsSome, flat_map}
use Rattle.std.specs.Prelude.{option_map, option_to_list, take}
use Rattle.plain_model.specs.declared.id.AnyId.TheVariants as any
use Rattle.plain_model.specs.declared.event.PlainEvent.{PlainEvent}
use Rattle.plain_model.specs.declared.event.PlainEvent.TheVariants.{Commit}
use Rattle.plain_model.specs.declared.fault.Halt.{Halt}
use Rattle.plain_model.specs.declared.fault.Halt.TheVariants as halt
use Rattle.plain_model.specs.declared.operation.FileOp.{FileOp}
use Rattle.plain_model.specs.Histories.{folded, tree}
use Rattle.plain_model.specs.Lookups.{commit_id, event_ops, find_event}
use Rattle.plain_model.specs.Trees.{Tree}
use Rattle.edit_laws.specs.Checking.{fault_of, first_fault, first_refused}
use Rattle.manifest_cache.specs.Walks.{first_parent}

-- each of these commits has a tree among the events
abbrev pub HaveTrees : List PlainEvent → List PlainEvent → Type 0
HaveTrees events some = (c : ℕ) → IsSome (find_event (any.Commit c) some) → IsSome (tree events c)

-- the commits with their first parents and operations: all that a tree depends on
abbrev pub own_link : PlainEvent → List (ℕ × Option ℕ × List FileOp)
own_link e = option_to_list (option_map (λ c. (c, first_parent e, event_ops e)) (commit_id e))

abbrev pub links : List PlainEvent → List (ℕ × Option ℕ × List FileOp)
links events = flat_map own_link events

-- the tree of a commit's first parent, or the empty one
abbrev pub begun_of : (ℕ → Option Tree) → Option ℕ → Option Tree
begun_of tree_of None = Some []
begun_of tree_of (Some p) = tree_of p

-- the operations are applied, or the first that is refused is reported
abbrev pub Applies : ℕ → List FileOp → Tree → Result (Unit {0}) Halt → Tree → Type 0
Applies mark ops old (Ok done) new = folded ops (Some old) ≡ Some new
Applies mark ops old (Err (halt.Refused f)) new = option_map (fault_of mark) (first_refused 1 ops old) ≡ Some f
Applies mark ops old (Err halt.Memory) new = Unit {0}

-- the commits have trees down to the one at the place, or its fault is reported
abbrev pub Checks : List PlainEvent → ℕ → Result (Unit {0}) Halt → Type 0
Checks events place (Ok done) = HaveTrees events (take (place + 1) events)
Checks events place (Err (halt.Refused f)) = first_fault events events ≡ Some f
Checks events place (Err halt.Memory) = Unit {0}
