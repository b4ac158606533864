-- What a coalescing removes, and what it leaves as it was.
use Rattle.std.specs.Prelude.{◌≡◌, ℕ, ◌+◌, List, [], ◌∷◌, ◌++◌, Some, IsTrue}
use Rattle.plain_model.specs.declared.id.AnyId.{AnyId}
use Rattle.plain_model.specs.declared.id.AnyId.TheVariants as any
use Rattle.plain_model.specs.declared.operation.FileOp.{FileOp}
use Rattle.plain_model.specs.declared.event.PlainEvent.{PlainEvent}
use Rattle.plain_model.specs.declared.event.PlainEvent.TheVariants.{Commit}
use Rattle.plain_model.specs.Histories.{Node, node_at, nodes, past}
use Rattle.plain_model.specs.Lookups.{children_of, is_listed}
use Rattle.history_laws.specs.FirstParents.{ops_along}
use Rattle.squash_laws.specs.Takings.{links}

-- the commit has exactly one child, and both are selected
abbrev pub IsJoinedTo : List AnyId → List PlainEvent → ℕ → Type 0
IsJoinedTo set events c =
    (d : ℕ) × IsTrue (is_listed (any.Commit c) set) × IsTrue (is_listed (any.Commit d) set) × (children_of c events ≡ d ∷ [])

-- the parents of the first of these commits, or these parents where there are none
abbrev pub parents_of_oldest : List Node → List ℕ → List ℕ
parents_of_oldest [] parents = parents
parents_of_oldest (n ∷ later) parents = n.parents

-- the history had the commit, which has the parents of the oldest of the removed ones before it, their operations, oldest
-- first, and its own, and nothing else
abbrev pub TakesOver : List AnyId → List PlainEvent → Node → Type 0
TakesOver set events n =
    (old : Node) × (node_at (past events) n.id ≡ Some old)
    × (n.parents ≡ parents_of_oldest (links set events old.parents) old.parents)
    × (n.ops ≡ ops_along (links set events old.parents) ++ old.ops)

-- the sum over the operations
abbrev pub weigh : (FileOp → ℕ) → List FileOp → ℕ
weigh count [] = 0
weigh count (op ∷ ops) = count op + weigh count ops

-- the same operations, each as often, whatever commit has it: any way to count them gives as many
abbrev pub HasTheOperationsOf : List PlainEvent → List PlainEvent → Type 0
HasTheOperationsOf old new = (count : FileOp → ℕ) → weigh count (ops_along (nodes new)) ≡ weigh count (ops_along (nodes old))
