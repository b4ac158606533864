-- A walk along first parents, from a commit back to one whose tree is kept or to the root. (own)
use Rattle.std.specs.Prelude.{◌≡◌, ℕ, List, [], ◌∷◌, ◌++◌, Option, Some, None, IsSome, length, option_and_then, slice_get}
use Rattle.std.specs.Option.{option_map_or}
use Rattle.plain_model.specs.declared.id.AnyId.TheVariants as any
use Rattle.plain_model.specs.declared.operation.FileOp.{FileOp}
use Rattle.plain_model.specs.declared.event.PlainEvent.{PlainEvent}
use Rattle.plain_model.specs.Histories.{folded, tree}
use Rattle.plain_model.specs.Lookups.{event_ops, event_parents, find_event}
use Rattle.plain_model.specs.Trees.{Tree}
use Rattle.manifest_cache.specs.Kept.{Kept, ops_to_fold}

-- the operations of the commit with the id
abbrev pub ops_at : List PlainEvent → ℕ → List FileOp
ops_at events c = option_map_or event_ops (find_event (any.Commit c) events) []

-- the first parent of an event, if it has parents
abbrev pub first_parent : PlainEvent → Option ℕ
first_parent e = slice_get (event_parents e) 0

-- the first parent of the commit with the id
abbrev pub parent_at : List PlainEvent → ℕ → Option ℕ
parent_at events c = option_and_then first_parent (find_event (any.Commit c) events)

-- the operations of the commits of a walk, the newest of which is first: those of the last come first
abbrev pub ops_back : List PlainEvent → List ℕ → List FileOp
ops_back events [] = []
ops_back events (c ∷ walk) = ops_back events walk ++ ops_at events c

-- a commit has a tree: that at which the walk ended, with the operations of the walk, and these are all that are to be folded
pub record Leads (kept : Kept) (events : List PlainEvent) (c : ℕ) (walk : List ℕ) (base : Tree) : Type 0 where
  pub there : IsSome (tree events c)
  pub tree : tree events c ≡ folded (ops_back events walk) (Some base)
  pub count : length (ops_back events walk) ≡ ops_to_fold kept events c
