-- The children of several commits, and flags for the children of those that have a flag.
use Rattle.std.specs.Prelude.{ℕ, ◌≡◌, Bool, false, List, [], flat_map, length, map, Some, slice_get, slice_index_or}
use Rattle.std.specs.List.{list_any}
use Rattle.plain_model.specs.declared.id.AnyId.{AnyId}
use Rattle.plain_model.specs.declared.id.AnyId.TheVariants as any
use Rattle.plain_model.specs.declared.event.PlainEvent.{PlainEvent}
use Rattle.plain_model.specs.Lookups.{children_of, event_parents}
use Rattle.graph_walk.specs.Flags.{is_flagged_commit}

-- the ids of a commit's children; other events have none
abbrev pub own_children : List PlainEvent → AnyId → List AnyId
own_children events (any.Commit c) = map any.Commit (children_of c events)
own_children events (any.Blob b) = []
own_children events (any.Tag t) = []
own_children events (any.Reset r) = []
own_children events (any.Pass p) = []

-- those of several commits, one after another
abbrev pub children_of_all : List PlainEvent → List AnyId → List AnyId
children_of_all events ids = flat_map (own_children events) ids

-- where a commit isn't marked as a child, none of its parents has a flag
pub record AreChildrenOf (flags : List Bool) (events : List PlainEvent) (children : List Bool) : Type 0 where
  pub count : length children ≡ length events
  pub none : (k : ℕ) (e : PlainEvent) → slice_get events k ≡ Some e → slice_index_or children k false ≡ false →
      list_any (is_flagged_commit flags events) (event_parents e) ≡ false
