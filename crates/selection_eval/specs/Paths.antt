-- The events at paths (reposurgeon manual, "Selection syntax").
use Rattle.std.specs.Prelude.{Bool, false, ◌||◌, List, [], ◌∷◌, flat_map, Option, Some, None, if◌then◌else◌}
use Rattle.std.specs.List.{list_any}
use Rattle.plain_model.specs.Paths.{Bytes}
use Rattle.plain_model.specs.Histories.{tree}
use Rattle.plain_model.specs.Lookups.{id_of, is_listed}
use Rattle.plain_model.specs.Trees.{Tree}
use Rattle.plain_model.specs.declared.id.AnyId.TheVariants as any
use Rattle.plain_model.specs.declared.operation.Content.{Content}
use Rattle.plain_model.specs.declared.operation.Content.TheVariants.{Blob as OfBlob, Object}
use Rattle.plain_model.specs.declared.operation.FileOp.{FileOp}
use Rattle.plain_model.specs.declared.operation.FileOp.TheVariants.{Modify, Delete, Copy, Rename, DeleteAll}
use Rattle.plain_model.specs.declared.event.PlainEvent.{PlainEvent}
use Rattle.plain_model.specs.declared.event.PlainEvent.TheVariants.{Commit}
use Rattle.event_sets.specs.Sets.{Ids, passing}

-- ---- by operations

-- the path, the source or the target of an operation passes a test
abbrev pub touches : (Bytes → Bool) → FileOp → Bool
touches test (Modify mode content path) = test path
touches test (Delete path) = test path
touches test (Copy source target) = test source || test target
touches test (Rename source target) = test source || test target
touches test DeleteAll = false

abbrev pub content_blob : Content → Ids
content_blob (OfBlob b) = any.Blob b ∷ []
content_blob (Object digits) = []

-- the blob that an operation puts at a path that passes a test
abbrev pub put_at : (Bytes → Bool) → FileOp → Ids
put_at test (Modify mode content path) = if test path then content_blob content else []
put_at test other = []

abbrev pub ops_of : PlainEvent → List FileOp
ops_of (Commit id mark branch author committer encoding comment parents ops aliases) = ops
ops_of other = []

-- commits with an operation at such a path, and the blobs that are put there
unfoldable pub at_paths : (Bytes → Bool) → List PlainEvent → Ids
at_paths test events =
    let blobs = flat_map (λ e. flat_map (put_at test) (ops_of e)) events in
    passing (λ e. list_any (touches test) (ops_of e) || is_listed (id_of e) blobs) events

-- ---- by trees

abbrev pub tree_of : List PlainEvent → PlainEvent → Option Tree
tree_of events (Commit id mark branch author committer encoding comment parents ops aliases) = tree events id
tree_of events other = None

abbrev pub has_path : (Bytes → Bool) → Option Tree → Bool
has_path test None = false
has_path test (Some t) = list_any (λ e. test e.0) t

abbrev pub blobs_at : (Bytes → Bool) → Option Tree → Ids
blobs_at test None = []
blobs_at test (Some t) = flat_map (λ e. if test e.0 then content_blob e.1.content else []) t

-- commits whose tree has such a path, and the blobs that stand at such a path of some tree
unfoldable pub in_trees : (Bytes → Bool) → List PlainEvent → Ids
in_trees test events =
    let blobs = flat_map (λ e. blobs_at test (tree_of events e)) events in
    passing (λ e. has_path test (tree_of events e) || is_listed (id_of e) blobs) events
