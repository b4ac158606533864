-- What an expunge leaves as it is. (own)
use Rattle.std.specs.Prelude.{Bool, true, false, not, ◌||◌, List, [], ◌∷◌, Ok, Err, unwrap_or}
use Rattle.std.specs.List.{list_any}
use Rattle.plain_model.specs.declared.operation.FileOp.{FileOp}
use Rattle.plain_model.specs.declared.operation.FileOp.TheVariants.{Modify, Delete, Copy, Rename, DeleteAll}
use Rattle.plain_model.specs.declared.event.PlainEvent.{PlainEvent}
use Rattle.plain_model.specs.declared.event.PlainEvent.TheVariants.{Blob, Commit, Tag, Reset, Pass}
use Rattle.plain_model.specs.Histories.{begun, tree}
use Rattle.plain_model.specs.Paths.{Bytes}
use Rattle.plain_model.specs.Trees.{Tree, apply}
use Rattle.expunge_laws.specs.Replaced.{is_clear}

module _ (matched : Bytes → Bool) where
  -- the path of the operation is matched, or one that it takes or puts
  abbrev pub touches : FileOp → Tree → Bool
  touches (Modify mode content path) before = matched path
  touches (Delete path) before = matched path
  touches (Copy source target) before = not (is_clear matched source target before)
  touches (Rename source target) before = not (is_clear matched source target before)
  touches DeleteAll before = false

  -- one of the operations of a commit that begins with a tree
  abbrev pub one_touches : List FileOp → Tree → Bool
  one_touches [] before = false
  one_touches (op ∷ ops) before = touches op before || elim (apply op before) [
    | Ok next ↦ one_touches ops next
    | Err why ↦ false
  ]

  abbrev pub is_touched : List PlainEvent → PlainEvent → Bool
  is_touched events (Commit id mark branch author committer encoding comment parents ops aliases) =
      one_touches ops (unwrap_or (begun (tree events) parents) [])
  is_touched events (Blob id mark bytes) = false
  is_touched events (Tag id name target tagger comment mark) = false
  is_touched events (Reset id branch target) = false
  is_touched events (Pass id line) = false

  -- what is known without a tree: a copy or a rename may touch any path
  abbrev pub may_touch : FileOp → Bool
  may_touch (Modify mode content path) = matched path
  may_touch (Delete path) = matched path
  may_touch (Copy source target) = true
  may_touch (Rename source target) = true
  may_touch DeleteAll = false

  abbrev pub may_be_touched : PlainEvent → Bool
  may_be_touched (Commit id mark branch author committer encoding comment parents ops aliases) = list_any may_touch ops
  may_be_touched (Blob id mark bytes) = false
  may_be_touched (Tag id name target tagger comment mark) = false
  may_be_touched (Reset id branch target) = false
  may_be_touched (Pass id line) = false
