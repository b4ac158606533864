-- `simplify`: an operation is dropped where later ones of the same commit make it void. (own)
use Rattle.std.specs.Prelude.{Bool, true, false, ◌||◌, bytes_eq, List, [], ◌∷◌, map, Result, Ok, Err, if◌then◌else◌}
use Rattle.std.specs.List.{list_any}
use Rattle.plain_model.specs.declared.fault.Fault.{Fault}
use Rattle.plain_model.specs.declared.id.AnyId.{AnyId}
use Rattle.plain_model.specs.declared.id.AnyId.TheVariants as any
use Rattle.plain_model.specs.declared.operation.FileOp.{FileOp}
use Rattle.plain_model.specs.declared.operation.FileOp.TheVariants.{Modify, Delete, Copy, Rename, DeleteAll}
use Rattle.plain_model.specs.declared.event.PlainEvent.{PlainEvent}
use Rattle.plain_model.specs.declared.event.PlainEvent.TheVariants.{Blob, Commit, Tag, Reset, Pass}
use Rattle.plain_model.specs.Lookups.{is_listed}
use Rattle.plain_model.specs.Paths.{Bytes}
use Rattle.edit_laws.specs.Checking.{tree_check}
use Rattle.edit_laws.specs.Sweeping.{swept}

-- ---- one operation

abbrev pub is_deleteall : FileOp → Bool
is_deleteall DeleteAll = true
is_deleteall (Modify mode content path) = false
is_deleteall (Delete path) = false
is_deleteall (Copy source target) = false
is_deleteall (Rename source target) = false

-- it puts something at this very path
abbrev pub puts_at : Bytes → FileOp → Bool
puts_at p (Modify mode content path) = bytes_eq p path
puts_at p (Delete path) = false
puts_at p (Copy source target) = false
puts_at p (Rename source target) = false
puts_at p DeleteAll = false

abbrev pub deletes_at : Bytes → FileOp → Bool
deletes_at p (Delete path) = bytes_eq p path
deletes_at p (Modify mode content path) = false
deletes_at p (Copy source target) = false
deletes_at p (Rename source target) = false
deletes_at p DeleteAll = false

-- ---- all of a commit

-- the operations before the first copy or rename
abbrev pub up_to_a_copy : List FileOp → List FileOp
up_to_a_copy [] = []
up_to_a_copy (Copy source target ∷ ops) = []
up_to_a_copy (Rename source target ∷ ops) = []
up_to_a_copy (Modify mode content path ∷ ops) = Modify mode content path ∷ up_to_a_copy ops
up_to_a_copy (Delete path ∷ ops) = Delete path ∷ up_to_a_copy ops
up_to_a_copy (DeleteAll ∷ ops) = DeleteAll ∷ up_to_a_copy ops

-- The operations after it make it void: a `deleteall` does; a put does for a put or a deletion of the same path, and a
-- deletion for a deletion of the same path, with no copy or rename between the two.
abbrev pub is_void : FileOp → List FileOp → Bool
is_void (Modify mode content path) later = list_any is_deleteall later || list_any (puts_at path) (up_to_a_copy later)
is_void (Delete path) later =
    list_any is_deleteall later || list_any (puts_at path) (up_to_a_copy later) || list_any (deletes_at path) (up_to_a_copy later)
is_void (Copy source target) later = list_any is_deleteall later
is_void (Rename source target) later = list_any is_deleteall later
is_void DeleteAll later = list_any is_deleteall later

-- all that isn't void; what is later, and what is between, goes by the whole list, with what is dropped
abbrev pub simpler : List FileOp → List FileOp
simpler [] = []
simpler (op ∷ ops) = if is_void op ops then simpler ops else op ∷ simpler ops

-- ---- a history

-- the operations that a commit has afterwards, if it is selected
abbrev pub ops_left : Bool → List FileOp → List FileOp
ops_left selected ops = if selected then simpler ops else ops

abbrev pub simplified_event : List AnyId → PlainEvent → PlainEvent
simplified_event set (Commit id mark branch author committer encoding comment parents ops aliases) =
    Commit id mark branch author committer encoding comment parents (ops_left (is_listed (any.Commit id) set) ops) aliases
simplified_event set (Blob id mark bytes) = Blob id mark bytes
simplified_event set (Tag id name target tagger comment mark) = Tag id name target tagger comment mark
simplified_event set (Reset id branch target) = Reset id branch target
simplified_event set (Pass id line) = Pass id line

-- the selected commits are simplified, and blobs that nothing names any more go; the order stays
abbrev pub simplified : List AnyId → List PlainEvent → List PlainEvent
simplified set events = swept events (map (simplified_event set) events)

-- the history afterwards, or the first operation that a tree refuses
abbrev pub simplify_of : List AnyId → List PlainEvent → Result (List PlainEvent) Fault
simplify_of set events = elim (tree_check (simplified set events)) [ Ok done ↦ Ok (simplified set events) | Err why ↦ Err why ]
