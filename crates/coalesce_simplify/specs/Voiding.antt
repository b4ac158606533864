-- Which operations are void, found from the last one to the first.
use Rattle.std.specs.Prelude.{ℕ, suc, ◌≡◌, ◌≤◌, Bool, false, ◌||◌, List, length, drop, Some, bytes_eq, slice_get, slice_index_or}
use Rattle.std.specs.List.{list_any}
use Rattle.plain_model.specs.declared.operation.FileOp.{FileOp}
use Rattle.plain_model.specs.declared.operation.FileOp.TheVariants.{Modify, Delete, Copy, Rename, DeleteAll}
use Rattle.plain_model.specs.Paths.{Bytes}
use Rattle.plain_model.specs.declared.event.PlainEvent.{PlainEvent}
use Rattle.plain_model.specs.declared.event.PlainEvent.TheVariants.{Blob, Commit, Tag, Reset, Pass}
use Rattle.simplify_laws.specs.Simplify.{deletes_at, is_deleteall, is_void, puts_at, simpler, up_to_a_copy}

-- whether there is a `deleteall`, and which paths are put and deleted before the first copy or rename
pub record Known : Type 0 where
  pub anew : Bool
  pub put : List Bytes
  pub deleted : List Bytes

-- whether it makes an operation void
abbrev pub void_by : Known → FileOp → Bool
void_by known (Modify mode content path) = known.anew || list_any (bytes_eq path) known.put
void_by known (Delete path) = known.anew || list_any (bytes_eq path) known.put || list_any (bytes_eq path) known.deleted
void_by known (Copy source target) = known.anew
void_by known (Rename source target) = known.anew
void_by known DeleteAll = known.anew

-- that is known of these operations
pub record Knows (later : List FileOp) (known : Known) : Type 0 where
  pub anew : known.anew ≡ list_any is_deleteall later
  pub put : (p : Bytes) → list_any (bytes_eq p) known.put ≡ list_any (puts_at p) (up_to_a_copy later)
  pub deleted : (p : Bytes) → list_any (bytes_eq p) known.deleted ≡ list_any (deletes_at p) (up_to_a_copy later)

-- flags say of the operations from a place on whether they are void
pub record AreVoid (ops : List FileOp) (from : ℕ) (flags : List Bool) : Type 0 where
  pub count : length flags ≡ length ops
  pub flag : (k : ℕ) (op : FileOp) → slice_get ops k ≡ Some op → from ≤ k → slice_index_or flags k false ≡ is_void op (drop (suc k) ops)

-- a commit without its void operations
abbrev pub simple_event : PlainEvent → PlainEvent
simple_event (Commit id mark branch author committer encoding comment parents ops aliases) =
    Commit id mark branch author committer encoding comment parents (simpler ops) aliases
simple_event (Blob id mark bytes) = Blob id mark bytes
simple_event (Tag id name target tagger comment mark) = Tag id name target tagger comment mark
simple_event (Reset id branch target) = Reset id branch target
simple_event (Pass id line) = Pass id line
