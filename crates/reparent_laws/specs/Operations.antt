-- `add` and `remove`: one operation more at the end of a commit, or some fewer (reposurgeon manual, `add`, `remove`;
-- the faults: own).
use Rattle.std.specs.Prelude.{ℕ, ◌-◌, Bool, false, not, ◌&&◌, ◌||◌, bytes_eq, nat_le, List, [], ◌∷◌, ◌++◌, filter, length, remove, Option, Some, None, Result, Ok, Err, if◌then◌else◌}
use Rattle.std.specs.List.{list_any}
use Rattle.plain_model.specs.declared.fault.Fault.{Fault}
use Rattle.plain_model.specs.declared.fault.Fault.TheVariants as fault
use Rattle.plain_model.specs.declared.id.AnyId.{AnyId}
use Rattle.plain_model.specs.declared.id.AnyId.TheVariants as any
use Rattle.plain_model.specs.declared.operation.Content.{Content}
use Rattle.plain_model.specs.declared.operation.Content.TheVariants as content
use Rattle.plain_model.specs.declared.operation.FileOp.{FileOp}
use Rattle.plain_model.specs.declared.operation.FileOp.TheVariants.{Modify, Delete, Copy, Rename, DeleteAll}
use Rattle.plain_model.specs.declared.raw.RawContent.{RawContent}
use Rattle.plain_model.specs.declared.raw.RawContent.TheVariants.{Marked, Object, Inline}
use Rattle.plain_model.specs.declared.raw.RawOp.{RawOp}
use Rattle.plain_model.specs.declared.raw.RawOp.TheVariants as raw
use Rattle.plain_model.specs.declared.event.PlainEvent.{PlainEvent}
use Rattle.plain_model.specs.Lookups.{find_mark}
use Rattle.plain_model.specs.Paths.{Bytes}
use Rattle.edit_laws.specs.Settling.{settle}
use Rattle.edit_laws.specs.Sweeping.{swept}
use Rattle.commit_laws.specs.Rewriting.{Rewrite, rewritten_all}
use Rattle.commit_laws.specs.Selected.{node_of, the_commit}
use Rattle.reparent_laws.specs.Faults.{any_fault, tree_fault, unless_fault}
use Rattle.reparent_laws.specs.declared.removal.Removal.{Removal}
use Rattle.reparent_laws.specs.declared.removal.Removal.TheVariants.{Index, At}

-- ---- add

-- the event is there and is a blob
abbrev pub as_blob : ℕ → Option AnyId → Result Content Fault
as_blob mark (Some (any.Blob b)) = Ok (content.Blob b)
as_blob mark other = Err (fault.NoSuchMark mark)

-- what an operation puts: the blob of a mark, or an object; none is read with its data inline
abbrev pub content_of : List PlainEvent → RawContent → Result Content Fault
content_of events (Marked mark) = as_blob mark (find_mark mark events)
content_of events (Object digits) = Ok (content.Object digits)
content_of events Inline = Err (fault.NoSuchMark 0)

-- the operation in this history
abbrev pub op_of : List PlainEvent → RawOp → Result FileOp Fault
op_of events (raw.Modify mode its path) = elim (content_of events its) [
  | Ok it ↦ Ok (Modify mode it path)
  | Err why ↦ Err why
]
op_of events (raw.Delete path) = Ok (Delete path)
op_of events (raw.Copy source target) = Ok (Copy source target)
op_of events (raw.Rename source target) = Ok (Rename source target)
op_of events raw.DeleteAll = Ok DeleteAll

-- it comes last
abbrev pub adds : FileOp → Rewrite
adds op = record { parents = λ parents. parents; ops = λ parents ops. ops ++ op ∷ [] }

-- settling comes to its end, since a blob refers to nothing
abbrev pub add_to : List PlainEvent → ℕ → FileOp → Result (List PlainEvent) Fault
add_to events c op = elim (settle (rewritten_all c (adds op) events)) [
  | Ok new ↦ unless_fault (any_fault new) new
  | Err never ↦ Ok events
]

-- the history after an operation was added, or the first fault: not one event, one that isn't a commit, no blob of the
-- mark, a limit, a tree that fails
abbrev pub add_of : RawOp → List AnyId → List PlainEvent → Result (List PlainEvent) Fault
add_of spelled set events = elim (the_commit events set) [
  | Ok c ↦ elim (op_of events spelled) [ Ok op ↦ add_to events c op | Err why ↦ Err why ]
  | Err why ↦ Err why
]

-- ---- remove

-- the path is the operation's, its source or its target
abbrev pub is_at : Bytes → FileOp → Bool
is_at path (Modify mode its its_path) = bytes_eq path its_path
is_at path (Delete its_path) = bytes_eq path its_path
is_at path (Copy source target) = bytes_eq path source || bytes_eq path target
is_at path (Rename source target) = bytes_eq path source || bytes_eq path target
is_at path DeleteAll = false

-- the operations that stay; they are numbered from 1
abbrev pub ops_without : Removal → List FileOp → List FileOp
ops_without (Index number) ops = remove ops (number - 1)
ops_without (At path) ops = filter (λ op. not (is_at path op)) ops

-- no operation has the number, or none is at the path
abbrev pub removal_fault : Removal → List FileOp → Option Fault
removal_fault (Index number) ops =
    if nat_le 1 number && nat_le number (length ops) then None else Some (fault.BadIndex number)
removal_fault (At path) ops = if list_any (is_at path) ops then None else Some (fault.NoSuchPath path)

abbrev pub removes : Removal → Rewrite
removes what = record { parents = λ parents. parents; ops = λ parents ops. ops_without what ops }

-- blobs that only these operations named go too
abbrev pub removed : List PlainEvent → ℕ → Removal → List PlainEvent
removed events c what = swept events (rewritten_all c (removes what) events)

-- the history after operations were removed, or the first fault: not one event, one that isn't a commit, nothing to
-- remove, a tree that fails
abbrev pub remove_of : Removal → List AnyId → List PlainEvent → Result (List PlainEvent) Fault
remove_of what set events = elim (the_commit events set) [
  | Ok c ↦ elim (removal_fault what (node_of events c).ops) [
    | Some why ↦ Err why
    | None ↦ unless_fault (tree_fault (removed events c what)) (removed events c what)
  ]
  | Err why ↦ Err why
]
