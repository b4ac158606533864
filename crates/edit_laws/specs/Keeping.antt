-- What edits leave as it was. (own)
use Rattle.std.specs.Prelude.{IsTrue, List, None, Some, [], length, ℕ, ◌≡◌, ◌≤◌}
use Rattle.plain_model.specs.Histories.{Node, node_at, past, tree}
use Rattle.plain_model.specs.Lookups.{alias_count, find_event, id_of}
use Rattle.plain_model.specs.Snapshots.{shown_tree}
use Rattle.plain_model.specs.Soundness.{IsCommitOf, has_id}
use Rattle.plain_model.specs.Streams.{is_marked}
use Rattle.plain_model.specs.declared.event.PlainEvent.{PlainEvent}
use Rattle.plain_model.specs.declared.event.PlainEvent.TheVariants.{Blob, Commit, Pass, Reset, Tag}
use Rattle.plain_model.specs.declared.id.AnyId.{AnyId}
use Rattle.plain_model.specs.declared.id.AnyId.TheVariants as any

-- ---- nothing comes

-- no event comes, nor an id, a mark or an alias
pub record AddsNothing (old new : List PlainEvent) : Type 0 where
  pub events : length new ≤ length old
  pub ids : (id : AnyId) → IsTrue (has_id new id) → IsTrue (has_id old id)
  pub marks : (mark : ℕ) → IsTrue (is_marked new mark) → IsTrue (is_marked old mark)
  pub aliases : alias_count new ≤ alias_count old

-- ---- trees

-- each commit has the tree that it had, with the same bytes
pub record KeepsTrees (events new : List PlainEvent) : Type 0 where
  pub trees : (c : ℕ) → IsCommitOf events c → tree new c ≡ tree events c
  pub shown : (c : ℕ) → IsCommitOf events c → shown_tree new c ≡ shown_tree events c

-- each commit that is there has the tree that it had, with the same bytes
pub record HasTreesOf (events new : List PlainEvent) : Type 0 where
  pub trees : (c : ℕ) → IsCommitOf new c → tree new c ≡ tree events c
  pub shown : (c : ℕ) → IsCommitOf new c → shown_tree new c ≡ shown_tree events c

-- ---- events

-- the history has the commit, with the same operations
abbrev pub HasOperationsOf : List PlainEvent → Node → Type 0
HasOperationsOf events n = (old : Node) × (node_at (past events) n.id ≡ Some old) × (old.ops ≡ n.ops)

-- an event without its links: the parents and the operations of a commit, the target of a tag or a reset
abbrev pub unlinked : PlainEvent → PlainEvent
unlinked (Blob id mark bytes) = Blob id mark bytes
unlinked (Commit id mark branch author committer encoding comment parents ops aliases) =
    Commit id mark branch author committer encoding comment [] [] aliases
unlinked (Tag id name target tagger comment mark) = Tag id name 0 tagger comment mark
unlinked (Reset id branch (Some target)) = Reset id branch (Some 0)
unlinked (Reset id branch None) = Reset id branch None
unlinked (Pass id line) = Pass id line

-- the history had the event, and the two differ in their links alone
abbrev pub IsOneOf : List PlainEvent → PlainEvent → Type 0
IsOneOf events e = (old : PlainEvent) × (find_event (id_of e) events ≡ Some old) × (unlinked old ≡ unlinked e)

-- an event of any other kind than a blob
abbrev pub IsNoBlob : AnyId → Type 0
IsNoBlob (any.Blob b) = ⊥
IsNoBlob other = Unit {0}
