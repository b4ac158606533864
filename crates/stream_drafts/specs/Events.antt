-- The events that drafts stand for: a blob or a commit without a mark has 0 in its place, and a commit has no aliases.
use Rattle.std.specs.Prelude.{ℕ, List, [], map, Option, Some, None, unwrap_or}
use Rattle.plain_model.specs.declared.event.PlainEvent.{PlainEvent}
use Rattle.plain_model.specs.declared.event.PlainEvent.TheVariants as plain
use Rattle.plain_model.specs.declared.operation.FileOp.{FileOp}
use Rattle.plain_model.specs.Histories.{Node}
use Rattle.stream_drafts.specs.declared.draft.CommitFields.{CommitFields}
use Rattle.stream_drafts.specs.declared.draft.Draft.{Draft}
use Rattle.stream_drafts.specs.declared.draft.Draft.TheVariants as draft
use Rattle.stream_drafts.specs.declared.draft.Unmarked.{Unmarked}
use Rattle.stream_drafts.specs.declared.draft.Unmarked.TheVariants as unmarked

-- the mark, or 0 where there is none
abbrev pub number_or_0 : Option ℕ → ℕ
number_or_0 mark = unwrap_or mark 0

-- the commit with an id, a mark, if it has one, and its other fields
abbrev pub commit_of : ℕ → Option ℕ → CommitFields → PlainEvent
commit_of id mark c = plain.Commit id (number_or_0 mark) c.branch c.author c.committer c.encoding c.comment c.parents c.ops []

-- a blob or a commit that has no mark yet
abbrev pub event_without_mark : Unmarked → PlainEvent
event_without_mark (unmarked.Blob id bytes) = plain.Blob id 0 bytes
event_without_mark (unmarked.Commit id fields) = commit_of id None fields

abbrev pub event_of : Draft → PlainEvent
event_of (draft.Whole e) = e
event_of (draft.Unmarked u) = event_without_mark u.value

abbrev pub events_of : List Draft → List PlainEvent
events_of drafts = map event_of drafts

-- the commit that an event is, if it is one
abbrev pub own_node : PlainEvent → Option Node
own_node (plain.Commit id mark branch author committer encoding comment parents ops aliases) = Some (record { id = id; parents = parents; ops = ops })
own_node (plain.Blob id mark bytes) = None
own_node (plain.Tag id name target tagger comment mark) = None
own_node (plain.Reset id branch target) = None
own_node (plain.Pass id line) = None

-- a commit's parents and operations
abbrev pub links_of : Node → List ℕ × List FileOp
links_of n = (n.parents, n.ops)
