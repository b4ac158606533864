-- What each change makes of a list of events. (own)
use Rattle.std.specs.Prelude.{ℕ, Bool, true, false, not, List, [], ◌∷◌, Some, is_some, if◌then◌else◌, filter, flat_map, map, option_to_list}
use Rattle.std.specs.List.Sorted.{IsPermutation}
use Rattle.plain_model.specs.declared.id.AnyId.{AnyId}
use Rattle.plain_model.specs.declared.id.AnyId.TheVariants as any
use Rattle.plain_model.specs.declared.operation.FileOp.{FileOp}
use Rattle.plain_model.specs.declared.person.Signed.{Signed}
use Rattle.plain_model.specs.declared.event.PlainEvent.{PlainEvent}
use Rattle.plain_model.specs.declared.event.PlainEvent.TheVariants.{Blob, Commit, Tag, Reset}
use Rattle.plain_model.specs.Lookups.{find_event, id_of, is_listed, same_id}
use Rattle.plain_model.specs.Paths.{Bytes}
use Rattle.event_arena.specs.declared.field.Field.{Field}
use Rattle.event_arena.specs.declared.field.Field.TheVariants as field
use Rattle.event_arena.specs.declared.field.Role.{Role}
use Rattle.event_arena.specs.declared.field.Role.TheVariants.{Author, Committer, Tagger}

-- ---- which events there are, and in what order

-- without the event that has the id
abbrev pub without : AnyId → List PlainEvent → List PlainEvent
without id [] = []
without id (e ∷ events) = if same_id id (id_of e) then events else e ∷ without id events

-- without the events that have these ids
abbrev pub without_all : List AnyId → List PlainEvent → List PlainEvent
without_all ids events = filter (λ e. not (is_listed (id_of e) ids)) events

-- with one more event right after the one that has the id
abbrev pub put_after : AnyId → PlainEvent → List PlainEvent → List PlainEvent
put_after id new [] = []
put_after id new (e ∷ events) = if same_id id (id_of e) then e ∷ new ∷ events else e ∷ put_after id new events

-- the order has the id of each event once, and no others
abbrev pub IsOrderOf : List AnyId → List PlainEvent → Type 0
IsOrderOf order events = IsPermutation (map id_of events) order

-- the events with these ids, in the order of the ids
abbrev pub in_order : List AnyId → List PlainEvent → List PlainEvent
in_order order events = flat_map (λ id. option_to_list (find_event id events)) order

-- ---- what an event is

-- with the event that has the id changed
abbrev pub changed : AnyId → (PlainEvent → PlainEvent) → List PlainEvent → List PlainEvent
changed id change [] = []
changed id change (e ∷ events) = if same_id id (id_of e) then change e ∷ events else e ∷ changed id change events

-- a commit with other parents
abbrev pub with_parents : List ℕ → PlainEvent → PlainEvent
with_parents new (Commit id mark branch author committer encoding comment parents ops aliases) = Commit id mark branch author committer encoding comment new ops aliases
with_parents new other = other

-- a commit with other operations
abbrev pub with_ops : List FileOp → PlainEvent → PlainEvent
with_ops new (Commit id mark branch author committer encoding comment parents ops aliases) = Commit id mark branch author committer encoding comment parents new aliases
with_ops new other = other

-- a blob, a commit or a tag that has a mark with another
abbrev pub with_mark : ℕ → PlainEvent → PlainEvent
with_mark new (Blob id mark bytes) = Blob id new bytes
with_mark new (Commit id mark branch author committer encoding comment parents ops aliases) = Commit id new branch author committer encoding comment parents ops aliases
with_mark new (Tag id name target tagger comment (Some old)) = Tag id name target tagger comment (Some new)
with_mark new other = other

-- a commit with other aliases
abbrev pub with_aliases : List ℕ → PlainEvent → PlainEvent
with_aliases new (Commit id mark branch author committer encoding comment parents ops aliases) = Commit id mark branch author committer encoding comment parents ops new
with_aliases new other = other

-- a commit or a reset of another branch, a tag of another name
abbrev pub with_label : Bytes → PlainEvent → PlainEvent
with_label new (Commit id mark branch author committer encoding comment parents ops aliases) = Commit id mark new author committer encoding comment parents ops aliases
with_label new (Tag id name target tagger comment mark) = Tag id new target tagger comment mark
with_label new (Reset id branch target) = Reset id new target
with_label new other = other

-- a tag or a reset of another commit
abbrev pub with_target : ℕ → PlainEvent → PlainEvent
with_target new (Tag id name target tagger comment mark) = Tag id name new tagger comment mark
with_target new (Reset id branch target) = Reset id branch (Some new)
with_target new other = other

-- a commit or a tag with another comment
abbrev pub with_comment : Bytes → PlainEvent → PlainEvent
with_comment new (Commit id mark branch author committer encoding comment parents ops aliases) = Commit id mark branch author committer encoding new parents ops aliases
with_comment new (Tag id name target tagger comment mark) = Tag id name target tagger new mark
with_comment new other = other

-- a commit with another author or committer, a tag with another tagger
abbrev pub with_signed : Role → Signed → PlainEvent → PlainEvent
with_signed Author new (Commit id mark branch author committer encoding comment parents ops aliases) = Commit id mark branch new committer encoding comment parents ops aliases
with_signed Committer new (Commit id mark branch author committer encoding comment parents ops aliases) = Commit id mark branch author new encoding comment parents ops aliases
with_signed Tagger new (Tag id name target tagger comment mark) = Tag id name target (Some new) comment mark
with_signed role new other = other

-- an event with a value in a field
abbrev pub with_field : Field → PlainEvent → PlainEvent
with_field (field.Parents parents) e = with_parents parents e
with_field (field.Ops ops) e = with_ops ops e
with_field (field.Mark mark) e = with_mark mark e
with_field (field.Aliases aliases) e = with_aliases aliases e
with_field (field.Label label) e = with_label label e
with_field (field.Target target) e = with_target target e
with_field (field.Comment comment) e = with_comment comment e
with_field (field.Signed role who) e = with_signed role who e

-- ---- which events have a field

-- a blob, a commit, and a tag that has one
abbrev pub has_mark : PlainEvent → Bool
has_mark (Blob id mark bytes) = true
has_mark (Commit id mark branch author committer encoding comment parents ops aliases) = true
has_mark (Tag id name target tagger comment mark) = is_some mark
has_mark other = false

-- of the others the kind of the id tells it

abbrev pub has_label : AnyId → Bool
has_label (any.Commit n) = true
has_label (any.Tag n) = true
has_label (any.Reset n) = true
has_label other = false

abbrev pub has_target : AnyId → Bool
has_target (any.Tag n) = true
has_target (any.Reset n) = true
has_target other = false

abbrev pub has_comment : AnyId → Bool
has_comment (any.Commit n) = true
has_comment (any.Tag n) = true
has_comment other = false

abbrev pub has_signed : Role → AnyId → Bool
has_signed Author (any.Commit n) = true
has_signed Committer (any.Commit n) = true
has_signed Tagger (any.Tag n) = true
has_signed role other = false
