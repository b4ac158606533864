-- `setfield`: a comment, a branch or a name is set (reposurgeon manual, `setfield`; which fields: own).
use Rattle.std.specs.Prelude.{List, map, if◌then◌else◌}
use Rattle.plain_model.specs.declared.id.AnyId.{AnyId}
use Rattle.plain_model.specs.declared.event.PlainEvent.{PlainEvent}
use Rattle.plain_model.specs.declared.event.PlainEvent.TheVariants.{Commit, Tag, Reset}
use Rattle.plain_model.specs.Lookups.{id_of, is_listed}
use Rattle.plain_model.specs.Paths.{Bytes}
use Rattle.event_fields.specs.Values.{PlainValue}
use Rattle.event_fields.specs.declared.field.Field.{Field}
use Rattle.event_fields.specs.declared.field.Field.TheVariants as field

-- the comment of a commit or a tag, the branch of a commit or a reset, the name of a tag; other events stay
abbrev pub with_text : Field → Bytes → PlainEvent → PlainEvent
with_text field.Comment text (Commit id mark branch author committer encoding comment parents ops aliases) =
    Commit id mark branch author committer encoding text parents ops aliases
with_text field.Comment text (Tag id name target tagger comment mark) = Tag id name target tagger text mark
with_text field.Branch text (Commit id mark branch author committer encoding comment parents ops aliases) =
    Commit id mark text author committer encoding comment parents ops aliases
with_text field.Branch text (Reset id branch target) = Reset id text target
with_text field.Name text (Tag id name target tagger comment mark) = Tag id text target tagger comment mark
with_text field text other = other

-- an event, with the value if it is one of the set
abbrev pub valued_in : PlainValue → List AnyId → PlainEvent → PlainEvent
valued_in value set e = if is_listed (id_of e) set then with_text value.field value.text e else e

-- the history after a field of selected events is set
abbrev pub set_field_of : PlainValue → List AnyId → List PlainEvent → List PlainEvent
set_field_of value set events = map (valued_in value set) events
