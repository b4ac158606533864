-- The fields of events, as patterns are searched in them (reposurgeon manual, "Selection syntax"; the letters: own).
use Rattle.std.specs.Prelude.{Bool, not, ◌||◌, List, [], ◌∷◌, ◌++◌, codes, Option, Some, None, if◌then◌else◌}
use Rattle.std.specs.List.{list_any}
use Rattle.plain_model.specs.Paths.{Bytes}
use Rattle.plain_model.specs.declared.person.Person.{Person}
use Rattle.plain_model.specs.declared.person.Signed.{Signed}
use Rattle.plain_model.specs.declared.event.PlainEvent.{PlainEvent}
use Rattle.plain_model.specs.declared.event.PlainEvent.TheVariants.{Blob, Commit, Tag, Reset, Pass}
use Rattle.byte_patterns.specs.Searching.{found_in}
use Rattle.selection_parser.specs.declared.field.FieldSet.{FieldSet}

-- the name, a space, and the email in angle brackets; also where the name is empty
abbrev pub person_text : Person → Bytes
person_text person = person.name ++ codes " <" ++ person.email ++ codes ">"

-- no letter was written
abbrev pub is_open : FieldSet → Bool
is_open fields = not (fields.authors || fields.comments || fields.names || fields.taggers || fields.branches)

-- a text where it is asked for
abbrev pub asked : Bool → Bytes → List Bytes
asked wanted text = if wanted then text ∷ [] else []

abbrev pub asked_person : Bool → Option Signed → List Bytes
asked_person wanted None = []
asked_person wanted (Some signed) = asked wanted (person_text signed.person)

-- the fields of an event: without letters a commit's comment, author and committer, a tag's comment, name and tagger, and
-- a passthrough's line
abbrev pub fields_of : FieldSet → PlainEvent → List Bytes
fields_of fields (Blob id mark bytes) = []
fields_of fields (Commit id mark branch author committer encoding comment parents ops aliases) =
    asked (is_open fields || fields.comments) comment
    ++ asked (is_open fields || fields.authors) (person_text author.person)
    ++ asked (is_open fields) (person_text committer.person)
    ++ asked fields.branches branch
fields_of fields (Tag id name target tagger comment mark) =
    asked (is_open fields || fields.comments) comment
    ++ asked (is_open fields || fields.names) name
    ++ asked_person (is_open fields || fields.taggers) tagger
fields_of fields (Reset id branch target) = asked fields.branches branch
fields_of fields (Pass id line) = asked (is_open fields) line

-- the pattern is found in one of them
unfoldable pub has_found : Bytes → FieldSet → PlainEvent → Bool
has_found text fields event = list_any (found_in text) (fields_of fields event)
