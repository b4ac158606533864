-- Values of fields that a command sets (reposurgeon manual, `setfield`; which fields and which values: own).
use Rattle.std.specs.Prelude.{Bool, true, Option, Some, None, bytes_eq, codes, if◌then◌else◌}
use Rattle.plain_model.specs.Names.{is_name}
use Rattle.plain_model.specs.Paths.{Bytes}
use Rattle.event_fields.specs.declared.field.Field.{Field}
use Rattle.event_fields.specs.declared.field.Field.TheVariants as field

-- the word of a field
abbrev pub field_word : Field → Bytes
field_word field.Comment = codes "comment"
field_word field.Branch = codes "branch"
field_word field.Name = codes "name"

-- the field that a word is
abbrev pub field_of : Bytes → Option Field
field_of word =
    if bytes_eq word (field_word field.Comment) then Some field.Comment else
    if bytes_eq word (field_word field.Branch) then Some field.Branch else
    if bytes_eq word (field_word field.Name) then Some field.Name else None

-- a text may be the value of a field: branches and tags have names, and a comment is any text
abbrev pub is_value : Field → Bytes → Bool
is_value field.Comment text = true
is_value field.Branch text = is_name text
is_value field.Name text = is_name text

-- a text, if it is a name
abbrev pub if_name : Bytes → Option Bytes
if_name text = if is_name text then Some text else None

-- a text, if it may be the value of the field
abbrev pub text_of : Field → Bytes → Option Bytes
text_of field.Comment text = Some text
text_of field.Branch text = if_name text
text_of field.Name text = if_name text

-- a field with a text
pub record PlainValue : Type 0 where
  pub field : Field
  pub text : Bytes

-- the value of a field that a text is
abbrev pub value_of : Field → Bytes → Option PlainValue
value_of what text = if is_value what text then Some (record { field = what; text = text }) else None
