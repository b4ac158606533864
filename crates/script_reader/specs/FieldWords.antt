-- The words of edits that set fields. (reposurgeon manual, `timeoffset`, `setfield`; what is at fault: own)
use Rattle.std.specs.Prelude.{List, [], ◌∷◌, Option, Some, None, option_and_then, Result, Ok, Err, codes}
use Rattle.plain_model.specs.Paths.{Bytes}
use Rattle.plain_model.specs.declared.fault.Fault.{Fault}
use Rattle.plain_model.specs.declared.fault.Fault.TheVariants as fault
use Rattle.event_fields.specs.Shifts.{PlainZone, shift_in, zone_in, zone_text}
use Rattle.event_fields.specs.Values.{field_of, value_of}
use Rattle.event_fields.specs.declared.field.Field.{Field}
use Rattle.script_lines.specs.Answering.{◌>>=◌}
use Rattle.script_lines.specs.Texts.{or_at_fault, text_before, whole_in}
use Rattle.script_lines.specs.declared.word.Word.{Word}
use Rattle.script_reader.specs.Forms.{alone}
use Rattle.script_reader.specs.declared.edit.Edit.{Edit}
use Rattle.script_reader.specs.declared.edit.Edit.TheVariants as edit

-- `[ZONE]`
abbrev pub zone_within : List Word → Result (Option PlainZone) Fault
zone_within [] = Ok None
zone_within (word ∷ words) = or_at_fault word (option_and_then zone_in (whole_in word)) >>= λ zone. alone (Some zone) words

-- `timeoffset SECONDS [ZONE]`
unfoldable pub timeoffset_words : List Word → Result Edit Fault
timeoffset_words [] = Err (fault.BadWords (codes "timeoffset"))
timeoffset_words (word ∷ words) =
    or_at_fault word (option_and_then shift_in (whole_in word)) >>= λ seconds. zone_within words >>= λ zone. Ok (edit.TimeOffset seconds zone)

-- `setfield FIELD VALUE`, after FIELD
abbrev pub value_within : Field → List Word → Result Edit Fault
value_within field [] = Err (fault.BadWords (codes "setfield"))
value_within field (word ∷ words) = or_at_fault word (option_and_then (value_of field) (text_before words word)) >>= λ value. alone (edit.SetField value) words

-- `setfield FIELD VALUE`
unfoldable pub setfield_words : List Word → Result Edit Fault
setfield_words [] = Err (fault.BadWords (codes "setfield"))
setfield_words (word ∷ words) = or_at_fault word (option_and_then field_of (whole_in word)) >>= λ field. value_within field words

-- a zone as it is written, if there is one
abbrev pub zone_texts : Option PlainZone → List Bytes
zone_texts None = []
zone_texts (Some zone) = zone_text zone ∷ []
