-- What the lines of a text mean, one after another: what is known after them (git-fast-import, "Input format").
use Rattle.std.specs.Prelude.{◌≡◌, Bool, true, false, List, [], ◌∷◌, Result, Ok}
use Rattle.plain_model.specs.declared.event.PlainEvent.{PlainEvent}
use Rattle.plain_model.specs.declared.fault.Why.{Why}
use Rattle.plain_model.specs.Fields.{◌>>=◌}
use Rattle.plain_model.specs.Paths.{Bytes}
use Rattle.stream_grammar.specs.declared.lines.Word.{Word}
use Rattle.stream_grammar.specs.declared.lines.Word.TheVariants as word
use Rattle.stream_grammar.specs.Known.{Known, history_of, with_data}
use Rattle.stream_grammar.specs.Lines.{judged, nothing_known, word_of}
use Rattle.production_laws.specs.Texts.{Part, HasParts, words_of}
use Rattle.production_laws.specs.Texts.Part.{Comment, Line, WithData, DoneLine}
use Rattle.production_laws.specs.Productions.{Form, AreSpelled}

abbrev pub is_inline_word : Word → Bool
is_inline_word word.InlineOperation = true
is_inline_word _ = false

-- what is known after a part, unless a field has a defect; the flag says that the data are those of an operation
abbrev pub part_read : Bool → Part → Known → Result Known Why
part_read inline (Comment line) k = Ok k
part_read inline (Line line) k = judged (word_of line) line k
part_read inline (WithData line bytes) k = Ok (with_data inline bytes k)
part_read inline (DoneLine line) k = Ok k

-- the data that follow are those of the operation with `inline` that is the line before
abbrev pub is_inline_after : Bool → Part → Bool
is_inline_after inline (Comment line) = inline
is_inline_after inline (Line line) = is_inline_word (word_of line)
is_inline_after inline (WithData line bytes) = false
is_inline_after inline (DoneLine line) = false

abbrev pub parts_read : Bool → List Part → Known → Result Known Why
parts_read inline [] k = Ok k
parts_read inline (part ∷ parts) k = part_read inline part k >>= λ known. parts_read (is_inline_after inline part) parts known

-- The text is a stream of these forms with this history: it has parts, their lines are those of the forms, and what they mean, one
-- after another, is the history.
pub record HasHistory (text : Bytes) (forms : List Form) (events : List PlainEvent) : Type 0 where
  pub parts : List Part
  pub known : Known
  pub there : HasParts text parts
  pub spelled : AreSpelled forms (words_of parts)
  pub means : parts_read false parts nothing_known ≡ Ok known
  pub gives : history_of known ≡ events
