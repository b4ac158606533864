-- Selections before a command word, and which words take one. (reposurgeon manual, "Selection syntax"; where it ends: own)
use Rattle.std.specs.Prelude.{◌≡◌, ℕ, Bool, true, false, IsTrue, [], ◌∷◌, ◌++◌, ◌&&◌, length, take, drop, Option, Some, None, Result, Ok, Err, if◌then◌else◌}
use Rattle.plain_model.specs.Paths.{Bytes}
use Rattle.plain_model.specs.declared.fault.Fault.{Fault}
use Rattle.plain_model.specs.declared.fault.Fault.TheVariants as fault
use Rattle.selection_parser.specs.Plain.{PlainSelection}
use Rattle.selection_parser.specs.Reading.{selection_at}
use Rattle.selection_parser.specs.Texts.{has_utf8_texts}
use Rattle.selection_parser.specs.Views.{plain_of}
use Rattle.selection_parser.specs.declared.selection.Selection.{Selection}
use Rattle.script_lines.specs.Names.{is_letter}
use Rattle.script_lines.specs.Words.{head_of, without_blanks}
use Rattle.script_reader.specs.Edits.{may_select}
use Rattle.script_reader.specs.Keywords.{keyword_of}
use Rattle.script_reader.specs.declared.keyword.Keyword.{Keyword}
use Rattle.script_reader.specs.declared.keyword.Keyword.TheVariants as keyword

-- ---- a text that is a selection

-- the whole of a text is this selection
pub record IsWritten (text : Bytes) (selection : Selection) : Type 0 where
  pub whole : selection_at text ≡ Ok (plain_of selection, length text)
  pub texts : IsTrue (has_utf8_texts (plain_of selection))

-- ---- the front of a line

abbrev pub begins_with_letter : Bytes → Bool
begins_with_letter [] = false
begins_with_letter (b ∷ bs) = is_letter b

-- the selection of a line, if it has one, and what is after it and the blanks
pub record Front : Type 0 where
  pub selection : Option Bytes
  pub rest : Bytes

-- a line that is cut where the selection at its front ends
abbrev pub cut_at : Bytes → Result (PlainSelection × ℕ) ℕ → Result Front Fault
cut_at line (Ok read) = Ok (record { selection = Some (take read.1 line); rest = without_blanks (drop read.1 line) })
cut_at line (Err column) = Err (fault.BadSelection column)

-- a line that begins with a letter has no selection, and each other begins with one
unfoldable pub front_of : Bytes → Result Front Fault
front_of line =
    if begins_with_letter line then Ok (record { selection = None; rest = line }) else cut_at line (selection_at line)

-- ---- words that take one

-- a selection may be before the command word
abbrev pub takes_selection : Keyword → Bool
takes_selection (keyword.Plain word) = false
takes_selection keyword.Define = false
takes_selection (keyword.Edit word) = may_select word
takes_selection other = true

-- the same of a command word, if it is one
abbrev pub is_selective : Option Keyword → Bool
is_selective None = false
is_selective (Some word) = takes_selection word

-- there is a selection, and the command word takes none
abbrev pub is_superfluous : Option Bytes → Keyword → Bool
is_superfluous None word = false
is_superfluous (Some selection) word = if takes_selection word then false else true

-- ---- lines of macros

-- a line without a selection whose command word takes one
abbrev pub wants_selection : Bytes → Bool
wants_selection line = begins_with_letter line && is_selective (keyword_of (head_of line))

-- a line with the selection of its `do` before it, if that has one and the line wants it
abbrev pub with_selection : Option Bytes → Bytes → Bytes
with_selection None line = line
with_selection (Some selection) line = if wants_selection line then selection ++ 32 ∷ line else line
