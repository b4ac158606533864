-- A text as the lines that it has, each with its block of data where one follows (git-fast-import, "Input format",
-- "Comments", `data`, `done`).
use Rattle.std.specs.Prelude.{◌≡◌, Bool, true, false, List, [], ◌∷◌, Some, Ok}
use Rattle.plain_model.specs.Fields.{block_in}
use Rattle.plain_model.specs.Parts.{line_at}
use Rattle.plain_model.specs.Paths.{Bytes}
use Rattle.stream_grammar.specs.declared.lines.Word.{Word}
use Rattle.stream_grammar.specs.declared.lines.Word.TheVariants as word
use Rattle.stream_grammar.specs.Lines.{is_comment, word_of}

-- a comment, which counts for nothing; a line; a line `data` and the bytes of its block; the line `done`
pub data Part : Type 0 where
  Comment : Bytes → Part
  Line : Bytes → Part
  WithData : Bytes → Bytes → Part
  DoneLine : Bytes → Part

-- the line of such a word has no block after it, and lines may follow it
abbrev pub is_alone : Word → Bool
is_alone word.Data = false
is_alone word.Done = false
is_alone _ = true

-- The text has these parts, one after another. A line ends at an LF or at the text's end, a block where its line says, and an LF
-- after a block is passed over. After the line `done` the text may go on in any way.
abbrev pub HasParts : Bytes → List Part → Type 0
HasParts text [] = text ≡ []
HasParts text (Comment line ∷ parts) =
    (rest : Bytes) × (line_at text ≡ Some (line, rest)) × (is_comment line ≡ true) × HasParts rest parts
HasParts text (Line line ∷ parts) =
    (rest : Bytes) × (line_at text ≡ Some (line, rest)) × (is_comment line ≡ false) × (is_alone (word_of line) ≡ true) × HasParts rest parts
HasParts text (WithData line bytes ∷ parts) =
    (block rest : Bytes) × (line_at text ≡ Some (line, block)) × (is_comment line ≡ false) × (word_of line ≡ word.Data)
    × (block_in line block ≡ Ok (bytes, rest)) × HasParts rest parts
HasParts text (DoneLine line ∷ parts) =
    (rest : Bytes) × (line_at text ≡ Some (line, rest)) × (is_comment line ≡ false) × (word_of line ≡ word.Done) × (parts ≡ [])

-- what the lines are, without comments
abbrev pub words_of : List Part → List Word
words_of [] = []
words_of (Comment line ∷ parts) = words_of parts
words_of (Line line ∷ parts) = word_of line ∷ words_of parts
words_of (WithData line bytes ∷ parts) = word.Data ∷ words_of parts
words_of (DoneLine line ∷ parts) = word.Done ∷ words_of parts
