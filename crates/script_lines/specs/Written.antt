-- How words are written in a line.
use Rattle.std.specs.Prelude.{Bool, false, not, ◌&&◌, ◌==◌, List, [], ◌∷◌, ◌++◌}
use Rattle.std.specs.List.{list_all}
use Rattle.plain_model.specs.Paths.{Bytes}
use Rattle.plain_model.specs.Blanks.{is_blank}
use Rattle.script_lines.specs.declared.word.Word.{Word}
use Rattle.script_lines.specs.declared.word.Word.TheVariants.{Plain, Quoted, Broken}
use Rattle.script_lines.specs.Words.{begins_plain}

-- how a word is written
abbrev pub written : Word → Bytes
written (Plain text) = text
written (Quoted text) = 34 ∷ (text ++ 34 ∷ [])
written (Broken rest) = rest

-- a word without quotes has a byte, no blank and no quote at its front; one in quotes has no quote
abbrev pub is_whole : Word → Bool
is_whole (Plain text) = begins_plain text && list_all (λ b. not (is_blank b)) text
is_whole (Quoted text) = list_all (λ b. not (b == 34)) text
is_whole (Broken rest) = false

-- words with a space after each
abbrev pub line_of : List Word → Bytes
line_of [] = []
line_of (word ∷ words) = written word ++ 32 ∷ line_of words
