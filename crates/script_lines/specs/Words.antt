-- How a line falls into words. (own)
use Rattle.std.specs.Prelude.{◌==◌, ◌&&◌, not, Bool, true, false, List, [], ◌∷◌, ◌++◌, if◌then◌else◌}
use Rattle.plain_model.specs.Paths.{Bytes}
use Rattle.plain_model.specs.Blanks.{is_blank}
use Rattle.script_lines.specs.declared.word.Word.{Word}
use Rattle.script_lines.specs.declared.word.Word.TheVariants.{Plain, Quoted, Broken}

-- ---- the command word

-- what is before the first blank
abbrev pub head_of : Bytes → Bytes
head_of [] = []
head_of (b ∷ bs) = if is_blank b then [] else b ∷ head_of bs

-- what follows from the first blank on
abbrev pub after_head : Bytes → Bytes
after_head [] = []
after_head (b ∷ bs) = if is_blank b then b ∷ bs else after_head bs

-- without the blanks at its front
abbrev pub without_blanks : Bytes → Bytes
without_blanks [] = []
without_blanks (b ∷ bs) = if is_blank b then without_blanks bs else b ∷ bs

-- what is after the first word of a text
abbrev pub after_word : Bytes → Bytes
after_word text = without_blanks (after_head text)

-- ---- the words

-- where in a line we are
pub data Spot : Type 0 where
  -- between two words
  Between : Spot
  -- in a word without quotes, of which this has come
  InWord : Bytes → Spot
  -- in quotes: the line from the quote on, and what has come after it
  InQuotes : Bytes → Bytes → Spot
  -- after the closing quote: the line from the opening one on, and what is in the quotes
  Closed : Bytes → Bytes → Spot

-- the words of what is left of a line
abbrev pub words_from : Spot → Bytes → List Word
words_from Between [] = []
words_from (InWord came) [] = Plain came ∷ []
words_from (InQuotes rest came) [] = Broken rest ∷ []
words_from (Closed rest came) [] = Quoted came ∷ []
words_from Between (b ∷ bs) =
    if is_blank b then words_from Between bs
    else if b == 34 then words_from (InQuotes (b ∷ bs) []) bs
    else words_from (InWord (b ∷ [])) bs
words_from (InWord came) (b ∷ bs) =
    if is_blank b then Plain came ∷ words_from Between bs else words_from (InWord (came ++ b ∷ [])) bs
words_from (InQuotes rest came) (b ∷ bs) =
    if b == 34 then words_from (Closed rest came) bs else words_from (InQuotes rest (came ++ b ∷ [])) bs
words_from (Closed rest came) (b ∷ bs) = if is_blank b then Quoted came ∷ words_from Between bs else Broken rest ∷ []

-- the words of a text, with blanks between them
unfoldable pub words_of : Bytes → List Word
words_of bytes = words_from Between bytes

-- what a fault tells of a word
abbrev pub text_of : Word → Bytes
text_of (Plain text) = text
text_of (Quoted text) = text
text_of (Broken rest) = rest

-- ---- how a text begins

-- at its end, or with a blank
abbrev pub ends_word : Bytes → Bool
ends_word [] = true
ends_word (b ∷ bs) = is_blank b

-- with a byte that is no blank
abbrev pub begins_word : Bytes → Bool
begins_word [] = false
begins_word (b ∷ bs) = not (is_blank b)

-- with a byte that is neither a blank nor a quote
abbrev pub begins_plain : Bytes → Bool
begins_plain [] = false
begins_plain (b ∷ bs) = not (is_blank b) && not (b == 34)
