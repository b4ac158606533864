-- Words as texts, and words at fault. (own)
use Rattle.std.specs.Prelude.{List, [], ◌∷◌, Option, Some, None, Result, Ok, Err, if◌then◌else◌}
use Rattle.plain_model.specs.Paths.{Bytes}
use Rattle.plain_model.specs.declared.fault.Fault.{Fault}
use Rattle.plain_model.specs.declared.fault.Fault.TheVariants as fault
use Rattle.script_lines.specs.Answering.{◌>>=◌}
use Rattle.script_lines.specs.Redirections.{begins_with_sign}
use Rattle.script_lines.specs.Words.{text_of}
use Rattle.script_lines.specs.declared.word.Word.{Word}
use Rattle.script_lines.specs.declared.word.Word.TheVariants.{Plain, Quoted, Broken}

-- ---- words at fault

-- the words don't fit, and this one is the first at fault
abbrev pub at_fault : {A : Type 0} → Word → Result A Fault
at_fault word = Err (fault.BadWords (text_of word))

-- what a word was found to be, or the word is at fault
abbrev pub or_at_fault : {A : Type 0} → Word → Option A → Result A Fault
or_at_fault word (Some x) = Ok x
or_at_fault word None = at_fault word

-- ---- words as texts

-- a last word as a name: it isn't broken, and no redirection
abbrev pub name_in : Word → Option Bytes
name_in (Plain text) = if begins_with_sign text then None else Some text
name_in (Quoted text) = Some text
name_in (Broken rest) = None

-- a word as a name that isn't the last word, where `<` and `>` are no signs
abbrev pub whole_in : Word → Option Bytes
whole_in (Plain text) = Some text
whole_in (Quoted text) = Some text
whole_in (Broken rest) = None

-- a word as a text, before such others
abbrev pub text_before : List Word → Word → Option Bytes
text_before [] word = name_in word
text_before (next ∷ words) word = whole_in word

-- all words as texts; the last one is no redirection
abbrev pub texts_in : List Word → Result (List Bytes) Fault
texts_in [] = Ok []
texts_in (word ∷ words) = or_at_fault word (text_before words word) >>= λ text. texts_in words >>= λ texts. Ok (text ∷ texts)
