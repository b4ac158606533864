-- What the forms of commands have in common. (reposurgeon manual; what is at fault: own)
use Rattle.std.specs.Prelude.{◌≡◌, List, [], ◌∷◌, ◌++◌, map, Option, Some, None, Result, Ok, Err}
use Rattle.plain_model.specs.Paths.{Bytes}
use Rattle.plain_model.specs.declared.fault.Fault.{Fault}
use Rattle.plain_model.specs.declared.fault.Fault.TheVariants as fault
use Rattle.script_lines.specs.Answering.{◌>>=◌}
use Rattle.script_lines.specs.Redirections.{redirected}
use Rattle.script_lines.specs.Texts.{at_fault, name_in, or_at_fault, text_before, texts_in, whole_in}
use Rattle.script_lines.specs.Words.{text_of}
use Rattle.script_lines.specs.declared.redirection.Direction.TheVariants.{Input, Output}
use Rattle.script_lines.specs.declared.word.Word.{Word}

-- a value after which no word is
abbrev pub alone : {A : Type 0} → A → List Word → Result A Fault
alone x [] = Ok x
alone x (word ∷ words) = at_fault word

-- `[>FILE]`
abbrev pub output_in : List Word → Result (Option Bytes) Fault
output_in [] = Ok None
output_in (word ∷ []) = or_at_fault word (redirected Output word) >>= λ file. Ok (Some file)
output_in (word ∷ next ∷ words) = at_fault word

-- `<FILE`, of a command word
abbrev pub input_in : Bytes → List Word → Result Bytes Fault
input_in head [] = Err (fault.BadWords head)
input_in head (word ∷ []) = or_at_fault word (redirected Input word)
input_in head (word ∷ next ∷ words) = at_fault word

-- `[NAME]`
abbrev pub name_within : List Word → Result (Option Bytes) Fault
name_within [] = Ok None
name_within (word ∷ []) = or_at_fault word (name_in word) >>= λ name. Ok (Some name)
name_within (word ∷ next ∷ words) = at_fault next

-- ---- the first word that doesn't fit

-- what is named is the first word with which none of these texts can go on; those before it begin one
pub record IsFirstUnfit (Begins : List Bytes → Type 0) (words : List Word) (named : Bytes) : Type 0 where
  pub front : List Word
  pub word : Word
  pub rest : List Word
  pub texts : List Bytes
  pub cut : words ≡ front ++ word ∷ rest
  pub name : named ≡ text_of word
  pub read : map whole_in front ≡ map Some texts
  pub fits : Begins texts
  pub unfit : (text : Bytes) → text_before rest word ≡ Some text → ¬ Begins (texts ++ text ∷ [])

-- all words fit, and further ones are wanting
pub record AreTooFew (Begins : List Bytes → Type 0) (words : List Word) : Type 0 where
  pub texts : List Bytes
  pub read : texts_in words ≡ Ok texts
  pub fits : Begins texts
