-- Redirections: the last word of a line that names a file to read or to write. (reposurgeon manual; which names: own)
use Rattle.std.specs.Prelude.{ℕ, ◌==◌, ◌&&◌, ◌||◌, not, Bool, false, [], ◌∷◌, drop, Option, Some, None, if◌then◌else◌}
use Rattle.plain_model.specs.Paths.{Bytes}
use Rattle.script_lines.specs.declared.redirection.Direction.{Direction}
use Rattle.script_lines.specs.declared.redirection.Direction.TheVariants.{Input, Output}
use Rattle.script_lines.specs.declared.word.Word.{Word}
use Rattle.script_lines.specs.declared.word.Word.TheVariants.{Plain, Quoted, Broken}

-- `<` or `>`, with which a redirection begins
abbrev pub is_sign : ℕ → Bool
is_sign b = b == 60 || b == 62

-- the bytes begin with such a sign
abbrev pub begins_with_sign : Bytes → Bool
begins_with_sign [] = false
begins_with_sign (b ∷ bs) = is_sign b

-- a file's name after a sign: not empty, and without a sign at its front
abbrev pub is_target : Bytes → Bool
is_target [] = false
is_target (b ∷ bs) = not (is_sign b)

-- the sign of a direction
abbrev pub sign_of : Direction → ℕ
sign_of Input = 60
sign_of Output = 62

-- that sign, and such a name after it
abbrev pub is_redirection : Direction → Bytes → Bool
is_redirection direction [] = false
is_redirection direction (b ∷ name) = (b == sign_of direction) && is_target name

-- the file's name in a last word, if it is a right redirection in this direction: in quotes it is none
abbrev pub redirected : Direction → Word → Option Bytes
redirected direction (Plain text) = if is_redirection direction text then Some (drop 1 text) else None
redirected direction (Quoted text) = None
redirected direction (Broken rest) = None
