-- The lines that a `do` puts in its place, taken one after another. (own)
use Rattle.std.specs.Prelude.{◌≡◌, List, [], ◌∷◌, IsTrue, Option, Some, None}
use Rattle.plain_model.specs.Paths.{Bytes}
use Rattle.script_lines.specs.Scripts.{is_long}
use Rattle.macro_lines.specs.declared.running.CalledLine.{CalledLine}
use Rattle.macro_lines.specs.declared.running.CalledLine.TheVariants as line

-- a line is this one, or has more bytes than a line may have
abbrev pub IsLine : CalledLine → Bytes → Type 0
IsLine (line.Whole text) bytes = bytes ≡ text
IsLine line.TooLong bytes = IsTrue (is_long bytes)

-- the first of some lines is taken, or there was none and is none
abbrev pub IsTaken : Option CalledLine → List Bytes → List Bytes → Type 0
IsTaken None old new = (old ≡ []) × (new ≡ [])
IsTaken (Some taken) old new = (first : Bytes) × IsLine taken first × (old ≡ first ∷ new)
