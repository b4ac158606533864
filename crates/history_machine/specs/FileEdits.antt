-- Why an edit is refused that the lines of a file say. (own)
use Rattle.plain_model.specs.declared.fault.Fault.{Fault}
use Rattle.plain_model.specs.declared.fault.Fault.TheVariants as fault

-- a fault that names a line: of a message, of its event or of the text that it checks, or a line that is no author
abbrev pub IsLineFault : Fault → Type 0
IsLineFault (fault.BadMessage n) = Unit {0}
IsLineFault (fault.NoSuchTarget n) = Unit {0}
IsLineFault (fault.CheckText n) = Unit {0}
IsLineFault (fault.BadAuthors n) = Unit {0}
IsLineFault other = ⊥
