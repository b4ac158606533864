-- The lines of a macro that is run which are still to come. (own)
use Rattle.std.specs.Prelude.{List, [], Option, Some, None, Result, Ok, Err}
use Rattle.plain_model.specs.Paths.{Bytes}
use Rattle.plain_model.specs.declared.fault.Fault.{Fault}

-- the lines of a body that can be made, and none of another
abbrev pub made_lines : Result (List Bytes) Fault → List Bytes
made_lines (Ok lines) = lines
made_lines (Err fault) = []

-- the lines of a macro, if one is run
abbrev pub lines_left : Option (List Bytes) → List Bytes
lines_left None = []
lines_left (Some lines) = lines
