-- What is found wrong with a history after a change: a limit that it passes, or an operation that a tree refuses. (own)
use Rattle.std.specs.Prelude.{List, Option, Some, None, Result, Ok, Err}
use Rattle.std.specs.Option.{option_or}
use Rattle.plain_model.specs.declared.fault.Fault.{Fault}
use Rattle.plain_model.specs.declared.event.PlainEvent.{PlainEvent}
use Rattle.edit_laws.specs.Checking.{first_fault}
use Rattle.edit_laws.specs.Passing.{limit_fault}

-- the first operation that a tree refuses
abbrev pub tree_fault : List PlainEvent → Option Fault
tree_fault new = first_fault new new

-- the limits come before the trees
abbrev pub any_fault : List PlainEvent → Option Fault
any_fault new = option_or (limit_fault new) (tree_fault new)

-- the new history, if nothing is wrong with it
abbrev pub unless_fault : Option Fault → List PlainEvent → Result (List PlainEvent) Fault
unless_fault (Some why) new = Err why
unless_fault None new = Ok new
