-- What is found wrong with two histories that are joined, in the order of the checks. (own)
use Rattle.std.specs.Prelude.{◌+◌, Bool, List, length, nat_lt, option_map, find, Option, Some, None, Result, Ok, Err, if◌then◌else◌}
use Rattle.std.specs.List.{list_any}
use Rattle.std.specs.Option.{option_or}
use Rattle.plain_model.specs.declared.fault.Fault.{Fault}
use Rattle.plain_model.specs.declared.fault.Fault.TheVariants as fault
use Rattle.plain_model.specs.declared.fault.Which.TheVariants as limit
use Rattle.plain_model.specs.declared.limit.TheConstants.{MAX_MARK, MAX_NAME_BYTES}
use Rattle.plain_model.specs.declared.event.PlainEvent.{PlainEvent}
use Rattle.plain_model.specs.Lookups.{greatest_mark, marks_of}
use Rattle.plain_model.specs.Paths.{Bytes}
use Rattle.edit_laws.specs.Passing.{limit_fault}
use Rattle.edit_laws.specs.Checking.{first_fault}
use Rattle.graft_laws.specs.Names.{names_of}

-- the first of the new names that is taken
abbrev pub name_fault : (Bytes → Bool) → List Bytes → Option Fault
name_fault is_taken names = option_map fault.NameTaken (find is_taken names)

-- marks that go on from the greatest would pass the last mark
abbrev pub marks_fault : List PlainEvent → List PlainEvent → Option Fault
marks_fault base new = if nat_lt MAX_MARK (greatest_mark base + length (marks_of new)) then Some fault.MarksSpent else None

-- a name has more bytes than one may have
abbrev pub long_name_fault : List PlainEvent → Option Fault
long_name_fault events =
    if list_any (λ name. nat_lt MAX_NAME_BYTES (length name)) (names_of events) then Some (fault.Limit limit.NameBytes MAX_NAME_BYTES) else None

-- where roots begin without files no tree can fail
abbrev pub tree_fault_unless : Bool → List PlainEvent → Option Fault
tree_fault_unless prune events = if prune then None else first_fault events events

-- the limits come before the trees
abbrev pub fault_after : Bool → List PlainEvent → Option Fault
fault_after prune events = option_or (limit_fault events) (option_or (long_name_fault events) (tree_fault_unless prune events))

-- the history, if nothing is wrong with it
abbrev pub unless_fault : Option Fault → List PlainEvent → Result (List PlainEvent) Fault
unless_fault (Some why) new = Err why
unless_fault None new = Ok new
