-- How a move of paths is made. (own)
use Rattle.std.specs.Prelude.{◌≡◌, List, Some}
use Rattle.plain_model.specs.declared.event.PlainEvent.{PlainEvent}
use Rattle.plain_model.specs.declared.fault.Fault.TheVariants as fault
use Rattle.plain_model.specs.declared.fault.Which.TheVariants as limit
use Rattle.plain_model.specs.declared.limit.TheConstants.{MAX_PATH_BYTES}
use Rattle.plain_model.specs.Paths.{Bytes}
use Rattle.path_move_laws.specs.ByName.{GoesByName}
use Rattle.path_move_laws.specs.Moves.{first_of}
use Rattle.path_moves.specs.declared.courses.Course.{Course}
use Rattle.path_moves.specs.declared.courses.Course.TheVariants.{ByName, ByTrees, TooLong}

-- what is known of a history that is moved by the course
abbrev pub IsCourse : (Bytes → Bytes) → List PlainEvent → Course → Type 0
IsCourse f events ByName = GoesByName f events
IsCourse f events TooLong = first_of f events events ≡ Some (fault.Limit limit.PathBytes MAX_PATH_BYTES)
IsCourse f events ByTrees = Unit {0}
