-- How a settling ends.
use Rattle.std.specs.Prelude.{ℕ, ◌≡◌, List, ◌++◌, Some, Err, map}
use Rattle.std.specs.List.Sorted.{IsPermutation}
use Rattle.plain_model.specs.declared.id.AnyId.{AnyId}
use Rattle.plain_model.specs.declared.event.PlainEvent.{PlainEvent}
use Rattle.plain_model.specs.declared.fault.Fault.TheVariants.{Cycle}
use Rattle.plain_model.specs.declared.fault.Halt.{Halt}
use Rattle.plain_model.specs.declared.fault.Halt.TheVariants.{Refused, Memory}
use Rattle.plain_model.specs.Lookups.{id_of}
use Rattle.event_arena.specs.Changes.{in_order, without_all}
use Rattle.edit_laws.specs.Settling.{first_commit_mark, settle, settle_on}

-- so far these are taken in this order, and the others can go on to be taken
pub record GoesOn (events : List PlainEvent) (times : ℕ) (order : List AnyId) : Type 0 where
  pub goes : settle_on times (in_order order events) (without_all order events) ≡ settle events
  pub whole : IsPermutation (map id_of events) (order ++ map id_of (without_all order events))

-- some are never taken, and this is the mark of the first commit among them
pub record IsCircular (events : List PlainEvent) (mark : ℕ) : Type 0 where
  pub left : List PlainEvent
  pub never : settle events ≡ Err left
  pub first : first_commit_mark left ≡ Some mark

-- why a list isn't settled
abbrev pub IsCauseOf : List PlainEvent → Halt → Type 0
IsCauseOf events Memory = Unit {0}
IsCauseOf events (Refused fault) = (mark : ℕ) × (fault ≡ Cycle mark) × IsCircular events mark
