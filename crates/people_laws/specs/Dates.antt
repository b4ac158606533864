-- `timeoffset`: dates move (reposurgeon manual, `timeoffset`; the range: own).
use Rattle.std.specs.Prelude.{ℕ, suc, ◌+◌, ◌-◌, nat_le, Bool, true, List, [], ◌∷◌, map, Option, Some, None, is_some, option_map, unwrap_or, Result, Ok, Err, ℤ, pos, negsuc, if◌then◌else◌}
use Rattle.plain_model.specs.declared.fault.Fault.{Fault}
use Rattle.plain_model.specs.declared.fault.Fault.TheVariants as fault
use Rattle.plain_model.specs.declared.id.AnyId.{AnyId}
use Rattle.plain_model.specs.declared.limit.TheConstants.{MAX_SECONDS}
use Rattle.plain_model.specs.declared.person.Signed.{Signed}
use Rattle.plain_model.specs.declared.person.When.{When}
use Rattle.plain_model.specs.declared.event.PlainEvent.{PlainEvent}
use Rattle.plain_model.specs.declared.event.PlainEvent.TheVariants.{Blob, Commit, Tag, Reset, Pass}
use Rattle.plain_model.specs.Lookups.{find_event, id_of, is_listed, number_of}
use Rattle.plain_model.specs.Parts.{◌>>=◌}
use Rattle.event_fields.specs.Shifts.{PlainZone}

-- seconds that a date may have
abbrev pub in_range : ℕ → Option ℕ
in_range n = if nat_le n MAX_SECONDS then Some n else None

-- so many seconds later or earlier
abbrev pub moved_by : ℤ → ℕ → Option ℕ
moved_by (pos later) n = in_range (n + later)
moved_by (negsuc earlier) n = if nat_le (suc earlier) n then in_range (n - suc earlier) else None

-- at these seconds, in the zone that is given, or else in its own
abbrev pub at_seconds : Option PlainZone → When → ℕ → When
at_seconds None when n = record when { seconds = n }
at_seconds (Some zone) when n = record { seconds = n; minus = zone.minus; offset = zone.offset }

module _ (seconds : ℤ) (zone : Option PlainZone) where
  -- a date that moves, if it stays in the range
  abbrev pub moved_when : When → Option When
  moved_when when = option_map (at_seconds zone when) (moved_by seconds when.seconds)

  abbrev pub moved_signed : Signed → Option Signed
  moved_signed who = option_map (λ when. record who { when = when }) (moved_when who.when)

  -- an event whose dates move, if they all stay in the range
  abbrev pub dated : PlainEvent → Option PlainEvent
  dated (Commit id mark branch author committer encoding comment parents ops aliases) =
      moved_signed author >>= λ wrote. moved_signed committer >>= λ made.
      Some (Commit id mark branch wrote made encoding comment parents ops aliases)
  dated (Tag id name target (Some tagger) comment mark) =
      option_map (λ made. Tag id name target (Some made) comment mark) (moved_signed tagger)
  dated (Tag id name target None comment mark) = Some (Tag id name target None comment mark)
  dated (Blob id mark bytes) = Some (Blob id mark bytes)
  dated (Reset id branch target) = Some (Reset id branch target)
  dated (Pass id line) = Some (Pass id line)

  -- an event that isn't there has no date
  abbrev pub can_move : Option PlainEvent → Bool
  can_move None = true
  can_move (Some e) = is_some (dated e)

  -- the number of the first selected event that has a date which can't move, in the order of the selection
  abbrev pub first_stuck : List PlainEvent → List AnyId → Option ℕ
  first_stuck events [] = None
  first_stuck events (id ∷ set) =
      if can_move (find_event id events) then first_stuck events set else Some (unwrap_or (number_of id events) 0)

  -- an event, with moved dates if it is one of the set
  abbrev pub dated_in : List AnyId → PlainEvent → PlainEvent
  dated_in set e = if is_listed (id_of e) set then unwrap_or (dated e) e else e

  abbrev pub all_dated : List AnyId → List PlainEvent → List PlainEvent
  all_dated set events = map (dated_in set) events

  -- with moved dates, or the fault of the event that is stuck
  abbrev pub dated_unless : Option ℕ → List AnyId → List PlainEvent → Result (List PlainEvent) Fault
  dated_unless (Some number) set events = Err (fault.MomentRange number)
  dated_unless None set events = Ok (all_dated set events)

-- the history after the dates of selected events move by so many seconds, into a zone if one is given, or the number of
-- the first event that has a date which would leave the range
abbrev pub time_offset_of : ℤ → Option PlainZone → List AnyId → List PlainEvent → Result (List PlainEvent) Fault
time_offset_of seconds zone set events = dated_unless seconds zone (first_stuck seconds zone events set) set events
