-- What is refused, and what isn't.
use Rattle.std.specs.Prelude.{◌≡◌, ◌+◌, ℤ, List, ◌∷◌, ◌++◌, length, Option, None, unwrap_or, IsFalse, IsSome, IsTrue}
use Rattle.std.specs.List.{AllByRecursion}
use Rattle.plain_model.specs.declared.id.AnyId.{AnyId}
use Rattle.plain_model.specs.declared.fault.Fault.{Fault}
use Rattle.plain_model.specs.declared.fault.Fault.TheVariants as fault
use Rattle.plain_model.specs.declared.event.PlainEvent.{PlainEvent}
use Rattle.plain_model.specs.Lookups.{find_event, number_of}
use Rattle.plain_model.specs.Paths.{Bytes}
use Rattle.event_fields.specs.Shifts.{PlainZone}
use Rattle.mailbox_laws.specs.Boxes.{lines_in}
use Rattle.people_laws.specs.Authors.{author_of, is_passed_over}
use Rattle.people_laws.specs.Dates.{can_move}

-- ---- authors files

-- a line that is passed over, or an author
abbrev pub IsRight : Bytes → Type 0
IsRight line = IsFalse (is_passed_over line) → IsSome (author_of line)

-- a line of the bytes is neither, all before it are right, and it is reported
pub record IsFirstWrong (bytes : Bytes) (why : Fault) : Type 0 where
  pub before : List Bytes
  pub line : Bytes
  pub after : List Bytes
  pub split : lines_in bytes ≡ before ++ line ∷ after
  pub all_right : AllByRecursion IsRight before
  pub counts : IsFalse (is_passed_over line)
  pub wrong : author_of line ≡ None
  pub is : why ≡ fault.BadAuthors (length before + 1)

-- ---- dates

-- the dates of an event can move, if it is there
abbrev pub CanMove : ℤ → Option PlainZone → List PlainEvent → AnyId → Type 0
CanMove seconds zone events id = IsTrue (can_move seconds zone (find_event id events))

-- those of one of the set can't, those of all before it can, and its number is reported
pub record IsFirstStuck (seconds : ℤ) (zone : Option PlainZone) (set : List AnyId) (events : List PlainEvent) (why : Fault) : Type 0 where
  pub before : List AnyId
  pub first : AnyId
  pub after : List AnyId
  pub split : set ≡ before ++ first ∷ after
  pub all_free : AllByRecursion (CanMove seconds zone events) before
  pub stuck : IsFalse (can_move seconds zone (find_event first events))
  pub is : why ≡ fault.MomentRange (unwrap_or (number_of first events) 0)
