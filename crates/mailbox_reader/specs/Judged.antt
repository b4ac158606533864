-- What is known of a message that is judged.
use Rattle.std.specs.Prelude.{◌≡◌, ℕ, ◌+◌, Bool, List, [], length, Option, is_some}
use Rattle.plain_model.specs.declared.event.PlainEvent.{PlainEvent}
use Rattle.plain_model.specs.declared.fault.Fault.{Fault}
use Rattle.plain_model.specs.declared.id.AnyId.{AnyId}
use Rattle.plain_model.specs.Lookups.{find_event}
use Rattle.plain_model.specs.Parts.{◌>>=◌}
use Rattle.mailbox_laws.specs.Boxes.{Message}
use Rattle.mailbox_laws.specs.Landing.{commit_alone, line_faults, lowest}
use Rattle.mailbox_reader.specs.Reading.{Say}
use Rattle.mailbox_reader.specs.declared.reading.Said.{Said}

-- the message is one of which this is read
pub record IsRead (m : Message) (line : ℕ) (s : Said) (bad : Option Fault) (end : ℕ) (has_body : Bool) : Type 0 where
  pub place : line ≡ m.line
  pub says : Say [] m.headers s
  pub malformed : bad ≡ lowest (line_faults m.headers)
  pub ends : end ≡ m.line + length m.headers + 1
  pub body : has_body ≡ is_some m.body

-- the event, where the id is a commit's
abbrev pub commit_at : List PlainEvent → AnyId → Option PlainEvent
commit_at events id = commit_alone id >>= λ c. find_event c events
