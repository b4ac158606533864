-- What is left of a box after some of its messages, with what is known of these. (own)
use Rattle.std.specs.Prelude.{◌≡◌, ℕ, ◌+◌, List, [], ◌∷◌, flat_map, Bool, Option, Some, None, is_some, unwrap_or}
use Rattle.std.specs.Borrow.{Bor}
use Rattle.plain_model.specs.declared.event.PlainEvent.{PlainEvent}
use Rattle.plain_model.specs.declared.fault.Fault.{Fault}
use Rattle.plain_model.specs.Paths.{Bytes}
use Rattle.mailbox_laws.specs.Boxes.{InBody, InHeaders, Message, Rest, rest_from}
use Rattle.mailbox_laws.specs.Landing.{box_faults, faults_of, landed, lowest}
use Rattle.mailbox_reader.specs.Lower.{lower}
use Rattle.mailbox_edit.specs.Landings.{landed_all}
use Rattle.mailbox_edit.specs.declared.landing.Landing.{Landing}

-- the lines of a body, none where the box has ended
abbrev pub body_or_none : Rest → List Bytes
body_or_none rest = unwrap_or rest.body []

-- whether an empty line has come, with what follows it
abbrev pub has_rest : Option (Bor Bytes) → Bool
has_rest then = is_some then

-- Messages are left of a box: what is wrong so far, or with these, is what is wrong with the box; and while nothing is wrong, those
-- noted so far and then these make what all of them make.
pub record AreLeft (events : List PlainEvent) (whole : Rest) (messages : List Message) (wrong : Option Fault) (landings : List Landing) : Type 0 where
  pub faults : lower wrong (lowest (flat_map (faults_of events) messages)) ≡ lowest (box_faults events whole)
  pub lands : wrong ≡ None → landed events messages (landed_all landings events) ≡ landed events whole.later events

-- the message with the line of hyphens that has the number, of the lines after that, and the messages after it
abbrev pub messages_after : ℕ → List Bytes → List Message
messages_after line lines =
    record {
      line = line;
      headers = (rest_from InHeaders (line + 1) lines).headers;
      body = (rest_from InHeaders (line + 1) lines).body;
    } ∷ (rest_from InHeaders (line + 1) lines).later

-- the lines after a line of hyphens are left
abbrev pub IsLeftAfter : List PlainEvent → Rest → ℕ → List Bytes → Option Fault → List Landing → Type 0
IsLeftAfter events whole line lines wrong landings = AreLeft events whole (messages_after line lines) wrong landings

-- lines are left of which the first, if there is one, is a line of hyphens with the number
pub record IsLeft (events : List PlainEvent) (whole : Rest) (line : ℕ) (lines : List Bytes) (wrong : Option Fault) (landings : List Landing) : Type 0 where
  pub begun : (rest_from InBody line lines).body ≡ Some []
  pub left : AreLeft events whole (rest_from InBody line lines).later wrong landings
