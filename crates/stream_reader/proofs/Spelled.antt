-- What is reported of a text, by what it spells.
use Rattle.std.proofs.Common.{◌≡◌, ℕ, List, Result, Ok, Err, subst}
use Rattle.std.specs.Prelude.{IfOk}
use Rattle.plain_model.specs.declared.event.PlainEvent.{PlainEvent}
use Rattle.plain_model.specs.declared.fault.Fault.TheVariants as plain
use Rattle.plain_model.specs.declared.fault.Why.{Why}
use Rattle.plain_model.specs.Paths.{Bytes}
use Rattle.production_laws.specs.Streams.{HasDefect, IsGiven, IsNoStream, IsStreamOf}
use Rattle.stream_grammar.specs.Limits.{stream_of}
use Rattle.stream_reader.specs.Answers.{IsFaultOf, IsOfNoStream}
use Rattle.stream_reader.specs.Reading.{HasRead, Reading}
use Rattle.stream_reader.specs.declared.fault.ReadFault.{ReadFault}
use Rattle.stream_reader.specs.declared.fault.ReadFault.TheVariants as read

-- a list that is given is the one history
pub one_history : (stream : (bytes : Bytes) (events : List PlainEvent) → IsStreamOf bytes events → IsGiven events (stream_of bytes))
    → (bytes : Bytes) (list events : List PlainEvent) → stream_of bytes ≡ Ok list → IsStreamOf bytes events → list ≡ events
one_history stream bytes list events e h = subst (IsGiven events) e (stream bytes events h)

-- a list that is the one history of any text that was read is that of this one
pub of_text : (reader : Reading) (text : Bytes) (answer : Result (List PlainEvent) ReadFault)
    → IfOk answer (λ list. (bytes : Bytes) → HasRead reader bytes → (events : List PlainEvent) → IsStreamOf bytes events → list ≡ events) → HasRead reader text
    → IfOk answer (λ list. (events : List PlainEvent) → IsStreamOf text events → list ≡ events)
of_text reader text (Ok list) h there = h text there
of_text reader text (Err fault) h there = tt

-- a bad stream is none
pub no_stream : (refused : (bytes : Bytes) (n : ℕ) (why : Why) → stream_of bytes ≡ Err (plain.BadStream n why) → IsNoStream bytes × HasDefect bytes n why)
    → (bytes : Bytes) (fault : ReadFault) → IsFaultOf (stream_of bytes) fault → IsOfNoStream bytes fault
no_stream refused bytes (read.BadStream n why) e = refused bytes n why e
no_stream refused bytes (read.Limit which number) e = tt
no_stream refused bytes read.MarksSpent e = tt
no_stream refused bytes read.Memory e = tt
