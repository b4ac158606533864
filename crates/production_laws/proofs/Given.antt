-- What a text gives within the limits is the history of the events that it spells.
use Rattle.std.proofs.Common.{◌≡◌, ℕ, Bool, true, false, cond, not, List, Some, Ok, Err, refl, sym, ◌∙◌, ap}
use Rattle.std.specs.Prelude.{◌↔◌, is_some, nat_lt}
use Rattle.std.proofs.lemmas.Option.{same_Some}
use Rattle.plain_model.specs.declared.event.PlainEvent.{PlainEvent}
use Rattle.plain_model.specs.declared.fault.Fault.TheVariants as fault
use Rattle.plain_model.specs.declared.fault.Which.{Which}
use Rattle.plain_model.specs.declared.fault.Why.{Why}
use Rattle.plain_model.specs.declared.fault.Why.TheVariants.{Truncated}
use Rattle.plain_model.specs.declared.limit.TheConstants.{MAX_MARK}
use Rattle.plain_model.specs.Paths.{Bytes}
use Rattle.line_automaton.specs.Limits.{Cause}
use Rattle.line_automaton.specs.Limits.Cause.{Defect, Exceeds}
use Rattle.line_automaton.specs.Machine.{Outcome, all, outcome}
use Rattle.line_automaton.specs.Machine.Outcome.{Misses, Reads, Refuses}
use Rattle.stream_grammar.specs.Known.{history_of}
use Rattle.stream_grammar.specs.Limits.{if_known, known_given, last_mark, stream_of, stream_within}
use Rattle.stream_grammar.specs.Lines.{IsFirstDefect, State, defect_in, history_in}
use Rattle.production_laws.specs.Streams.{IsGiven, IsNoStream, IsStreamOf}
use Rattle.production_laws.proofs.Histories.{events_have_history, history_has_events}

pub exactly : (bytes : Bytes) (events : List PlainEvent) → (history_in bytes ≡ Some events) ↔ IsStreamOf bytes events
exactly bytes events = (history_has_events bytes events, λ h. events_have_history bytes h.0 events h.1 h.2)

-- by the laws of limits and of first defects
module _ (read : (bytes : Bytes) (events : List PlainEvent) → stream_of bytes ≡ Ok events → history_in bytes ≡ Some events)
    (first : (bytes : Bytes) (n : ℕ) (why : Why) → stream_of bytes ≡ Err (fault.BadStream n why) → IsFirstDefect bytes n why)
    (found : (bytes : Bytes) (n : ℕ) (why : Why) → (defect_in bytes ≡ Some (n, why)) ↔ IsFirstDefect bytes n why)
    (either : (bytes : Bytes) → is_some (history_in bytes) ≡ not (is_some (defect_in bytes))) where
  pub given_history : (bytes : Bytes) (events : List PlainEvent) → stream_of bytes ≡ Ok events → IsStreamOf bytes events
  given_history bytes events e = history_has_events bytes events (read bytes events e)

  pub refused : (bytes : Bytes) (n : ℕ) (why : Why) → stream_of bytes ≡ Err (fault.BadStream n why) → IsNoStream bytes
  refused bytes n why e events h =
      let there = ap is_some ((exactly bytes events).1 h) in
      let wrong = ap is_some ((found bytes n why).1 (first bytes n why e)) in
      absurd (let both : true ≡ false = sym there ∙ either bytes ∙ ap not wrong in cc)

  pub is_given : (bytes : Bytes) (events : List PlainEvent) → IsStreamOf bytes events → IsGiven events (stream_of bytes)
  is_given bytes events h = go (outcome stream_within all bytes) refl
    where
      same_history : (list : List PlainEvent) → stream_of bytes ≡ Ok list → list ≡ events
      same_history list e = same_Some list events (sym (read bytes list e) ∙ (exactly bytes events).1 h)

      within : (s : State) (b : Bool) → stream_of bytes ≡ cond b (Err fault.MarksSpent) (Ok (history_of s.known))
          → IsGiven events (cond b (Err fault.MarksSpent) (Ok (history_of s.known)))
      within s true e = tt
      within s false e = same_history (history_of s.known) e

      go : (o : Outcome State (Cause Why Which)) → outcome stream_within all bytes ≡ o → IsGiven events (if_known (known_given o))
      go (Reads s) is = within s (nat_lt MAX_MARK (last_mark s.known)) (ap (λ o. if_known (known_given o)) is)
      go (Refuses n (Defect why)) is = refused bytes n why (ap (λ o. if_known (known_given o)) is) events h
      go (Refuses n (Exceeds which)) is = tt
      go (Misses n) is = refused bytes n Truncated (ap (λ o. if_known (known_given o)) is) events h
