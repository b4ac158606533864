-- A text has a history exactly where it is spelled, and the history is what its lines mean.
use Rattle.std.proofs.Common.{◌≡◌, false, List, Some, refl, sym, ◌∙◌, ap, subst}
use Rattle.std.proofs.lemmas.Option.{same_Some}
use Rattle.plain_model.specs.declared.event.PlainEvent.{PlainEvent}
use Rattle.plain_model.specs.declared.fault.Why.{Why}
use Rattle.plain_model.specs.Paths.{Bytes}
use Rattle.line_automaton.specs.Machine.{Outcome, outcome, all}
use Rattle.line_automaton.specs.Machine.Outcome.{Reads, Refuses, Misses}
use Rattle.stream_grammar.specs.declared.lines.Expected.TheVariants as expected
use Rattle.stream_grammar.specs.declared.lines.Word.{Word}
use Rattle.stream_grammar.specs.Known.{Known, history_of}
use Rattle.stream_grammar.specs.Lines.{State, stream, history_read, history_in}
use Rattle.production_laws.specs.Meanings.{HasHistory}
use Rattle.production_laws.specs.Texts.{words_of}
use Rattle.production_laws.specs.Productions.{Form, AreForms}
use Rattle.production_laws.proofs.Standings.{has_form, is_accepted}
use Rattle.production_laws.proofs.KnownLines.{all_are_read, all_has_parts}

pub spelled_history_is_read : (bytes : Bytes) (forms : List Form) (events : List PlainEvent) → HasHistory bytes forms events → history_in bytes ≡ Some events
spelled_history_is_read bytes forms events h =
    let spelled = h.spelled in
    let accepted = is_accepted (words_of h.parts) expected.Event false (words_of h.parts, refl, (forms, spelled.0, spelled.1, spelled.2)) in
    let x = all_are_read h.parts 1 stream.start bytes false h.known h.there accepted refl h.means in
    ap history_read x.1 ∙ ap (λ (k : Known). Some (history_of k)) x.2 ∙ ap (λ (l : List PlainEvent). Some l) h.gives

pub history_has_parts : (bytes : Bytes) (events : List PlainEvent) → history_in bytes ≡ Some events → (forms : List Form) × HasHistory bytes forms events
history_has_parts bytes events e = go (outcome stream all bytes) refl e
  where
    go : (o : Outcome State Why) → outcome stream all bytes ≡ o → history_read o ≡ Some events → (forms : List Form) × HasHistory bytes forms events
    go (Reads s) is e =
        let x = all_has_parts 1 stream.start s false bytes refl is in
        let f = has_form (words_of x.0) expected.Event false x.2 in
        let rest = f.2 in (
          rest.0,
          record {
            parts = x.0;
            known = s.known;
            there = x.1;
            spelled = (rest.1, subst (λ (l : List Word). AreForms rest.0 l rest.1) (sym f.1) rest.2, rest.3);
            means = x.3;
            gives = same_Some (history_of s.known) events e;
          },
        )
    go (Refuses n why) is e = absurd cc
    go (Misses n) is e = absurd cc
