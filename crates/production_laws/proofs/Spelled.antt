-- A text is spelled by the productions exactly where the automaton reads it as far as its form goes.
use Rattle.std.proofs.Common.{◌≡◌, ℕ, false, List, Some, refl, sym, ◌∙◌, subst}
use Rattle.plain_model.specs.declared.event.PlainEvent.{PlainEvent}
use Rattle.plain_model.specs.declared.fault.Why.{Why}
use Rattle.plain_model.specs.Paths.{Bytes}
use Rattle.line_automaton.specs.Machine.{Outcome, outcome, all, none, up_to}
use Rattle.line_automaton.specs.Machine.Outcome.{Reads, Refuses, Misses}
use Rattle.stream_grammar.specs.declared.lines.Expected.TheVariants as expected
use Rattle.stream_grammar.specs.declared.lines.Word.{Word}
use Rattle.stream_grammar.specs.Lines.{State, stream, history_read, history_in}
use Rattle.production_laws.specs.Texts.{words_of}
use Rattle.production_laws.specs.Productions.{Form, AreForms, Spells}
use Rattle.production_laws.proofs.Judged.{read_has_form}
use Rattle.production_laws.proofs.Standings.{has_form, is_accepted}
use Rattle.production_laws.proofs.Texts.{parts_are_read, read_has_parts}

pub spelled_is_read : (bytes : Bytes) (forms : List Form) → Spells bytes forms → (s : State) × (outcome stream none bytes ≡ Reads s)
spelled_is_read bytes forms (parts, are, spelled) =
    parts_are_read parts 1 stream.start bytes are (is_accepted (words_of parts) expected.Event false (words_of parts, refl, (forms, spelled.0, spelled.1, spelled.2)))

pub read_is_spelled : (bytes : Bytes) (s : State) → outcome stream none bytes ≡ Reads s → (forms : List Form) × Spells bytes forms
read_is_spelled bytes s e =
    let x = read_has_parts 1 stream.start s bytes e in
    let f = has_form (words_of x.0) expected.Event false x.2 in
    let stream = f.2 in
    (stream.0, (x.0, x.1, (stream.1, subst (λ (l : List Word). AreForms stream.0 l stream.1) (sym f.1) stream.2, stream.3)))

-- a text that has a history is read
pub history_is_spelled : (bytes : Bytes) (events : List PlainEvent) → history_in bytes ≡ Some events → (forms : List Form) × Spells bytes forms
history_is_spelled bytes events e = go (outcome stream all bytes) refl e
  where
    go : (o : Outcome State Why) → outcome stream all bytes ≡ o → history_read o ≡ Some events → (forms : List Form) × Spells bytes forms
    go (Reads s) is e = let x = read_has_form all bytes s is in read_is_spelled bytes x.0 x.1
    go (Refuses n why) is e = absurd cc
    go (Misses n) is e = absurd cc

-- so is one of whose lines the first have right fields
pub clean_is_spelled : (n : ℕ) (bytes : Bytes) (s : State) → outcome stream (up_to n) bytes ≡ Reads s → (forms : List Form) × Spells bytes forms
clean_is_spelled n bytes s e = let x = read_has_form (up_to n) bytes s e in read_is_spelled bytes x.0 x.1

-- ---- what isn't spelled

pub refused_is_not_spelled : (bytes : Bytes) (n : ℕ) (why : Why) → outcome stream none bytes ≡ Refuses n why → (forms : List Form) → Spells bytes forms → ⊥
refused_is_not_spelled bytes n why e forms h =
    let x = spelled_is_read bytes forms h in
    absurd (let both : ◌≡◌ {A = Outcome State Why} (Refuses n why) (Reads x.0) = sym e ∙ x.1 in cc)

pub missed_is_not_spelled : (bytes : Bytes) (n : ℕ) → outcome stream none bytes ≡ Misses n → (forms : List Form) → Spells bytes forms → ⊥
missed_is_not_spelled bytes n e forms h =
    let x = spelled_is_read bytes forms h in
    absurd (let both : ◌≡◌ {A = Outcome State Why} (Misses n) (Reads x.0) = sym e ∙ x.1 in cc)
