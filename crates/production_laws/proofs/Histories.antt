-- A text has a history exactly where it spells events that have it.
use Rattle.std.proofs.Common.{◌≡◌, false, List, Some, Result, Ok, Err, refl, sym, ◌∙◌, ap, subst}
use Rattle.std.specs.List.{list_any}
use Rattle.std.proofs.lemmas.Option.{same_Some}
use Rattle.plain_model.specs.declared.event.PlainEvent.{PlainEvent}
use Rattle.plain_model.specs.declared.fault.Why.{Why}
use Rattle.plain_model.specs.Paths.{Bytes}
use Rattle.field_laws.proofs.FieldSteps.{same_Ok}
use Rattle.stream_grammar.specs.declared.lines.Word.{Word}
use Rattle.stream_grammar.specs.Known.{Known, history_of}
use Rattle.stream_grammar.specs.Lines.{history_in, nothing_known}
use Rattle.production_laws.specs.Productions.{AreSpelled, Form, IsEnd, is_promise}
use Rattle.production_laws.specs.Raw.{Raw, SpellsRaw, events_meant, forms_of, history, history_given, without_comments}
use Rattle.production_laws.specs.Texts.{words_of}
use Rattle.production_laws.proofs.Meant.{history_has_parts, spelled_history_is_read}
use Rattle.production_laws.proofs.Raws.{end_reads, events_left, proper, put_events, same_meaning, same_words, take_events}

given_by : (r : Result Known Why) (events : List PlainEvent) → history_given r ≡ Some events → (k : Known) × (r ≡ Ok k) × (history_of k ≡ events)
given_by (Ok k) events e = (k, refl, same_Some (history_of k) events e)
given_by (Err why) events e = absurd cc

-- a text that spells events with a history has it
pub events_have_history : (bytes : Bytes) (raws : List Raw) (events : List PlainEvent) → SpellsRaw bytes raws → history raws ≡ Some events → history_in bytes ≡ Some events
events_have_history bytes raws events (parts, rest, there, are, end) e =
    let g = given_by (events_meant raws nothing_known) events e in
    let good = events_left raws (without_comments parts) rest are (proper parts bytes there) in
    let p = put_events raws (without_comments parts) rest nothing_known g.0 g.0 are g.1 (end_reads (list_any is_promise (forms_of raws)) rest g.0 good end) in
    spelled_history_is_read bytes (forms_of raws) events
    (record {
      parts = parts;
      known = g.0;
      there = there;
      spelled = subst (λ (l : List Word). AreSpelled (forms_of raws) l) (sym (same_words parts)) (words_of rest, p.0, end);
      means = same_meaning parts false nothing_known ∙ p.1;
      gives = g.2;
    })

-- a text that has a history spells such events
pub history_has_events : (bytes : Bytes) (events : List PlainEvent) → history_in bytes ≡ Some events → (raws : List Raw) × SpellsRaw bytes raws × (history raws ≡ Some events)
history_has_events bytes events e =
    let x = history_has_parts bytes events e in
    let h = x.1 in
    let spelled = subst (λ (l : List Word). AreSpelled x.0 l) (same_words h.parts) h.spelled in
    let t = take_events x.0 spelled.0 (without_comments h.parts) nothing_known h.known (proper h.parts bytes h.there) spelled.1 (sym (same_meaning h.parts false nothing_known) ∙ h.means) in
    let b = t.2 in
    let end : IsEnd (list_any is_promise (forms_of t.0)) (words_of b.rest) =
    subst (λ (l : List Word). IsEnd (list_any is_promise (forms_of t.0)) l) (sym b.words)
    (subst (λ (fs : List Form). IsEnd (list_any is_promise fs) spelled.0) (sym t.1) spelled.2) in
    let last : b.known ≡ h.known = same_Ok b.known h.known (sym (end_reads (list_any is_promise (forms_of t.0)) b.rest b.known b.are_proper end) ∙ b.read) in (
      t.0,
      (h.parts, b.rest, h.there, b.said, end),
      ap history_given b.meant ∙ ap (λ (k : Known). Some (history_of k)) last ∙ ap (λ (l : List PlainEvent). Some l) h.gives,
    )
