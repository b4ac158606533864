use Rattle.std.proofs.Common.{◌≡◌, ◌∙◌, List, ap, map, not, subst, sym}
use Rattle.plain_model.specs.Lookups.{id_of, is_listed}
use Rattle.plain_model.specs.declared.event.PlainEvent.{PlainEvent}
use Rattle.event_sets.specs.Bits.{bits_of}
use Rattle.event_sets.specs.Sets.{rest}
use Rattle.event_sets.proofs.SetLemmas.{other_bits}
use Rattle.event_sets.proofs.set.EventSet.rest.Goals as goal

pub returns-clause-ids : goal.returns-clause-ids
returns-clause-ids c =
    let ids = c.args.self.now.ids in
    let es = c.events.result.now.list in
    subst (λ (es : List PlainEvent). c.of_bits.result.ids ≡ rest es ids) c.events.ensures
    (c.of_bits.ensures.passing (λ e. not (is_listed (id_of e) ids))
    (c.in_ok-bits.ensures ∙ ap (map not) (c.bits.ensures.tied ∙ ap (λ es. bits_of es ids) (sym c.events.ensures))
    ∙ other_bits es ids))
