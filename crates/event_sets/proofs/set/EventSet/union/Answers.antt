use Rattle.std.proofs.Common.{◌∙◌, List, ap, subst, sym}
use Rattle.plain_model.specs.declared.event.PlainEvent.{PlainEvent}
use Rattle.event_sets.specs.Once.{AreLive}
use Rattle.event_sets.specs.Sets.{union}
use Rattle.event_sets.proofs.SetLemmas.{live_union}
use Rattle.event_sets.proofs.set.EventSet.union.Goals as goal

pub of_order-requires : goal.of_order-requires
of_order-requires c =
    let left = c.args.self.now in
    let right = c.args.right.now in
    subst (λ (es : List PlainEvent). AreLive es c.in_ok-order.order) (sym c.events.ensures)
    (subst (AreLive left.events) (sym (c.in_ok-order.ensures
    ∙ ap (union left.ids) (c.as_slice.ensures ∙ c.in_ok-ids.ensures)))
    (live_union left.events left.ids right.ids c.bits-bits.ensures.live
    (subst (λ (es : List PlainEvent). AreLive es right.ids) c.requires c.bits-right_bits.ensures.live)))
