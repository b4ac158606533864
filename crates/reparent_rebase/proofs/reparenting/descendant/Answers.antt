use Rattle.std.proofs.Common.{◌∷◌, [], List, ◌∙◌, add-one, sym, subst}
use Rattle.plain_model.specs.declared.id.AnyId.{AnyId}
use Rattle.plain_model.specs.declared.event.PlainEvent.{PlainEvent}
use Rattle.ancestry_laws.specs.Ancestry.{descendants_of}
use Rattle.graph_walk.specs.Flags.{FlagsOf}
use Rattle.reparent_laws.specs.Reparent.{descendant}
use Rattle.reparent_rebase.proofs.Descending.{first_descends, later_descends}
use Rattle.reparent_rebase.proofs.reparenting.descendant.Goals as goal

pub returns-then-is_flagged : goal.returns-then-is_flagged
returns-then-is_flagged c =
    let events = c.args.events.now.list in
    let from = c.args.commit ∷ [] in
    let ps = c.args.parents.now in
    let flags = subst (FlagsOf events (descendants_of events from)) (sym c.deref.ensures.value)
    (subst (λ (ids : List AnyId). FlagsOf events ids c.in_ok-flags.flags.items) (c.as_slice.ensures ∙ c.in_ok-ids.ensures)
    (subst (λ (es : List PlainEvent). FlagsOf es c.as_slice.result.now c.in_ok-flags.flags.items) c.table.ensures.table c.in_ok-flags.ensures)) in
    sym (first_descends events c.args.commit ps c.loop-parent.parent-index c.parent-item.result (descendant events c.args.commit ps) c.loop-parent-test.true c.parent-item.is c.loop-parent.invariant
    (sym (c.is_flagged.ensures from flags) ∙ c.if-is_flagged.true))

pub loop-parent-preserved : goal.loop-parent-preserved
loop-parent-preserved c =
    let events = c.args.events.now.list in
    let from = c.args.commit ∷ [] in
    let ps = c.args.parents.now in
    let flags = subst (FlagsOf events (descendants_of events from)) (sym c.deref.ensures.value)
    (subst (λ (ids : List AnyId). FlagsOf events ids c.in_ok-flags.flags.items) (c.as_slice.ensures ∙ c.in_ok-ids.ensures)
    (subst (λ (es : List PlainEvent). FlagsOf es c.as_slice.result.now c.in_ok-flags.flags.items) c.table.ensures.table c.in_ok-flags.ensures)) in
    rw add-one (later_descends events c.args.commit ps c.loop-parent.parent-index c.parent-item.result (descendant events c.args.commit ps) c.loop-parent-test.true c.parent-item.is c.loop-parent.invariant
    (sym (c.is_flagged.ensures from flags) ∙ c.if-is_flagged.false))
