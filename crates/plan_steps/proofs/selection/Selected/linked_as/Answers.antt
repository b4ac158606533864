use Rattle.std.proofs.Common.{List, Bool, Some, subst, sym}
use Rattle.plain_model.specs.declared.id.AnyId.{AnyId}
use Rattle.plain_model.specs.declared.event.PlainEvent.{PlainEvent}
use Rattle.graph_walk.specs.Flags.{FlagsOf}
use Rattle.plan_steps.specs.Near.{AreFlagged}
use Rattle.plan_steps.proofs.Alike.{flags_alike, places_alike}
use Rattle.plan_steps.proofs.selection.Selected.linked_as.Goals as goal

pub places_near-requires : goal.places_near-requires
places_near-requires c =
    let events = c.args.events.now.list in
    let after = c.args.plan.now.after in
    let set = c.args.set.now in
    let flags = c.in_ok-flags.flags.items in
    subst (λ (fs : List Bool). FlagsOf events set fs) (sym c.deref.ensures.value)
    (flags_alike after events (sym c.requires.alike) set flags (subst (λ (es : List PlainEvent). FlagsOf es set flags) c.after-list.ensures c.in_ok-flags.ensures))

pub invariant_of-result : goal.invariant_of-result
invariant_of-result c =
    let events = c.args.events.now.list in
    let after = c.args.plan.now.after in
    let flags = c.in_ok-flags.flags.items in
    let places = c.in_ok-places_near.field-0.items in
    subst (λ (ids : List AnyId). AreFlagged ids c.after-list.result.now flags (Some places)) (sym c.in_ok-set.ensures)
    (subst (λ (es : List PlainEvent). AreFlagged c.args.set.now es flags (Some places)) (sym c.after-list.ensures)
    (record {
      sound = c.requires.sound;
      own = subst (λ (es : List PlainEvent). FlagsOf es c.args.set.now flags) c.after-list.ensures c.in_ok-flags.ensures;
      around = places_alike events after c.requires.alike c.args.set.now places c.in_ok-places_near.ensures;
    }))
