use Rattle.std.proofs.Common.{◌∙◌, List, Bool, ap, arith, add-one, subst, sym}
use Rattle.std.proofs.lemmas.Result.{err_from_is_err_and}
use Rattle.plain_model.specs.declared.id.AnyId.{AnyId}
use Rattle.plain_model.specs.declared.event.PlainEvent.{PlainEvent}
use Rattle.history_laws.proofs.Lists.{item_at}
use Rattle.history_laws.proofs.SoundOnce.{sound_once}
use Rattle.graph_walk.specs.Children.{children_of_all}
use Rattle.graph_walk.specs.Expansions.{IsCauseOfMany, parent_changes}
use Rattle.graph_walk.specs.Joined.{IsTooMany, PushesChange}
use Rattle.graph_walk.specs.Flags.{FlagsOf}
use Rattle.graph_walk.proofs.ParentLemmas.{cause_more, changes_more, children_flagged}
use Rattle.graph_walk.proofs.expansion.parent_changes.Goals as goal

pub returns-in_err-push_change-clause-cause : goal.returns-in_err-push_change-clause-cause
returns-in_err-push_change-clause-cause c =
    let events = c.args.events.now.list in
    let removed = c.args.removed.now in
    let sound = c.count-place-end.ensures.sound in
    let once = (sound_once events sound).ids in
    let place = c.loop-place.place in
    let item = item_at events place (let test = c.loop-place-test.true in let count = c.count-place-end.ensures.count in omega arith) in
    let items = c.in_ok-flags.flags.items in
    let flags : FlagsOf events removed items = subst (λ (ids : List AnyId). FlagsOf events ids items) c.as_slice.ensures (subst (λ (es : List PlainEvent). FlagsOf es c.as_slice.result.now c.in_ok-flags.flags.items) c.table.ensures.table c.in_ok-flags.ensures) in
    let many = subst (λ (fs : List Bool). IsTooMany events fs c.in_ok-made.made place item.0 c.in_err-push_change.field-0.0) c.deref.ensures.value (c.in_err-push_change.ensures.cause item.0 item.1) in
    let p = err_from_is_err_and c.from_residual-in_err-push_change.result c.from_residual-in_err-push_change.ensures.1 in
    rw p.1 (subst (IsCauseOfMany (parent_changes events removed)) (sym p.2) (cause_more events sound once removed items c.in_ok-made.made flags c.in_ok-made.ensures.expansions c.in_ok-made.ensures.bounded place item.0 c.in_err-push_change.field-0.0 item.1 many))

pub loop-place-preserved : goal.loop-place-preserved
loop-place-preserved c =
    let events = c.args.events.now.list in
    let removed = c.args.removed.now in
    let sound = c.count-place-end.ensures.sound in
    let once = (sound_once events sound).ids in
    let place = c.loop-place.place in
    let item = item_at events place (let test = c.loop-place-test.true in let count = c.count-place-end.ensures.count in omega arith) in
    let items = c.in_ok-flags.flags.items in
    let flags : FlagsOf events removed items = subst (λ (ids : List AnyId). FlagsOf events ids items) c.as_slice.ensures (subst (λ (es : List PlainEvent). FlagsOf es c.as_slice.result.now c.in_ok-flags.flags.items) c.table.ensures.table c.in_ok-flags.ensures) in
    let push = subst (λ (fs : List Bool). PushesChange events fs c.in_ok-made.made place item.0 c.loop-place.changes c.push_change.new.changes) c.deref.ensures.value (c.in_ok-push_change.ensures.ok item.0 item.1) in
    let more = changes_more events sound once removed items c.in_ok-made.made flags c.in_ok-made.ensures.expansions c.in_ok-made.ensures.bounded place item.0 c.loop-place.changes c.push_change.new.changes item.1 push c.loop-place.invariant.changes c.loop-place.invariant.few in
    rw add-one (record { changes = more.0; few = more.1 })

pub push_change-requires-clause-children : goal.push_change-requires-clause-children
push_change-requires-clause-children c =
    let events = c.args.events.now.list in
    let removed = c.args.removed.now in
    let sound = c.count-place-end.ensures.sound in
    let once = (sound_once events sound).ids in
    let flags : FlagsOf events removed c.deref.result.now = subst (FlagsOf events removed) (sym c.deref.ensures.value) (subst (λ (ids : List AnyId). FlagsOf events ids c.in_ok-flags.flags.items) c.as_slice.ensures (subst (λ (es : List PlainEvent). FlagsOf es c.as_slice.result.now c.in_ok-flags.flags.items) c.table.ensures.table c.in_ok-flags.ensures)) in
    let children : FlagsOf events (children_of_all events removed) c.deref-in-loop-place.result.now = subst (FlagsOf events (children_of_all events removed)) (sym c.deref-in-loop-place.ensures.value)
    (subst (λ (ids : List AnyId). FlagsOf events ids c.in_ok-children-2.children.items)
    (c.as_slice-3.ensures ∙ c.in_ok-children.ensures ∙ ap (children_of_all events) c.as_slice-2.ensures) (subst (λ (es : List PlainEvent). FlagsOf es c.as_slice-3.result.now c.in_ok-children-2.children.items) c.table-2.ensures.table c.in_ok-children-2.ensures)) in
    children_flagged events sound once removed c.deref.result.now c.deref-in-loop-place.result.now flags children
