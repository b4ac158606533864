use Rattle.std.proofs.Common.{◌≡◌, ◌∙◌, List, Result, Ok, Err, is_ok, ap, subst, sym}
use Rattle.std.specs.Prelude.{IsOk}
use Rattle.plain_model.specs.declared.event.PlainEvent.{PlainEvent}
use Rattle.plain_model.specs.Soundness.{IsSound}
use Rattle.edit_laws.specs.Settling.{settle}
use Rattle.event_arena.specs.Graphs.{Change}
use Rattle.event_arena.proofs.Plans.{leaves_sound}
use Rattle.squash_laws.specs.Removed.{without_set}
use Rattle.coalesce_laws.specs.Coalesce.{coalesced}
use Rattle.coalesce_laws.proofs.Coalesced.{done}
use Rattle.coalesce_simplify.specs.Joining.{joins}
use Rattle.coalesce_simplify.proofs.coalescing.coalesce.Goals as goal

pub joined_up-requires : goal.joined_up-requires
joined_up-requires c = (c.args.seconds, c.args.set.now, c.in_ok-ids.ensures)

pub put_in_order-requires : goal.put_in_order-requires
put_in_order-requires c =
    let events = c.args.events.now.list in
    let after = ap (λ (p : Change). p.after) c.in_ok-plan.ensures ∙ ap (λ ids. without_set ids events (joins ids events)) c.in_ok-ids.ensures in
    subst (λ (es : List PlainEvent). IsOk (settle es)) (sym after)
    (ap is_ok (done c.args.seconds c.args.set.now events c.count-count.ensures.sound))

pub returns-clause-after : goal.returns-clause-after
returns-clause-after c =
    let events = c.args.events.now.list in
    let after = ap (λ (p : Change). p.after) c.in_ok-plan.ensures ∙ ap (λ ids. without_set ids events (joins ids events)) c.in_ok-ids.ensures in
    let is : coalesced c.args.seconds c.args.set.now events ≡ Ok c.put_in_order.new.plan.after = ap settle (sym after) ∙ c.in_ok-put_in_order.ensures.settled in
    sym (ap (λ (r : Result (List PlainEvent) (List PlainEvent)). elim r as (λ x. List PlainEvent) [ Ok new ↦ new | Err never ↦ events ]) is)

pub returns-clause-plan : goal.returns-clause-plan
returns-clause-plan c =
    let events = c.args.events.now.list in
    let set = c.args.set.now in
    let after = ap (λ (p : Change). p.after) c.in_ok-plan.ensures ∙ ap (λ ids. without_set ids events (joins ids events)) c.in_ok-ids.ensures in
    let is : coalesced c.args.seconds set events ≡ Ok c.put_in_order.new.plan.after = ap settle (sym after) ∙ c.in_ok-put_in_order.ensures.settled in
    let sound = subst IsSound (ap (λ (r : Result (List PlainEvent) (List PlainEvent)). elim r as (λ x. List PlainEvent) [ Ok new ↦ new | Err never ↦ events ]) is)
    (c.a_coalescing_keeps_soundness.ensures c.args.seconds set events c.count-count.ensures.sound) in
    let new = c.put_in_order.new.plan in
    leaves_sound c.args.events.now new.after new (c.in_ok-put_in_order.ensures.others ∙ ap (λ (p : Change). record p { after = new.after }) c.in_ok-plan.ensures) sound
