use Rattle.std.proofs.Common.{◌∙◌, List, ap, sym}
use Rattle.std.proofs.lemmas.Result.{on_ok_weaker}
use Rattle.plain_model.specs.declared.event.PlainEvent.{PlainEvent}
use Rattle.plain_model.specs.Lookups.{id_of}
use Rattle.history_laws.proofs.Lists.{item_at}
use Rattle.event_arena.specs.Changes.{changed, with_target}
use Rattle.event_arena.specs.Graphs.{Change}
use Rattle.squash_delete.proofs.MovingLemmas.{apart_moved, gone_moved, lost_moved, nowhere_lost, target_id}
use Rattle.plan_steps.proofs.NearLemmas.{lost_is}
use Rattle.squash_delete.proofs.moving.move_at.Goals as goal

pub returns-then-has_at : goal.returns-then-has_at
returns-then-has_at c par takes start t was =
    let events = c.args.removal.now.events in
    let item = item_at events c.args.place c.requires in
    was ∙ ap (λ (es : List PlainEvent). record start { after = es })
    (gone_moved c.args.removal.now.set events c.count-count.ensures.sound par takes c.args.place item.0 item.1 (sym (c.has_at.ensures item.0 item.1) ∙ c.if-has_at.true))

pub returns-in_default : goal.returns-in_default
returns-in_default c par takes start t was =
    let events = c.args.removal.now.events in
    let item = item_at events c.args.place c.requires in
    was ∙ ap (λ (es : List PlainEvent). record start { after = es })
    (apart_moved c.args.removal.now.set events c.count-count.ensures.sound par takes t.stays c.args.place item.0 item.1 (sym (c.lost_at.ensures item.0 item.1) ∙ c.in_default.is))

pub returns-in_default-target_at : goal.returns-in_default-target_at
returns-in_default-target_at c par takes start t was =
    let events = c.args.removal.now.events in
    let set = c.args.removal.now.set in
    let item = item_at events c.args.place c.requires in
    let on = sym (c.lost_at.ensures item.0 item.1) ∙ c.in-Some.is in
    was ∙ ap (λ (es : List PlainEvent). record start { after = es })
    (nowhere_lost set events c.count-count.ensures.sound par takes c.args.place _ item.0 item.1 on
    (sym (t.target c.args.place _ item.0 item.1 on) ∙ sym c.target_at.ensures ∙ c.in_default-target_at.is))

pub retarget-requires : goal.retarget-requires
retarget-requires c =
    let e = c.nth.result.now in
    target_id _ e (lost_is c.args.removal.now.set _ e (sym (c.lost_at.ensures e c.nth.ensures.event) ∙ c.in-Some.is)).0

pub returns : goal.returns
returns c =
    on_ok_weaker c.retarget.result (λ is par takes start t was.
    let events = c.args.removal.now.events in
    let set = c.args.removal.now.set in
    let e = c.nth.result.now in
    let on = sym (c.lost_at.ensures e c.nth.ensures.event) ∙ c.in-Some.is in
    is ∙ ap (λ (p : Change). record p { after = changed (id_of e) (with_target c.in-Some-target_at.target) p.after }) was
    ∙ ap (λ (es : List PlainEvent). record start { after = es })
    (lost_moved set events c.count-count.ensures.sound par takes c.args.place _ c.in-Some-target_at.target e c.nth.ensures.event
    (sym (c.has_at.ensures e c.nth.ensures.event) ∙ c.if-has_at.false) on
    (sym (t.target c.args.place _ e c.nth.ensures.event on) ∙ sym c.target_at.ensures ∙ c.in-Some-target_at.is))) c.retarget.ensures
