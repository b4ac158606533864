use Rattle.std.proofs.Common.{◌∙◌, List, ap, subst, sym}
use Rattle.std.proofs.lemmas.Result.{on_ok_weaker}
use Rattle.plain_model.specs.declared.id.AnyId.{AnyId}
use Rattle.plain_model.specs.declared.event.PlainEvent.{PlainEvent}
use Rattle.event_arena.specs.Changes.{without_all}
use Rattle.history_laws.specs.Once.{AreDistinct}
use Rattle.plan_steps.specs.Leaving.{goes}
use Rattle.plan_steps.specs.Targets.{AreMoves}
use Rattle.plan_steps.proofs.SweepLemmas.{without_passing}
use Rattle.squash_delete.proofs.squashing.take_away.Goals as goal

pub returns : goal.returns
returns c =
    let events = c.args.removal.now.events in
    let set = c.args.removal.now.set in
    let p = c.args.plan.now in
    let once = subst AreDistinct c.requires c.count-count.ensures.once in
    on_ok_weaker c.remove_all.result (λ is takes t.
    is ∙ ap (λ (es : List PlainEvent). record p { after = es })
    (ap (without_all c.in_ok-ids.ids) c.requires
    ∙ ap (λ (ids : List AnyId). without_all ids events) (c.in_ok-ids.ensures takes (subst (AreMoves set takes.target events) (sym c.deref.ensures.value) t))
    ∙ without_passing (goes set takes) events once)) c.remove_all.ensures.ok
