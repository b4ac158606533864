use Rattle.std.proofs.Common.{◌∙◌, List, ap}
use Rattle.std.proofs.lemmas.Result.{on_ok_weaker}
use Rattle.plain_model.specs.declared.id.AnyId.{AnyId}
use Rattle.plain_model.specs.declared.event.PlainEvent.{PlainEvent}
use Rattle.event_arena.specs.Changes.{without_all}
use Rattle.plan_steps.specs.Flags.{has_flag}
use Rattle.plan_steps.proofs.SweepLemmas.{without_over}
use Rattle.plan_steps.proofs.sweeping.sweep_touched.Goals as goal

pub touched_unflagged-requires-clause-flags : goal.touched_unflagged-requires-clause-flags
touched_unflagged-requires-clause-flags c = c.requires.named.count

pub returns-clause-swept : goal.returns-clause-swept
returns-clause-swept c =
    let p = c.args.plan.now in
    let after = ap (λ (ids : List AnyId). without_all ids p.after) c.in_ok-ids.ensures
    ∙ without_over (has_flag c.args.touched.now p.before) p.before p.after c.old_count-count.ensures.sound c.requires.kept c.args.named.now c.requires.named in
    on_ok_weaker c.take_away.result (λ is. is ∙ ap (λ (es : List PlainEvent). record p { after = es }) after) c.take_away.ensures.ok
