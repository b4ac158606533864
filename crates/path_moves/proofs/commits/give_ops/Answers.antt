use Rattle.std.proofs.Common.{◌≡◌, ◌∙◌, sym}
use Rattle.event_arena.specs.Changes.{with_ops}
use Rattle.event_arena.proofs.StepLemmas.{found_holds}
use Rattle.plain_model.specs.Lookups.{find_event}
use Rattle.plain_model.specs.declared.id.AnyId.TheVariants as any
use Rattle.plan_steps.proofs.Steps.{kept}
use Rattle.path_moves.proofs.Keeping.{same_event}
use Rattle.path_moves.proofs.commits.give_ops.Goals as goal

pub returns-then-same_ops : goal.returns-then-same_ops
returns-then-same_ops c =
    let e = c.requires.0 in
    let made = c.args.made in
    let same = c.same_ops.ensures.0 c.if-same_ops.true in
    kept c.args.plan.now (any.Commit c.args.commit) (with_ops made)
    (found_holds (find_event (any.Commit c.args.commit) c.args.plan.now.after) e (λ x. with_ops made x ≡ x) c.requires.1
    (same_event e made (c.requires.2 ∙ sym same ∙ c.as_slice.ensures)))
