use Rattle.std.proofs.Common.{◌∙◌, subst, sym}
use Rattle.plan_steps.specs.Targets.{AreMoves, moving}
use Rattle.plan_steps.proofs.TargetLemmas.{moves_none}
use Rattle.plan_steps.proofs.targets.moved_targets.Goals as goal

pub returns-then-not-is_any_lost : goal.returns-then-not-is_any_lost
returns-then-not-is_any_lost c =
    let events = c.args.removal.now.events in
    let set = c.args.removal.now.set in
    subst (AreMoves set (moving set events c.args.tags) events) (sym c.new.ensures.items)
    (moves_none set events c.args.tags (sym c.is_any_lost.ensures ∙ c.if-not-is_any_lost.true))
