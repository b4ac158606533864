use Rattle.std.proofs.Common.{◌≡◌, ◌∙◌, eqb-true, subst, sym}
use Rattle.std.specs.Prelude.{IfSome}
use Rattle.plain_model.specs.declared.event.PlainEvent.{PlainEvent}
use Rattle.plain_model.specs.Lookups.{find_event}
use Rattle.event_arena.specs.Changes.{with_target}
use Rattle.plan_steps.proofs.Steps.{kept}
use Rattle.empty_commits.proofs.moving.retarget.Goals as goal

pub returns-then-eq : goal.returns-then-eq
returns-then-eq c =
    let plan = c.args.plan.now in
    kept plan c.args.id (with_target c.args.new) (subst (λ t. IfSome (find_event c.args.id plan.after) (λ (e : PlainEvent). with_target t e ≡ e)) (eqb-true c.args.old c.args.new (sym c.eq.ensures ∙ c.if-eq.true)) c.requires.target)
