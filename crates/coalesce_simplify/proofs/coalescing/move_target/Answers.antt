use Rattle.std.proofs.Common.{◌≡◌, ◌∙◌, eqb-true, sym, subst}
use Rattle.std.specs.Prelude.{IfSome}
use Rattle.plain_model.specs.Lookups.{find_event}
use Rattle.event_arena.specs.Changes.{with_target}
use Rattle.coalesce_simplify.specs.Joining.{end_of}
use Rattle.plan_steps.proofs.Steps.{kept}
use Rattle.coalesce_simplify.proofs.coalescing.move_target.Goals as goal

pub returns-then-eq : goal.returns-then-eq
returns-then-eq c =
    let plan = c.args.plan.now in
    let end = end_of c.args.going.now.set c.args.going.now.events c.args.target in
    let same : c.args.target ≡ end = sym (eqb-true c.end_of-end.result c.args.target (sym c.eq.ensures ∙ c.if-eq.true)) ∙ c.end_of-end.ensures in
    kept plan c.args.id (with_target end)
    (subst (λ t. IfSome (find_event c.args.id plan.after) (λ event. with_target t event ≡ event)) same c.requires.own)
