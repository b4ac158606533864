use Rattle.std.proofs.Common.{◌≡◌}
use Rattle.simplify_laws.specs.Simplify.{simplified_event}
use Rattle.plan_steps.proofs.Steps.{so_far}
use Rattle.coalesce_simplify.proofs.simplifying.simplify_all.Given as goal

abbrev pub invariant-loop-place : goal.invariant-loop-place
invariant-loop-place l =
    l.plan ≡ record l.initial.plan { after = so_far (simplified_event l.chosen.set) l.place l.chosen.events }
