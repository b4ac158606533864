use Rattle.std.proofs.Common.{◌≡◌}
use Rattle.coalesce_simplify.specs.Joining.{joined_event}
use Rattle.plan_steps.proofs.Steps.{so_far}
use Rattle.coalesce_simplify.proofs.coalescing.join_all.Given as goal

abbrev pub invariant-loop-place : goal.invariant-loop-place
invariant-loop-place l =
    l.plan ≡ record l.initial.plan { after = so_far (joined_event l.going.set l.going.events) l.place l.going.events }
