use Rattle.std.proofs.Common.{◌≡◌}
use Rattle.tagify_laws.specs.InPlace.{moved}
use Rattle.plan_steps.proofs.Steps.{so_far}
use Rattle.empty_commits.proofs.moving.move_all.Given as goal

abbrev pub invariant-loop-place : goal.invariant-loop-place
invariant-loop-place l = l.plan ≡ record l.initial.plan { after = so_far (moved l.empties.set l.empties.events) l.place l.empties.events }
