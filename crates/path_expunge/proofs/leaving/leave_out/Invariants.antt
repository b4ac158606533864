use Rattle.std.proofs.Common.{◌≡◌}
use Rattle.expunge_laws.specs.Apart.{event_without}
use Rattle.path_expunge.specs.Apart.{takes}
use Rattle.plan_steps.proofs.Steps.{so_far}
use Rattle.path_expunge.proofs.leaving.leave_out.Given as goal

abbrev pub invariant-loop-place : goal.invariant-loop-place
invariant-loop-place l = l.plan ≡ record l.initial.plan { after = so_far (event_without (takes l.noted.paths)) l.place l.events.list }
