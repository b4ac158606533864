use Rattle.std.proofs.Common.{take}
use Rattle.plan_steps.specs.Ways.{AreLed}
use Rattle.plan_steps.proofs.ways.lead.Given as goal

abbrev pub invariant-loop-commit : goal.invariant-loop-commit
invariant-loop-commit l = AreLed l.removal.events (take l.commit-index l.commits) l.way l.initial.ways l.ways
