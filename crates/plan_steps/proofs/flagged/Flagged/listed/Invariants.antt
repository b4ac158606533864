use Rattle.std.proofs.Common.{◌≡◌, take}
use Rattle.commit_laws.specs.Selected.{listed}
use Rattle.plan_steps.proofs.flagged.Flagged.listed.Given as goal

abbrev pub invariant-loop-place : goal.invariant-loop-place
invariant-loop-place l = l.commits ≡ listed l.self.set (take l.place l.self.events)
