use Rattle.std.proofs.Common.{◌≡◌, ◌++◌, drop}
use Rattle.commit_laws.specs.Selected.{chosen}
use Rattle.plan_steps.proofs.selected.chosen.Given as goal

abbrev pub invariant-loop-id : goal.invariant-loop-id
invariant-loop-id l = l.commits ++ chosen (drop l.id-index l.set) ≡ chosen l.set
