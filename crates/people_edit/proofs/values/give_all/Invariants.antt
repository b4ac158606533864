use Rattle.std.proofs.Common.{◌≡◌}
use Rattle.people_laws.specs.Values.{valued_in}
use Rattle.plan_steps.proofs.Steps.{so_far}
use Rattle.people_edit.proofs.values.give_all.Given as goal

abbrev pub invariant-loop-place : goal.invariant-loop-place
invariant-loop-place l = l.plan ≡ record l.initial.plan { after = so_far (valued_in l.value l.flagged.set) l.place l.flagged.events }
