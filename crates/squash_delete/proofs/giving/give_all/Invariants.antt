use Rattle.std.proofs.Common.{◌≡◌, take}
use Rattle.squash_delete.specs.Fates.{all_given}
use Rattle.squash_delete.proofs.giving.give_all.Given as goal

abbrev pub invariant-loop-place : goal.invariant-loop-place
invariant-loop-place l = l.plan ≡ record l.initial.plan { after = all_given (take l.place l.fates) l.initial.plan.after }
