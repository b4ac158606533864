use Rattle.std.proofs.Common.{◌≡◌, take}
use Rattle.path_expunge.specs.Fates.{all_given_way}
use Rattle.path_expunge.proofs.giving.give_all.Given as goal

abbrev pub invariant-loop-place : goal.invariant-loop-place
invariant-loop-place l = l.plan ≡ record l.initial.plan { after = all_given_way (take l.place l.fates) l.initial.plan.after }
