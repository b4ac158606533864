use Rattle.std.proofs.Common.{◌≡◌, take}
use Rattle.plan_steps.specs.Leaving.{with_all_parents}
use Rattle.squash_delete.proofs.parents.give_parents.Given as goal

abbrev pub invariant-loop-change : goal.invariant-loop-change
invariant-loop-change l =
    l.plan ≡ record l.initial.plan { after = with_all_parents (take l.change-index l.changes) l.initial.plan.after }
