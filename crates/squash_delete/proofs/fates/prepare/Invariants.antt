use Rattle.plan_steps.specs.Tables.{IsTableTo}
use Rattle.squash_delete.specs.Fates.{FateIs}
use Rattle.squash_delete.specs.declared.fates.Fate.TheVariants.{Same}
use Rattle.squash_delete.proofs.fates.prepare.Given as goal

abbrev pub invariant-loop-place : goal.invariant-loop-place
invariant-loop-place l = IsTableTo Same (FateIs l.removal.set l.removal.events l.fn.comments l.fn.tags) l.removal.events l.place l.fates.items
