use Rattle.std.proofs.Common.{◌≡◌, ◌≤◌, ◌∷◌, [], Bool, take}
use Rattle.plain_model.specs.declared.limit.TheConstants.{MAX_OPERATIONS}
use Rattle.plain_model.specs.declared.policy.Lean.{Lean}
use Rattle.edit_laws.specs.Parts.{tally}
use Rattle.plan_steps.specs.Tables.{IsTable}
use Rattle.squash_delete.specs.declared.fates.Fate.TheVariants.{Same}
use Rattle.squash_delete.specs.Fates.{FateIs, left_some}
use Rattle.squash_delete.specs.Sources.{count_ops}
use Rattle.squash_delete.proofs.judging.has_many_ops.Given as goal

abbrev pub invariant-loop-place : goal.invariant-loop-place
invariant-loop-place l = record {
  low : l.total ≤ MAX_OPERATIONS;
  sum : (comments : Bool) (tags : Lean) → IsTable Same (FateIs l.removal.set l.removal.events comments tags) l.removal.events l.fates →
      l.total ≡ tally (λ e. count_ops (left_some l.removal.set l.removal.events comments tags (e ∷ []))) (take l.place l.removal.events);
}
