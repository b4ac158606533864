use Rattle.std.proofs.Common.{◌≡◌, ◌∷◌, [], Bool, false, take}
use Rattle.std.specs.List.{list_any}
use Rattle.plain_model.specs.declared.policy.Lean.{Lean}
use Rattle.plan_steps.specs.Tables.{IsTable}
use Rattle.squash_delete.specs.declared.fates.Fate.TheVariants.{Same}
use Rattle.squash_delete.specs.Fates.{FateIs, has_many_parents, left_some}
use Rattle.squash_delete.proofs.judging.has_many_parents.Given as goal

abbrev pub invariant-loop-place : goal.invariant-loop-place
invariant-loop-place l =
    (comments : Bool) (tags : Lean) → IsTable Same (FateIs l.removal.set l.removal.events comments tags) l.removal.events l.fates →
    list_any (λ e. has_many_parents (left_some l.removal.set l.removal.events comments tags (e ∷ []))) (take l.place l.removal.events) ≡ false
