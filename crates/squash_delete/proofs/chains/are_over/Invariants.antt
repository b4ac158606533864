use Rattle.std.proofs.Common.{◌≡◌, true, take}
use Rattle.std.specs.List.{list_all}
use Rattle.plain_model.specs.Histories.{past}
use Rattle.edit_laws.specs.Removal.{expand}
use Rattle.squash_laws.specs.Removed.{is_removed}
use Rattle.squash_laws.specs.Takings.{is_none}
use Rattle.squash_delete.proofs.chains.are_over.Given as goal

abbrev pub invariant-loop-parent : goal.invariant-loop-parent
invariant-loop-parent l =
    list_all (λ p. is_none (expand (is_removed l.removal.set) (past l.removal.events) p)) (take l.parent-index l.parents) ≡ true
