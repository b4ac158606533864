use Rattle.std.proofs.Common.{◌≡◌, false, take}
use Rattle.std.specs.List.{list_any}
use Rattle.squash_laws.specs.Removed.{is_removed}
use Rattle.squash_delete.proofs.fates.is_any_removed.Given as goal

abbrev pub invariant-loop-commit : goal.invariant-loop-commit
invariant-loop-commit l = list_any (is_removed l.removal.set) (take l.commit-index l.commits) ≡ false
