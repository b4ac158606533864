use Rattle.expunge_laws.proofs.InTurn.{copy_comes, copy_goes, copy_puts, rename_comes, rename_goes, rename_puts}
use Rattle.expunge_laws.proofs.operations.copies_and_renames_change_what_they_move.Goals as goal

pub returns : goal.returns
returns c = record {
  copy_goes = copy_goes;
  copy_puts = copy_puts;
  copy_leaves = copy_comes;
  rename_goes = rename_goes;
  rename_puts = rename_puts;
  rename_leaves = rename_comes;
}
