use Rattle.simplify_laws.proofs.Rows.{below_folder, rename_between}
use Rattle.simplify_laws.proofs.examples.an_operation_before_a_rename_stays.Goals as goal

pub returns : goal.returns
returns c = record { renamed = rename_between; below = below_folder }
