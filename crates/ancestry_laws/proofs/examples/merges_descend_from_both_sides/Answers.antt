use Rattle.ancestry_laws.proofs.Rows.{ancestors_of_4, beside_2, descendants_of_2}
use Rattle.ancestry_laws.proofs.examples.merges_descend_from_both_sides.Goals as goal

pub returns : goal.returns
returns c = record { descendants = descendants_of_2; ancestors = ancestors_of_4; beside = beside_2 }
