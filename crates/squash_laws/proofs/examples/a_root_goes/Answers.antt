use Rattle.squash_laws.proofs.Rows.{both_roots, both_roots_tree, one_root, one_root_tree}
use Rattle.squash_laws.proofs.examples.a_root_goes.Goals as goal

pub returns : goal.returns
returns c = record { one = one_root; both = both_roots; trees = one_root_tree; root_trees = both_roots_tree }
