use Rattle.expunge_laws.proofs.Whole.{expunge_shown, expunge_trees}
use Rattle.expunge_laws.proofs.laws.an_expunge_restricts_trees.Goals as goal

pub returns : goal.returns
returns c = record {
  trees = λ matched events new h. expunge_trees matched events h new;
  shown = λ matched events new h. expunge_shown matched events h new;
}
