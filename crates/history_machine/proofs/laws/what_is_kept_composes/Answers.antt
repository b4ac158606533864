use Rattle.history_machine.specs.Kept.{KeepsEveryTree, KeepsIdsAndTrees, KeepsTreesOfRest}
use Rattle.history_machine.proofs.Composed.{each_in_turn, each_less, every_in_turn, every_of_all, rest_in_turn}
use Rattle.history_machine.proofs.laws.what_is_kept_composes.Goals as goal

pub returns : goal.returns
returns c = record {
  all = each_less KeepsIdsAndTrees KeepsEveryTree every_of_all;
  rest = each_less KeepsEveryTree KeepsTreesOfRest (λ old new k. k.rest);
  every_in_turn = each_in_turn KeepsEveryTree every_in_turn;
  rest_in_turn = each_in_turn KeepsTreesOfRest rest_in_turn;
}
