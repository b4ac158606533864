use Rattle.std.proofs.Common.{refl, true}
use Rattle.plain_model.specs.Lookups.{next_number}
use Rattle.graft_laws.specs.Sources.{HasTreesOfAll}
use Rattle.graft_laws.proofs.AllParts.{all_stay, in_order}
use Rattle.graft_laws.proofs.Sources.{next_after}
use Rattle.graft_laws.proofs.UniteDone.{united}
use Rattle.graft_laws.proofs.laws.a_pruned_unite_keeps_all_trees.Goals as goal

pub returns : goal.returns
returns c = record {
  trees = λ parts others base new good h order.
      let u = united true parts new h in
      in_order (λ first further. HasTreesOfAll further (next_number first.events) new) true parts new u base others order (all_stay true parts new u good refl);
  numbers = next_after;
}
