use Rattle.std.proofs.Common.{◌≡◌, drop}
use Rattle.selection_eval.specs.Spots.{itemized, with_items}
use Rattle.selection_eval.proofs.items.itemized.Given as goal

abbrev pub invariant-loop-one : goal.invariant-loop-one
invariant-loop-one l = record {
  events : l.set.events ≡ l.events.list;
  rest : with_items l.set.ids (drop l.one-index l.items) l.events.list l.names ≡ itemized l.items l.events.list l.names;
}
