use Rattle.std.proofs.Common.{◌≡◌, take}
use Rattle.graph_walk.specs.Children.{children_of_all}
use Rattle.graph_walk.proofs.children.children_of_all.Given as goal

abbrev pub invariant-loop-id : goal.invariant-loop-id
invariant-loop-id l = l.list ≡ children_of_all l.events.list (take l.id-index l.ids)
