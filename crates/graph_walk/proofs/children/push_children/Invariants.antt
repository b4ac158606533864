use Rattle.std.proofs.Common.{◌≡◌, ◌++◌, map}
use Rattle.plain_model.specs.Lookups.{children_of}
use Rattle.plain_model.specs.declared.id.AnyId.TheVariants as any
use Rattle.graph_walk.proofs.children.push_children.Given as goal

abbrev pub invariant-loop-child : goal.invariant-loop-child
invariant-loop-child l = record {
  items : l.yielded ++ l.child-iterator ≡ children_of l.fn.commit l.events.list;
  list : l.list ≡ l.initial.list ++ map any.Commit l.yielded;
}
