use Rattle.std.proofs.Common.{◌≡◌, ◌++◌}
use Rattle.plain_model.specs.Lookups.{children_of}
use Rattle.split_reorder.specs.Parents.{moved_parents, with_all}
use Rattle.split_reorder.proofs.relinking.move_children.Given as goal

abbrev pub invariant-loop-child : goal.invariant-loop-child
invariant-loop-child l = record {
  items : l.yielded ++ l.child-iterator ≡ children_of l.fn.old l.events.list;
  plan : l.plan ≡ record l.initial.plan { after = with_all (moved_parents l.events.list l.old l.new l.yielded) l.initial.plan.after };
}
