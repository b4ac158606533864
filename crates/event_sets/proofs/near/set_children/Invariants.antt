use Rattle.std.proofs.Common.{◌≡◌, ◌++◌, length, map}
use Rattle.plain_model.specs.Lookups.{children_of}
use Rattle.plain_model.specs.declared.id.AnyId.TheVariants as any
use Rattle.event_sets.specs.Bits.{Adds}
use Rattle.event_sets.proofs.near.set_children.Given as goal

abbrev pub invariant-loop-child : goal.invariant-loop-child
invariant-loop-child l = record {
  count : length l.bits.items ≡ length l.initial.bits.items;
  items : l.yielded ++ l.child-iterator ≡ children_of l.fn.commit l.events.list;
  adds : Adds l.events.list (map any.Commit l.yielded) l.initial.bits.items l.bits.items;
}
