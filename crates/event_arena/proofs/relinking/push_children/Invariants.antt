use Rattle.std.proofs.Common.{◌≡◌, ◌++◌, map}
use Rattle.plain_model.specs.declared.id.AnyId.TheVariants.{Commit}
use Rattle.event_arena.specs.Relinked.{HasPlaces, IsPart}
use Rattle.event_arena.proofs.relinking.push_children.Given as goal

abbrev pub invariant-loop-child : goal.invariant-loop-child
invariant-loop-child l = record {
  items : l.yielded ++ l.child-iterator ≡ l.fn.children;
  old : IsPart l.fn.places.items l.places.items;
  new : HasPlaces (map Commit l.yielded) l.table l.places.items;
}
