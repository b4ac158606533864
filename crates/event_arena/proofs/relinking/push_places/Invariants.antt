use Rattle.std.proofs.Common.{take}
use Rattle.event_arena.specs.Relinked.{HasPlaces, IsPart}
use Rattle.event_arena.proofs.relinking.push_places.Given as goal

abbrev pub invariant-loop-id : goal.invariant-loop-id
invariant-loop-id l = record {
  old : IsPart l.fn.places.items l.places.items;
  new : HasPlaces (take l.id-index l.ids) l.table l.places.items;
}
