use Rattle.std.proofs.Common.{◌≡◌, length, take}
use Rattle.event_sets.specs.Bits.{Adds}
use Rattle.event_sets.proofs.bits.set_bits.Given as goal

abbrev pub invariant-loop-id : goal.invariant-loop-id
invariant-loop-id l = record {
  count : length l.bits.items ≡ length l.initial.bits.items;
  adds : Adds l.events.list (take l.id-index l.ids) l.initial.bits.items l.bits.items;
}
