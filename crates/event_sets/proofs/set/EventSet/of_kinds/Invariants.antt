use Rattle.std.proofs.Common.{◌≡◌, map, take}
use Rattle.event_sets.specs.Kinds.{is_of}
use Rattle.event_sets.proofs.set.EventSet.of_kinds.Given as goal

abbrev pub invariant-loop-place : goal.invariant-loop-place
invariant-loop-place l = l.bits.items ≡ map (is_of l.events.list l.kinds) (take l.place l.events.list)
