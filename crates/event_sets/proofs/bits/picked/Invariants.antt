use Rattle.std.proofs.Common.{◌≡◌, take}
use Rattle.event_sets.specs.Bits.{picks}
use Rattle.event_sets.proofs.bits.picked.Given as goal

abbrev pub invariant-loop-place : goal.invariant-loop-place
invariant-loop-place l = l.ids ≡ picks (take l.place l.bits) (take l.place l.events.list)
