use Rattle.std.proofs.Common.{◌≡◌, take}
use Rattle.event_sets.specs.Bits.{both}
use Rattle.event_sets.proofs.bits.both.Given as goal

abbrev pub invariant-loop-place : goal.invariant-loop-place
invariant-loop-place l = l.bits.items ≡ both (take l.place l.left) (take l.place l.right)
