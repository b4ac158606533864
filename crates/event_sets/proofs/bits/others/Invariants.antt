use Rattle.std.proofs.Common.{◌≡◌, map, not, take}
use Rattle.event_sets.proofs.bits.others.Given as goal

abbrev pub invariant-loop-bit : goal.invariant-loop-bit
invariant-loop-bit l = l.others.items ≡ map not (take l.bit-index l.bits)
