use Rattle.std.proofs.Common.{◌≡◌, take}
use Rattle.manifest_cache.proofs.equal_ops.same_ops.Given as goal

abbrev pub invariant-loop-i : goal.invariant-loop-i
invariant-loop-i l = take l.i l.one ≡ take l.i l.other
