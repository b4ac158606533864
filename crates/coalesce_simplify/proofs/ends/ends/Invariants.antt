use Rattle.std.proofs.Common.{◌-◌}
use Rattle.coalesce_simplify.specs.Joining.{AreEndsFrom}
use Rattle.coalesce_simplify.proofs.ends.ends.Given as goal

abbrev pub invariant-loop-done : goal.invariant-loop-done
invariant-loop-done l = AreEndsFrom l.going.set l.going.events (l.count - l.done) l.ends.items
