use Rattle.std.proofs.Common.{◌-◌, drop}
use Rattle.coalesce_simplify.specs.Voiding.{AreVoid, Knows}
use Rattle.coalesce_simplify.proofs.voiding.void_flags.Given as goal

abbrev pub invariant-loop-done : goal.invariant-loop-done
invariant-loop-done l = Knows (drop (l.count - l.done) l.ops) l.later × AreVoid l.ops (l.count - l.done) l.flags.items
