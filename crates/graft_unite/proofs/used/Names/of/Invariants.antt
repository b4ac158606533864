use Rattle.std.proofs.Common.{take}
use Rattle.graft_unite.specs.Used.{AreNamesOf}
use Rattle.graft_unite.proofs.used.Names.of.Given as goal

abbrev pub invariant-loop-place : goal.invariant-loop-place
invariant-loop-place l = AreNamesOf (take l.place l.events.list) l.names
