use Rattle.std.proofs.Common.{nat_eq, take}
use Rattle.std.specs.HashMap.{get}
use Rattle.stream_drafts.specs.Aliased.{AreGrouped}
use Rattle.stream_drafts.proofs.grouping.grouped.Given as goal

abbrev pub invariant-loop-mark : goal.invariant-loop-mark
invariant-loop-mark l = AreGrouped (take l.mark-index l.aliases) (get nat_eq l.groups)
