use Rattle.std.proofs.Common.{◌≡◌, take}
use Rattle.event_sets.specs.Sets.{common}
use Rattle.event_sets.proofs.set.EventSet.kept.Given as goal

abbrev pub invariant-loop-id : goal.invariant-loop-id
invariant-loop-id l = l.kept ≡ common (take l.id-index l.ids) l.self.ids
