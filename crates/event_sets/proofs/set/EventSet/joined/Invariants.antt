use Rattle.std.proofs.Common.{◌≡◌, take}
use Rattle.event_sets.specs.Sets.{union}
use Rattle.event_sets.proofs.set.EventSet.joined.Given as goal

abbrev pub invariant-loop-id : goal.invariant-loop-id
invariant-loop-id l = l.joined ≡ union l.self.ids (take l.id-index l.ids)
