use Rattle.std.proofs.Common.{◌≡◌, take}
use Rattle.event_sets.specs.Sets.{live}
use Rattle.event_sets.proofs.set.EventSet.listed.Given as goal

abbrev pub invariant-loop-id : goal.invariant-loop-id
invariant-loop-id l = l.order ≡ live l.events.list (take l.id-index l.ids)
