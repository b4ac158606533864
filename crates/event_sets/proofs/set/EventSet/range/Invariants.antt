use Rattle.std.proofs.Common.{◌≡◌, map, take}
use Rattle.event_sets.proofs.SetLemmas.{is_between}
use Rattle.event_sets.proofs.set.EventSet.range.Given as goal

abbrev pub invariant-loop-place : goal.invariant-loop-place
invariant-loop-place l = l.bits.items ≡ map (is_between l.first l.last l.events.list) (take l.place l.events.list)
