use Rattle.std.proofs.Common.{◌≡◌}
use Rattle.event_sets.specs.Sets.{near_times}
use Rattle.event_sets.proofs.set.EventSet.near.Given as goal

abbrev pub invariant-loop : goal.invariant-loop
invariant-loop l = record {
  events : l.set.events ≡ l.fn.self.events;
  ids : l.set.ids ≡ near_times l.fn.self.events l.counter l.fn.self.ids;
}
