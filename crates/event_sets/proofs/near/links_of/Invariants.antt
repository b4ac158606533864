use Rattle.std.proofs.Common.{◌≡◌, length}
use Rattle.event_sets.specs.Around.{linked}
use Rattle.event_sets.proofs.NearLemmas.{Found}
use Rattle.event_sets.proofs.near.links_of.Given as goal

abbrev pub invariant-loop-place : goal.invariant-loop-place
invariant-loop-place l = record {
  count : length l.near.items ≡ length l.events.list;
  found : Found (linked l.events.list) l.events.list l.bits l.place l.near.items;
}
