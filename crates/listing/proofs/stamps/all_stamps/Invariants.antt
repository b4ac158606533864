use Rattle.std.proofs.Common.{◌≡◌, [], ◌++◌, drop, take}
use Rattle.listing.specs.Stamping.{AreCounts, ranks}
use Rattle.listing.proofs.stamps.all_stamps.Given as goal

abbrev pub invariant-loop-place : goal.invariant-loop-place
invariant-loop-place l = record {
  counts : AreCounts l.counts (take l.place l.events.list);
  ranks : l.ranks ++ ranks (take l.place l.events.list) (drop l.place l.events.list) ≡ ranks [] l.events.list;
}
