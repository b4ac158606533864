use Rattle.std.proofs.Common.{◌≡◌, ◌≤◌, ◌-◌, length}
use Rattle.squash_delete.specs.Chains.{AreLinks}
use Rattle.squash_delete.proofs.chains.links.Given as goal

abbrev pub invariant-loop-place : goal.invariant-loop-place
invariant-loop-place l = record {
  within : l.place ≤ length l.removal.events;
  count : l.table.count ≡ l.place;
  links : AreLinks l.removal.set l.removal.events l.table;
}

abbrev pub decreases-loop-place : goal.decreases-loop-place
decreases-loop-place l = length l.removal.events - l.place
