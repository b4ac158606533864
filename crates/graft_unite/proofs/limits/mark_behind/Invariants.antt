use Rattle.std.proofs.Common.{◌≡◌, ◌≤◌, ◌+◌, length, take}
use Rattle.plain_model.specs.Lookups.{marks_of}
use Rattle.plain_model.specs.declared.limit.TheConstants.{MAX_MARK}
use Rattle.graft_unite.proofs.limits.mark_behind.Given as goal

abbrev pub invariant-loop-place : goal.invariant-loop-place
invariant-loop-place l = record {
  next : l.next ≡ l.first + length (marks_of (take l.place l.events.list));
  low : l.next ≤ MAX_MARK + 1;
}
