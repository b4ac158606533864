use Rattle.std.proofs.Common.{◌≤◌, length}
use Rattle.event_arena.proofs.ShiftLemmas.{HaveCome, HaveStayed}
use Rattle.event_arena.specs.Families.{IsRoomKept}
use Rattle.event_arena.proofs.shifting.shift.Given as goal

-- the lists of the places so far have come from where their events were, at these places or later ones, and the others are
-- still as they were
abbrev pub invariant-loop-place : goal.invariant-loop-place
invariant-loop-place l = record {
  behind : l.place ≤ l.from;
  within : l.from ≤ length l.before;
  room : IsRoomKept l.fn.links l.links;
  come : HaveCome l.place l.before l.after l.fn.links.lists l.links.lists;
  stayed : HaveStayed l.place l.fn.links.lists l.links.lists;
}
