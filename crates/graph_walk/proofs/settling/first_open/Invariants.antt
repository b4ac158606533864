use Rattle.std.proofs.Common.{◌≡◌, true}
use Rattle.graph_walk.specs.Slots.{is_flagged_until}
use Rattle.graph_walk.proofs.settling.first_open.Given as goal

abbrev pub invariant-loop-slot : goal.invariant-loop-slot
invariant-loop-slot l = is_flagged_until l.flags l.plan.after l.event l.slot ≡ true
