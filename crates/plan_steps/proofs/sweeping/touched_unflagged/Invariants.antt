use Rattle.std.proofs.Common.{◌≡◌, filter, flat_map, take}
use Rattle.plan_steps.specs.Flags.{event_blobs, has_flag, is_unflagged}
use Rattle.plan_steps.proofs.sweeping.touched_unflagged.Given as goal

abbrev pub invariant-loop-place : goal.invariant-loop-place
invariant-loop-place l = l.ids ≡ filter (is_unflagged l.flags l.plan.before) (flat_map event_blobs (filter (has_flag l.touched l.plan.before) (take l.place l.plan.before)))
