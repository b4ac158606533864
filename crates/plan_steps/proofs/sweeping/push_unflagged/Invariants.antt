use Rattle.std.proofs.Common.{◌≡◌, ◌++◌, filter, flat_map, take}
use Rattle.plain_model.specs.Lookups.{op_blobs}
use Rattle.plan_steps.specs.Flags.{is_unflagged}
use Rattle.plan_steps.proofs.sweeping.push_unflagged.Given as goal

abbrev pub invariant-loop-op : goal.invariant-loop-op
invariant-loop-op l = l.ids ≡ l.initial.ids ++ filter (is_unflagged l.flags l.table) (flat_map op_blobs (take l.op-index l.ops))
