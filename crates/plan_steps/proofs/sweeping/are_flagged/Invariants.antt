use Rattle.std.proofs.Common.{flat_map, take}
use Rattle.plain_model.specs.Lookups.{op_blobs}
use Rattle.plan_steps.specs.Flags.{FlagsIds}
use Rattle.plan_steps.proofs.sweeping.are_flagged.Given as goal

abbrev pub invariant-loop-op : goal.invariant-loop-op
invariant-loop-op l = FlagsIds l.plan.after (flat_map op_blobs (take l.op-index l.ops)) l.flags
