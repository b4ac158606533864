use Rattle.std.proofs.Common.{flat_map, take}
use Rattle.plain_model.specs.Lookups.{op_blobs}
use Rattle.plan_steps.specs.Flags.{FlagsAdd}
use Rattle.plan_steps.proofs.sweeping.flag_blobs.Given as goal

abbrev pub invariant-loop-op : goal.invariant-loop-op
invariant-loop-op l = FlagsAdd l.plan.after (flat_map op_blobs (take l.op-index l.ops)) l.initial.flags l.flags
