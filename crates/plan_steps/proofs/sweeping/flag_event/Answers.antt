use Rattle.std.proofs.Common.{List, flat_map, subst, sym}
use Rattle.plain_model.specs.Lookups.{op_blobs}
use Rattle.plain_model.specs.declared.operation.FileOp.{FileOp}
use Rattle.plan_steps.specs.Flags.{FlagsAdd}
use Rattle.plan_steps.proofs.SweepLemmas.{some_more}
use Rattle.plan_steps.proofs.sweeping.flag_event.Goals as goal

pub returns-in-Some : goal.returns-in-Some
returns-in-Some c =
    let after = c.args.plan.now.after in
    let old = c.args.flags.now in
    let new = c.flag_blobs.new.flags in
    some_more after c.args.id c.in-Some.event.now old new (sym c.in-Some.ensures) c.requires
    (subst (λ (ops : List FileOp). FlagsAdd after (flat_map op_blobs ops) old new) c.ops.ensures c.flag_blobs.ensures)
