use Rattle.std.proofs.Common.{◌∙◌, List, take, add-one, ap, flat_map, length, subst, sym}
use Rattle.plain_model.specs.Lookups.{op_blobs}
use Rattle.plain_model.specs.declared.event.PlainEvent.{PlainEvent}
use Rattle.event_arena.proofs.ListLemmas.{take_all, take_more}
use Rattle.plan_steps.specs.Flags.{FlagsAdd}
use Rattle.plan_steps.proofs.SweepLemmas.{adds_join, flat_push}
use Rattle.plan_steps.proofs.sweeping.flag_blobs.Goals as goal

pub flag_blob-requires : goal.flag_blob-requires
flag_blob-requires c = c.loop-op.invariant.count ∙ c.requires ∙ ap (λ (es : List PlainEvent). length es) (sym c.after.ensures)

pub loop-op-preserved : goal.loop-op-preserved
loop-op-preserved c =
    let events = c.args.plan.now.after in
    let k = c.loop-op.op-index in
    let op = c.op-item.result in
    let so_far = flat_map op_blobs (take k c.args.ops.now) in
    let more = ap (flat_map op_blobs) (take_more c.args.ops.now k op c.loop-op-test.true c.op-item.is) ∙ flat_push op_blobs (take k c.args.ops.now) op in
    let new = c.flag_blob.new.flags in
    rw (add-one, more) (adds_join events so_far (op_blobs op) c.args.flags.now c.loop-op.flags new c.loop-op.invariant
    (subst (λ (es : List PlainEvent). FlagsAdd es (op_blobs op) c.loop-op.flags new) c.after.ensures c.flag_blob.ensures))

pub returns : goal.returns
returns c = subst (λ ops. FlagsAdd c.args.plan.now.after (flat_map op_blobs ops) c.args.flags.now c.loop-op.flags)
    (take_all c.args.ops.now c.loop-op.op-index c.loop-op-test.false) c.loop-op.invariant
