use Rattle.std.proofs.Common.{◌∙◌, sym}
use Rattle.plain_model.specs.Lookups.{is_listed, op_blobs}
use Rattle.event_sets.proofs.NearLemmas.{any_flat}
use Rattle.event_sets.proofs.near.put_blobs.Goals as goal

pub returns-then-puts_blob : goal.returns-then-puts_blob
returns-then-puts_blob c = λ ids tied live.
    sym (any_flat (λ b. is_listed b ids) op_blobs c.args.ops.now c.loop-op.op-index c.op-item.result
    c.loop-op-test.true c.op-item.is
    (sym (c.puts_blob.ensures ids tied live) ∙ c.if-puts_blob.true))
