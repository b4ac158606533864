use Rattle.std.proofs.Common.{ap, ◌∙◌, arith, cond, eqb, take, w8}
use Rattle.std.proofs.lemmas.Simd.{bitmask_splat, first_set_mask_l, length-chunk}
use lib.Count.{count_trailing_zeros}
use Rattle.stream_fields.proofs.lines.run_before.Goals as goal

pub returns : goal.returns
returns c =
    let text = c.args.text.now in
    let byte = c.args.byte in
    let long = length-chunk 0 32 text c.requires in
    c.before_lowest.ensures
    ∙ ap (λ m. cond (eqb m 0) 32 (count_trailing_zeros 64 m)) (bitmask_splat w8 eqb (take 32 text) 32 byte long (omega arith))
    ∙ first_set_mask_l (λ b. eqb b byte) (take 32 text) 32 long (omega arith)
