use Rattle.std.proofs.Common.{◌∙◌, ◌++◌, ◌∷◌, [], add-one, false, get_or, sym, arith}
use Rattle.std.specs.Prelude.{◌&&◌}
use Rattle.event_sets.proofs.BitLemmas.{both_more}
use Rattle.event_sets.proofs.bits.both.Goals as goal

pub loop-place-preserved : goal.loop-place-preserved
loop-place-preserved c =
    let test = c.loop-place-test.true in
    let same = c.requires in
    let left = c.args.left.now in
    let right = c.args.right.now in
    let k = c.loop-place.place in
    rw add-one (c.in_ok-push.ensures.items
    ∙ (λ i. c.loop-place.invariant i ++ (get_or left k false && get_or right k false) ∷ [])
    ∙ sym (both_more left right k (omega arith) (omega arith)))
