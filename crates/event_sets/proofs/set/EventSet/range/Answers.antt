use Rattle.std.proofs.Common.{◌∙◌, ◌++◌, ◌∷◌, ◌+◌, [], add-one, nat_le, sym, arith}
use Rattle.std.specs.Prelude.{◌&&◌}
use Rattle.history_laws.proofs.SoundOnce.{sound_once}
use Rattle.event_sets.proofs.SetLemmas.{range_more}
use Rattle.event_sets.proofs.set.EventSet.range.Goals as goal

pub loop-place-preserved : goal.loop-place-preserved
loop-place-preserved c =
    let es = c.args.events.now.list in
    let k = c.loop-place.place in
    let test = c.loop-place-test.true in
    let count = c.count-place-end.ensures.count in
    rw add-one (c.in_ok-push.ensures.items
    ∙ (λ i. c.loop-place.invariant i ++ (nat_le c.args.first (k + 1) && nat_le (k + 1) c.args.last) ∷ [])
    ∙ sym (range_more c.args.first c.args.last es k (sound_once es c.count-place-end.ensures.sound).ids (omega arith)))
