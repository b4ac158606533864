use Rattle.std.proofs.Common.{◌∙◌, ◌++◌, ◌∷◌, [], add-one, sym}
use Rattle.event_sets.proofs.BitLemmas.{picks_more, picks_skip}
use Rattle.event_sets.proofs.bits.picked.Goals as goal
use Rattle.event_sets.proofs.bits.picked.Goals.{then-bits-place+in_ok-push, else-bits-place}

pub loop-place-preserved : goal.loop-place-preserved
loop-place-preserved c =
    let es = c.args.events.now.list in
    let bits = c.args.bits.now in
    let k = c.loop-place.place in
    elim c.if-bits-place.branch [
      | then-bits-place+in_ok-push w ↦ rw (w.ids-is, add-one)
          (w.in_ok-push.ensures.ok ∙ (λ i. c.loop-place.invariant i ++ w.id.ensures i ∷ [])
          ∙ sym (picks_more bits es k w.nth.result.now w.nth.ensures.event w.if-bits-place.true))
      | else-bits-place w ↦ rw (w.ids-is, add-one) (c.loop-place.invariant
          ∙ sym (picks_skip bits es k w.if-bits-place.false))
    ]
