use Rattle.std.proofs.Common.{◌∙◌, ◌++◌, ◌∷◌, [], add-one, sym}
use Rattle.event_sets.specs.Kinds.{is_of}
use Rattle.event_sets.proofs.SetLemmas.{map_more}
use Rattle.event_sets.proofs.set.EventSet.of_kinds.Goals as goal

pub loop-place-preserved : goal.loop-place-preserved
loop-place-preserved c =
    let es = c.args.events.now.list in
    rw add-one (c.in_ok-push.ensures.items ∙ (λ i. c.loop-place.invariant i ++ c.is_of.ensures i ∷ [])
    ∙ sym (map_more (is_of es c.args.kinds) es c.loop-place.place c.nth.result.now c.nth.ensures.event))
