use Rattle.std.proofs.Common.{add-one}
use Rattle.selection_eval.proofs.TipSteps.{next_tips}
use Rattle.selection_eval.proofs.tags.tips_of.Goals as goal

pub loop-place-preserved : goal.loop-place-preserved
loop-place-preserved c =
    rw add-one
    (next_tips c.loop-place.tips c.note.new.self c.args.events.now.list c.loop-place.place c.nth.result.now c.nth.ensures.event
    c.in_ok-note.ensures.ok c.loop-place.invariant)
