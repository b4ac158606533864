use Rattle.std.proofs.Common.{◌∷◌, [], List, All, arith, subst, sym}
use Rattle.std.proofs.lemmas.Grind.{common_steps}
use Rattle.std.proofs.lemmas.List.Elements.{All-append, All-cons, All-nil}
use Rattle.plain_model.specs.declared.event.PlainEvent.{PlainEvent}
use Rattle.stream_drafts.specs.Whole.{IsMarked}
use Rattle.stream_drafts.proofs.finish.marked_events.Goals as goal

pub loop-draft-preserved : goal.loop-draft-preserved
loop-draft-preserved c =
    let event = c.in_ok-event.event in
    record {
      list = λ aliases g. grind (arith, common_steps, c.loop-draft.invariant.list aliases g, c.in_ok-event.ensures.event aliases);
      wants = grind (arith, common_steps);
      marked = subst (λ (es : List PlainEvent). All IsMarked es) (sym c.in_ok-push.ensures.ok)
          (All-append IsMarked c.loop-draft.rows (event ∷ []) c.loop-draft.invariant.marked (All-cons IsMarked event [] c.in_ok-event.ensures.marked (All-nil IsMarked)));
      range = grind (arith, common_steps);
    }
