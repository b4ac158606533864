use Rattle.std.proofs.Common.{◌≡◌, ◌∙◌, ◌+◌, ◌++◌, ◌∷◌, [], add-one, Bool, sym, ap}
use Rattle.plain_model.specs.declared.event.PlainEvent.{PlainEvent}
use Rattle.event_sets.proofs.SetLemmas.{map_more}
use Rattle.selection_eval.proofs.testing.passing.Goals as goal

pub loop-place-preserved : goal.loop-place-preserved
loop-place-preserved g c =
    let test = g.T.EventTest.test c.args.test.now in
    let events = c.args.events.now.list in
    let k = c.loop-place.place in
    let passes : c.in_ok-passes.field-0 ≡ test c.event_at.result.now =
    c.in_ok-passes.ensures.passes ∙ ap (λ (t : PlainEvent → Bool). t c.event_at.result.now) c.loop-place.invariant.same in
    record {
      bits = rw add-one
          (c.in_ok-push.ensures.items
          ∙ (λ i. c.loop-place.invariant.bits i ++ passes i ∷ [])
          ∙ sym (map_more test events k c.event_at.result.now c.event_at.ensures.event));
      same = c.passes.ensures.same ∙ c.loop-place.invariant.same;
    }
