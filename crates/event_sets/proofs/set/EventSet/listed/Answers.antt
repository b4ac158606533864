use Rattle.std.proofs.Common.{◌∙◌, ◌++◌, ◌∷◌, [], add-one, ap, subst, sym, take}
use Rattle.event_sets.specs.Once.{AreLive}
use Rattle.event_sets.specs.Sets.{is_live}
use Rattle.std.specs.Prelude.{is_some}
use Rattle.event_sets.proofs.SetLemmas.{filter_keep, filter_skip, live_live, live_place}
use Rattle.event_sets.proofs.set.EventSet.listed.Goals as goal
use Rattle.event_sets.proofs.set.EventSet.listed.Goals.{then-is_some+in_ok-push, else-is_some}

pub loop-id-preserved : goal.loop-id-preserved
loop-id-preserved c =
    let es = c.args.events.now.list in
    let ids = c.args.ids.now in
    let k = c.loop-id.id-index in
    let id = c.id-item.result in
    let found = live_place es id ∙ ap is_some (sym c.place.ensures.place) ∙ sym c.is_some.ensures in
    elim c.if-is_some.branch [
      | then-is_some+in_ok-push w ↦ rw (w.order-is, add-one)
          (w.in_ok-push.ensures.ok ∙ (λ i. c.loop-id.invariant i ++ id ∷ [])
          ∙ sym (filter_keep (is_live es) ids k id c.loop-id-test.true c.id-item.is (found ∙ w.if-is_some.true)))
      | else-is_some w ↦ rw (w.order-is, add-one) (c.loop-id.invariant
          ∙ sym (filter_skip (is_live es) ids k id c.loop-id-test.true c.id-item.is (found ∙ w.if-is_some.false)))
    ]

pub of_order-requires : goal.of_order-requires
of_order-requires c =
    subst (AreLive c.args.events.now.list) (sym c.loop-id.invariant)
    (live_live c.args.events.now.list (take c.loop-id.id-index c.args.ids.now))
