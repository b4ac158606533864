use Rattle.std.proofs.Common.{◌∙◌, ◌∷◌, [], List, add-one, append-nil, arith, sym}
use Rattle.plain_model.specs.declared.id.AnyId.{AnyId}
use Rattle.history_laws.proofs.Lists.{item_at}
use Rattle.plan_steps.proofs.SweepLemmas.{over_item}
use Rattle.plan_steps.proofs.sweeping.left_over.Goals as goal
use Rattle.plan_steps.proofs.sweeping.left_over.Goals.{in-Some+in_ok-push, in_default}

pub loop-place-preserved : goal.loop-place-preserved
loop-place-preserved c =
    let old = c.args.plan.now.before in
    let new = c.args.plan.now.after in
    let place = c.loop-place.place in
    let item = item_at new place (let test = c.loop-place-test.true in let count = c.count-place-end.ensures.count in omega arith) in
    let more = λ (found : List AnyId). over_item old new place item.0 c.loop-place.ids found item.1 c.loop-place.invariant in
    elim c.match-over_at.branch [
      | in-Some+in_ok-push w ↦ w.ids-is ∙ w.in_ok-push.ensures.ok ∙ rw add-one (more (w.in-Some.id ∷ []) (w.in-Some.ensures item.0 item.1))
      | in_default w ↦ w.ids-is ∙ sym (append-nil c.loop-place.ids) ∙ rw add-one (more [] (w.in_default.ensures item.0 item.1))
    ]
