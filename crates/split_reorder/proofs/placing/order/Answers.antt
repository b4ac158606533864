use Rattle.std.proofs.Common.{◌∙◌, ◌++◌, ◌∷◌, [], ◌<◌, drop, suc, length, add-one, arith, ap}
use Rattle.plain_model.specs.declared.id.AnyId.{AnyId}
use Rattle.history_laws.proofs.Lists.{item_at}
use Rattle.split_reorder.specs.Ordered.{ordered}
use Rattle.split_reorder.proofs.Listed.{next_given, none_given, own_given, placed_none, placed_some}
use Rattle.split_reorder.proofs.placing.order.Goals as goal
use Rattle.split_reorder.proofs.placing.order.Goals.{in-Some+in-Some-split_first+in_ok-push-in-Some, in-Some+in_default, in-None+in_ok-push-in-None}

pub loop-place-preserved : goal.loop-place-preserved
loop-place-preserved c =
    let events = c.args.places.now.events in
    let set = c.args.places.now.set in
    let k = c.loop-place.place in
    let ids = c.loop-place.ids in
    let left = c.loop-place.left.now in
    let all = ordered set c.args.commits.now events in
    let v = c.loop-place.invariant in
    let within : k < length events = let test = c.loop-place-test.true in let count = c.count-place-end.ensures.count in omega arith in
    let item = item_at events k within in
    elim c.match-commit_at.branch [
      | in-Some+in-Some-split_first+in_ok-push-in-Some w ↦
          let placed = placed_some set item.0 _ (w.in-Some.ensures item.0 item.1) in
          rw add-one ((λ i. w.ids-is i ++ ordered set (w.left-is i).now (drop (suc k) events))
          ∙ next_given set events k item.0 item.1 ids all left v w.in-Some-split_first.next.now w.in-Some-split_first.others.now _ placed w.in-Some-split_first.ensures.cases.0 w.in_ok-push-in-Some.ensures.ok)
      | in-Some+in_default w ↦
          let placed = placed_some set item.0 _ (w.in-Some.ensures item.0 item.1) in
          rw add-one ((λ i. w.ids-is i ++ ordered set (w.left-is i).now (drop (suc k) events))
          ∙ none_given set events k item.0 item.1 ids all left v placed w.in_default.ensures.cases)
      | in-None+in_ok-push-in-None w ↦
          let e = w.nth.result.now in
          rw add-one ((λ i. w.ids-is i ++ ordered set (w.left-is i).now (drop (suc k) events))
          ∙ own_given set events k e w.nth.ensures.event ids all left v _ (placed_none set e (w.in-None.ensures e w.nth.ensures.event))
          (w.in_ok-push-in-None.ensures.ok ∙ ap (λ (id : AnyId). ids ++ id ∷ []) w.id.ensures))
    ]
