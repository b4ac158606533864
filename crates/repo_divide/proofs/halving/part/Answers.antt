use Rattle.history_laws.proofs.Lists.{item_at}
use Rattle.event_arena.proofs.ListLemmas.{take_all}
use Rattle.std.proofs.Common.{◌∙◌, ◌≤◌, ◌++◌, ◌∷◌, [], add-one, ap, arith, filter, length, sym}
use Rattle.divide_laws.specs.Sides
use Rattle.plan_steps.proofs.SweepLemmas.{filter_in, filter_out}
use Rattle.repo_divide.proofs.halving.part.Goals as goal
use Rattle.repo_divide.proofs.halving.part.Goals.{then-goes+in_ok-copied+in_ok-push, else-goes}

pub loop-place-preserved : goal.loop-place-preserved
loop-place-preserved c =
    let events = c.args.plan.now.after in
    let k = c.loop-place.place in
    let item = item_at events k (let test = c.loop-place-test.true in let count = c.count-place-end.ensures.count in omega arith) in
    rw add-one (λ has kept is a. elim c.if-goes.branch [
      | then-goes+in_ok-copied+in_ok-push w ↦
          let e = w.nth.result.now in
          let at = w.nth.ensures.event in
          let copied = w.in_ok-copied.ensures in
          w.list-is ∙ w.in_ok-push.ensures.ok ∙ (λ i. c.loop-place.invariant has kept is a i ++ copied i ∷ [])
          ∙ sym (filter_in (Sides.goes has kept) events k e at (sym (c.goes.ensures has kept e is a at) ∙ w.if-goes.true))
      | else-goes w ↦
          w.list-is ∙ c.loop-place.invariant has kept is a
          ∙ sym (filter_out (Sides.goes has kept) events k item.0 item.1 (sym (c.goes.ensures has kept item.0 is a item.1) ∙ w.if-goes.false))
    ])

pub returns : goal.returns
returns c =
    let events = c.args.plan.now.after in
    let all : length events ≤ c.loop-place.place = let test = c.loop-place-test.false in let count = c.count-place-end.ensures.count in omega arith in
    λ has kept is a. c.loop-place.invariant has kept is a ∙ ap (filter (Sides.goes has kept)) (take_all events c.loop-place.place all)
