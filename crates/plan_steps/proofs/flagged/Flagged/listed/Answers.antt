use Rattle.std.proofs.Common.{◌∙◌, ◌++◌, ◌<◌, List, ℕ, length, take, add-one, append-nil, arith, sym, ap}
use Rattle.history_laws.proofs.Lists.{item_at}
use Rattle.commit_laws.specs.Selected.{listed}
use Rattle.plan_steps.proofs.Along.{listed_more}
use Rattle.plan_steps.proofs.flagged.Flagged.listed.Goals as goal
use Rattle.plan_steps.proofs.flagged.Flagged.listed.Goals.{in-Some+in_ok-push, in_default}

pub loop-place-preserved : goal.loop-place-preserved
loop-place-preserved c =
    let events = c.args.self.now.events in
    let set = c.args.self.now.set in
    let k = c.loop-place.place in
    let within : k < length events = let test = c.loop-place-test.true in let count = c.count-place-end.ensures.count in omega arith in
    let item = item_at events k within in
    let more = listed_more set events k item.0 item.1 in
    elim c.match-commit_at.branch [
      | in-Some+in_ok-push w ↦ rw add-one (w.commits-is ∙ w.in_ok-push.ensures.ok ∙ (λ i. c.loop-place.invariant i ++ w.in-Some.ensures item.0 item.1 i) ∙ sym more)
      | in_default w ↦ rw add-one (w.commits-is ∙ c.loop-place.invariant
          ∙ sym (more ∙ ap (λ (l : List ℕ). listed set (take k events) ++ l) (sym (w.in_default.ensures item.0 item.1)) ∙ append-nil (listed set (take k events))))
    ]
