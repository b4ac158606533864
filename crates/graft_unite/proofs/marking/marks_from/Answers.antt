use Rattle.std.proofs.Common.{◌≡◌, ◌∙◌, ◌+◌, ◌++◌, ◌∷◌, [], sym, add-one, subst}
use Rattle.std.specs.Prelude.{IfSome}
use Rattle.renumbering.proofs.Marks.{from_more}
use Rattle.graft_unite.proofs.marking.marks_from.Goals as goal

pub loop-done-preserved : goal.loop-done-preserved
loop-done-preserved c =
    let is : c.unwrap.result ≡ c.args.first + c.loop-done.done = subst (λ r. IfSome r (λ mark. mark ≡ c.args.first + c.loop-done.done)) c.unwrap.ensures c.new-in-loop-done.ensures.value in
    rw add-one (c.in_ok-push.ensures.ok ∙ (λ i. c.loop-done.invariant i ++ is i ∷ []) ∙ sym (from_more c.args.first c.args.marks.now c.loop-done.done c.loop-done-test.true))
