use Rattle.std.proofs.Common.{◌≡◌, ◌∙◌, ◌⊎◌, inl, inr, [], sym, subst, true≢false}
use Rattle.edit_laws.specs.Parts.{AreComplete, AreInOrder}
use Rattle.plain_model.specs.declared.policy.Push.{Push}
use Rattle.plain_model.specs.declared.policy.Push.TheVariants as push
use Rattle.plan_steps.specs.Near.{AreReadyNear}
use Rattle.squash_delete.proofs.SettlingLemmas.{squash_settled}
use Rattle.squash_delete.proofs.settling.settle_left.Goals as goal
use Rattle.squash_delete.proofs.settling.settle_left.Goals.{in-Forward, in-Back}

no_back : (to : Push) → (to ≡ push.Forward) ⊎ (to ≡ push.Discard) → to ≡ push.Back → ⊥
no_back to (inl forward) back = let never : push.Forward ≡ push.Back = sym forward ∙ back in absurd cc
no_back to (inr discard) back = let never : push.Discard ≡ push.Back = sym discard ∙ back in absurd cc

pub returns-then-is_done-clause-settled : goal.returns-then-is_done-clause-settled
returns-then-is_done-clause-settled c =
    c.settling_orders.ensures.stays c.args.plan.now.after (elim c.match-how.branch [
      | in-Forward w ↦
          let events = c.args.removal.now.events in
          let set = c.args.removal.now.set in
          let looked = subst (AreReadyNear set events) c.requires.left (w.are_near_settled-is_done.ensures (sym w.is_done-is ∙ c.if-is_done.true)) in
          subst (AreInOrder []) (sym c.requires.left) (squash_settled set events c.count-count.ensures.sound c.args.how.push c.args.how.tags (no_back c.args.how.push w.in-Forward.is) (subst AreComplete c.requires.left c.requires.complete) looked)
      | in-Back w ↦ absurd (true≢false (sym c.if-is_done.true ∙ w.is_done-is))
    ])
