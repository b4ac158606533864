use Rattle.std.proofs.Common.{◌≡◌, ◌∙◌, Some, None, ap, sym}
use Rattle.std.proofs.lemmas.Option.{same_Some}
use Rattle.plain_model.specs.declared.policy.Push.TheVariants as push
use Rattle.plan_steps.specs.Targets.{lost_target, target_for}
use Rattle.squash_laws.specs.Takings.{target_after}
use Rattle.plan_steps.proofs.NearLemmas.{goes_on, stays_on}
use Rattle.squash_delete.proofs.fates.target_in.Goals as goal

pub returns-in-Some : goal.returns-in-Some
returns-in-Some c tags event moves at =
    let set = c.args.removal.now.set in
    let lost : lost_target set event ≡ Some _ = sym (c.lost_at.ensures event at) ∙ c.in-Some.is in
    c.target_at.ensures ∙ moves.target c.args.place _ event at lost
    ∙ sym (goes_on set (target_after set c.args.removal.now.events push.Forward tags) event _ lost)

pub returns-in-None : goal.returns-in-None
returns-in-None c tags event moves at =
    let set = c.args.removal.now.set in
    let none : lost_target set event ≡ None = sym (c.lost_at.ensures event at) ∙ c.in-None.is in
    c.target_of.ensures ∙ ap (target_for Some) (same_Some c.nth.result.now event (sym c.nth.ensures.event ∙ at))
    ∙ sym (stays_on set (target_after set c.args.removal.now.events push.Forward tags) moves.stays event none)
