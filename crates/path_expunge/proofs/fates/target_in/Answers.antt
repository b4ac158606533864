use Rattle.std.proofs.Common.{◌≡◌, ◌∙◌, Some, None, ap, sym}
use Rattle.std.proofs.lemmas.Option.{same_Some}
use Rattle.plan_steps.specs.Targets.{lost_target, moving, target_for}
use Rattle.plain_model.specs.declared.policy.Lean.TheVariants as lean
use Rattle.plan_steps.proofs.NearLemmas.{goes_on, stays_on}
use Rattle.path_expunge.proofs.fates.target_in.Goals as goal

pub returns-in-Some : goal.returns-in-Some
returns-in-Some c event at =
    let set = c.args.removal.now.set in
    let lost : lost_target set event ≡ Some _ = sym (c.lost_at.ensures event at) ∙ c.in-Some.is in
    c.target_at.ensures ∙ c.requires.targets.target c.args.place _ event at lost
    ∙ sym (goes_on set (moving set c.args.removal.now.events lean.Forward) event _ lost)

pub returns-in-None : goal.returns-in-None
returns-in-None c event at =
    let set = c.args.removal.now.set in
    let none : lost_target set event ≡ None = sym (c.lost_at.ensures event at) ∙ c.in-None.is in
    c.target_of.ensures ∙ ap (target_for Some) (same_Some c.nth.result.now event (sym c.nth.ensures.event ∙ at))
    ∙ sym (stays_on set (moving set c.args.removal.now.events lean.Forward) c.requires.targets.stays event none)
