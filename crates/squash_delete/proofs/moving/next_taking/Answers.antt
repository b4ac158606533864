use Rattle.std.proofs.Common.{◌≡◌, ◌∙◌, refl, subst, sym}
use Rattle.squash_laws.specs.Takings.{takes}
use Rattle.plain_model.specs.declared.policy.Push.TheVariants as push
use Rattle.plan_steps.specs.Passes.{taken_to}
use Rattle.squash_delete.specs.Sources.{NoneTakes, push_of}
use Rattle.squash_delete.specs.declared.moving.Sources.{Sources}
use Rattle.squash_delete.proofs.MovingLemmas.{apart_taken}
use Rattle.plan_steps.proofs.NearLemmas.{is_apart}
use Rattle.plan_steps.proofs.NearPlaces.{over_apart}
use Rattle.squash_delete.proofs.moving.next_taking.Goals as goal

pub returns-in-Before-clause-apart : goal.returns-in-Before-clause-apart
returns-in-Before-clause-apart c =
    let events = c.args.removal.now.events in
    let set = c.args.removal.now.set in
    let from = c.args.place in
    let to = c.next_near.result in
    subst (λ (s : Sources). NoneTakes set events (push_of s) from to) (sym c.in-Before.is)
    (λ par tags.
    let taking = takes set events (record { push = push.Forward; tags = tags }) in
    over_apart (λ k. taken_to set par taking from events ≡ taken_to set par taking k events) set events from to
    c.next_near.ensures.later c.next_near.ensures.within c.next_near.ensures.apart
    (λ k e at far so. so ∙ apart_taken set events c.count-count.ensures.sound par tags k e at (is_apart set e far).parents) refl)
