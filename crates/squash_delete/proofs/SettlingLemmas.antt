-- What is left is in its settled order already, where that holds of the events near the set.
use Rattle.std.proofs.Common.{◌≡◌, List, [], None, Some, refl, ap, cond}
use Rattle.plain_model.specs.declared.id.AnyId.{AnyId}
use Rattle.plain_model.specs.declared.event.PlainEvent.{PlainEvent}
use Rattle.plain_model.specs.Soundness.{IsSound}
use Rattle.edit_laws.specs.Parts.{AreComplete, AreInOrder}
use Rattle.squash_laws.specs.Removed.{without_set}
use Rattle.squash_laws.specs.Takings.{moved, takes}
use Rattle.plain_model.specs.declared.policy.Lean.{Lean}
use Rattle.plain_model.specs.declared.policy.Push.{Push}
use Rattle.plain_model.specs.declared.policy.Push.TheVariants as push
use Rattle.plan_steps.specs.Near.{AreReadyNear}
use Rattle.plan_steps.proofs.LeavingLemmas.{nothing_pushed}
use Rattle.plan_steps.proofs.NearOrder.{near_settled}

-- where operations aren't pushed back
pub squash_settled : (set : List AnyId) (events : List PlainEvent) → IsSound events → (to : Push) (tags : Lean) → (to ≡ push.Back → ⊥) →
    AreComplete (without_set set events (takes set events (record { push = to; tags = tags }))) →
    AreReadyNear set events (without_set set events (takes set events (record { push = to; tags = tags }))) →
    AreInOrder [] (without_set set events (takes set events (record { push = to; tags = tags })))
squash_settled set events h push.Forward tags no_back complete looked =
    near_settled events set events h (takes set events (record { push = push.Forward; tags = tags })) (λ c kept. ap (λ b. cond b (moved set events tags c) (Some c)) kept)
    (nothing_pushed set events) complete looked
squash_settled set events h push.Discard tags no_back complete looked =
    near_settled events set events h (takes set events (record { push = push.Discard; tags = tags })) (λ c kept. ap (λ b. cond b None (Some c)) kept)
    (λ id parents ops none. refl) complete looked
squash_settled set events h push.Back tags no_back complete looked = absurd (no_back refl)
