-- What an expunge leaves is in order, where that holds of what is near an emptied commit.
use Rattle.std.proofs.Common.{◌≡◌, ◌∙◌, Bool, List, [], ◌∷◌, Some, refl, ap, cond, map}
use Rattle.plain_model.specs.declared.id.AnyId.{AnyId}
use Rattle.plain_model.specs.declared.event.PlainEvent.{PlainEvent}
use Rattle.plain_model.specs.declared.event.PlainEvent.TheVariants.{Blob, Commit, Tag, Reset, Pass}
use Rattle.plain_model.specs.declared.policy.Lean.TheVariants as lean
use Rattle.plain_model.specs.Paths.{Bytes}
use Rattle.plain_model.specs.Soundness.{IsSound}
use Rattle.edit_laws.specs.Parts.{AreComplete, AreInOrder}
use Rattle.edit_laws.specs.Sweeping.{swept}
use Rattle.squash_laws.specs.Removed.{all_left}
use Rattle.squash_laws.specs.Takings.{moved}
use Rattle.expunge_laws.specs.Expunged.{replaced_event, replaced_events}
use Rattle.expunge_laws.proofs.Changed.{replaced_sound}
use Rattle.plan_steps.specs.Near.{AreLinkedAlike, AreReadyNear, Link, link_of}
use Rattle.plan_steps.proofs.Alike.{ready_alike}
use Rattle.plan_steps.proofs.LeavingLemmas.{nothing_pushed}
use Rattle.plan_steps.proofs.NearOrder.{near_settled}
use Rattle.path_expunge.specs.Fates.{taken}

module _ (matched : Bytes → Bool) (events : List PlainEvent) where
  own_links : (e : PlainEvent) → link_of (replaced_event matched events e) ≡ link_of e
  own_links (Commit id mark branch author committer encoding comment parents ops aliases) = refl
  own_links (Blob id mark bytes) = refl
  own_links (Tag id name target tagger comment mark) = refl
  own_links (Reset id branch target) = refl
  own_links (Pass id line) = refl

  -- operations are replaced, and nothing is linked anew
  pub replaced_alike : AreLinkedAlike events (replaced_events matched events)
  replaced_alike = each events
    where
      each : (es : List PlainEvent) → map link_of (map (replaced_event matched events) es) ≡ map link_of es
      each [] = refl
      each (e ∷ es) =
          ap (λ (l : Link). l ∷ map link_of (map (replaced_event matched events) es)) (own_links e)
          ∙ ap (λ (ls : List Link). link_of e ∷ ls) (each es)

  pub near_in_order : IsSound events → (set : List AnyId) →
      AreComplete (swept events (all_left set (replaced_events matched events) (taken set (replaced_events matched events)))) →
      AreReadyNear set events (swept events (all_left set (replaced_events matched events) (taken set (replaced_events matched events)))) →
      AreInOrder [] (swept events (all_left set (replaced_events matched events) (taken set (replaced_events matched events))))
  near_in_order sound set complete ready =
      let new = replaced_events matched events in
      near_settled events set new (replaced_sound matched events sound) (taken set new)
      (λ c kept. ap (λ b. cond b (moved set new lean.Forward c) (Some c)) kept) (nothing_pushed set new) complete
      (ready_alike events new replaced_alike set (swept events (all_left set new (taken set new))) ready)
