-- Tags and resets that aren't near a set stay where they are.
use Rattle.std.proofs.Common.{◌≡◌, ◌∙◌, ℕ, ◌≤◌, List, Option, ap, length, map}
use Rattle.plain_model.specs.declared.id.AnyId.{AnyId}
use Rattle.plain_model.specs.declared.event.PlainEvent.{PlainEvent}
use Rattle.plain_model.specs.Soundness.{IsSound}
use Rattle.event_arena.specs.Graphs.{Change}
use Rattle.squash_laws.specs.Removed.{Takings}
use Rattle.plan_steps.specs.Leaving.{staying, with_takings}
use Rattle.plan_steps.specs.Near.{NoneNear}
use Rattle.plan_steps.specs.Passes.{moved_to}
use Rattle.plan_steps.specs.Targets.{AreMoves}
use Rattle.plan_steps.proofs.NearLemmas.{is_apart}
use Rattle.plan_steps.proofs.NearPlaces.{over_apart}
use Rattle.squash_delete.proofs.MovingLemmas.{apart_moved}

module _ (set : List AnyId) (events : List PlainEvent) where
  -- the first tags and resets are where they go
  abbrev pub MovedTo : List (Option ℕ) → Change → Change → ℕ → Type 0
  MovedTo targets start now k =
      (par : List ℕ → List ℕ) (takes : Takings) → AreMoves set takes.target events targets →
      start.after ≡ map (with_takings par takes) (staying set takes events) → now ≡ record start { after = moved_to set par takes k events }

  pub moved_over : IsSound events → (targets : List (Option ℕ)) (start now : Change) (a b : ℕ) → a ≤ b → b ≤ length events → NoneNear set events a b →
      MovedTo targets start now a → MovedTo targets start now b
  moved_over sound targets start now a b low within none =
      over_apart (MovedTo targets start now) set events a b low within none (λ k e at far so par takes t was.
      so par takes t was
      ∙ ap (λ (es : List PlainEvent). record start { after = es }) (apart_moved set events sound par takes t.stays k e at (is_apart set e far).target))
