-- A plan whose events change one after another.
use Rattle.std.specs.Prelude.{ℕ, Bool, not, List, ◌++◌, drop, filter, map, take}
use Rattle.plain_model.specs.declared.id.AnyId.{AnyId}
use Rattle.plain_model.specs.declared.event.PlainEvent.{PlainEvent}
use Rattle.squash_laws.specs.Removed.{Takings}
use Rattle.plan_steps.specs.Leaving.{event_after, goes, with_own_parents, with_takings}

-- of the events that stay the first have become what they become
abbrev pub so_far : (PlainEvent → Bool) → (PlainEvent → PlainEvent) → (PlainEvent → PlainEvent) → ℕ → List PlainEvent → List PlainEvent
so_far keep was is k events = map is (filter keep (take k events)) ++ map was (filter keep (drop k events))

module _ (set : List AnyId) (par : List ℕ → List ℕ) (takes : Takings) where
  -- the first commits have what they take over
  abbrev pub taken_to : ℕ → List PlainEvent → List PlainEvent
  taken_to k events = so_far (λ e. not (goes set takes e)) (with_own_parents par) (with_takings par takes) k events

  -- the first tags and resets are where they go
  abbrev pub moved_to : ℕ → List PlainEvent → List PlainEvent
  moved_to k events = so_far (λ e. not (goes set takes e)) (with_takings par takes) (event_after par takes) k events
