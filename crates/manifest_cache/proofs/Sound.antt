-- What a sound history has.
use Rattle.std.proofs.Common.{◌∙◌, ℕ, List}
use Rattle.std.specs.Prelude.{IsSome}
use Rattle.plain_model.specs.declared.id.AnyId.TheVariants as any
use Rattle.plain_model.specs.declared.event.PlainEvent.{PlainEvent}
use Rattle.plain_model.specs.Histories.{tree}
use Rattle.plain_model.specs.Lookups.{find_event}
use Rattle.plain_model.specs.Soundness.{IsSound}
use Rattle.history_laws.specs.Once.{AreDistinct}
use Rattle.history_laws.proofs.SoundOnce.{has_id_find, sound_once}

-- a commit that is there has a tree
pub live_tree : (events : List PlainEvent) (c : ℕ) → IsSound events → IsSome (find_event (any.Commit c) events) → IsSome (tree events c)
live_tree events c sound live = sound.trees c (has_id_find events (any.Commit c) ∙ live)

-- no event is twice
pub distinct : (events : List PlainEvent) → IsSound events → AreDistinct events
distinct events sound = (sound_once events sound).ids
