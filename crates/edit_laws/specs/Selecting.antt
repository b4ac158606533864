-- The events that an edit is for. (own)
use Rattle.std.specs.Prelude.{Bool, true, not, ◌&&◌, IsTrue, List, [], ◌∷◌}
use Rattle.std.specs.List.{AllByRecursion}
use Rattle.plain_model.specs.declared.id.AnyId.{AnyId}
use Rattle.plain_model.specs.declared.event.PlainEvent.{PlainEvent}
use Rattle.plain_model.specs.Lookups.{is_listed}
use Rattle.plain_model.specs.Soundness.{has_id}

-- no id stands twice
abbrev pub are_apart : List AnyId → Bool
are_apart [] = true
are_apart (id ∷ ids) = not (is_listed id ids) && are_apart ids

-- events that are there, each once
pub record IsSelection (events : List PlainEvent) (set : List AnyId) : Type 0 where
  pub there : AllByRecursion (λ id. IsTrue (has_id events id)) set
  pub apart : IsTrue (are_apart set)
