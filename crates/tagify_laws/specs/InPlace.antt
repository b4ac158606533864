-- A `tagify` event by event: each commit that becomes a tag has it in its place, and what was on it is on the commit
-- before it. (own)
use Rattle.std.specs.Prelude.{ℕ, ◌+◌, List, [], ◌∷◌, map, Some, if◌then◌else◌}
use Rattle.plain_model.specs.declared.id.AnyId.{AnyId}
use Rattle.plain_model.specs.declared.event.PlainEvent.{PlainEvent}
use Rattle.plain_model.specs.declared.event.PlainEvent.TheVariants.{Commit, Tag, Reset}
use Rattle.edit_laws.specs.Removal.{once_each}
use Rattle.tagify_laws.specs.Tagify.{base_of, becomes_tag, new_tag}

module _ (selected : List AnyId) (events : List PlainEvent) where
  -- an event that becomes no tag: each of its parents, or its target, gives way
  abbrev pub moved : PlainEvent → PlainEvent
  moved (Commit id mark branch author committer encoding comment parents ops aliases) =
      Commit id mark branch author committer encoding comment (once_each (map (base_of selected events) parents)) ops aliases
  moved (Tag id name target tagger comment mark) = Tag id name (base_of selected events target) tagger comment mark
  moved (Reset id branch (Some target)) = Reset id branch (Some (base_of selected events target))
  moved other = other

  -- all events, in the order of the list
  abbrev pub in_place : ℕ → List PlainEvent → List PlainEvent
  in_place next [] = []
  in_place next (e ∷ es) =
      if becomes_tag selected e then new_tag selected events next e ∷ in_place (next + 1) es
      else moved e ∷ in_place next es
