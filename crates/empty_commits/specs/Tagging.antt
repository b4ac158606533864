-- The new tags of a `tagify`, apart from the events that stay. (own)
use Rattle.std.specs.Prelude.{ℕ, ◌+◌, List, [], ◌∷◌, ◌++◌, if◌then◌else◌}
use Rattle.plain_model.specs.declared.id.AnyId.{AnyId}
use Rattle.plain_model.specs.declared.event.PlainEvent.{PlainEvent}
use Rattle.event_arena.specs.Graphs.{Change}
use Rattle.tagify_laws.specs.Tagify.{becomes_tag, new_tag}

module _ (selected : List AnyId) (events : List PlainEvent) where
  -- the tags alone, in the order of the list, with the numbers from the next one on
  abbrev pub new_tags : ℕ → List PlainEvent → List PlainEvent
  new_tags next [] = []
  new_tags next (e ∷ es) =
      if becomes_tag selected e then new_tag selected events next e ∷ new_tags (next + 1) es else new_tags next es

  -- a plan with the tag that an event becomes at its end, if it becomes one
  abbrev pub with_tag_of : PlainEvent → Change → Change
  with_tag_of e plan =
      if becomes_tag selected e
      then record plan { after = plan.after ++ new_tag selected events plan.next e ∷ []; next = plan.next + 1 }
      else plan
