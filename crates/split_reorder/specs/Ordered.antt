-- The order in which a reorder puts the events, by their ids.
use Rattle.std.specs.Prelude.{ℕ, List, [], ◌∷◌, if◌then◌else◌}
use Rattle.plain_model.specs.declared.id.AnyId.{AnyId}
use Rattle.plain_model.specs.declared.id.AnyId.TheVariants as any
use Rattle.plain_model.specs.declared.event.PlainEvent.{PlainEvent}
use Rattle.plain_model.specs.Lookups.{id_of}
use Rattle.reorder_laws.specs.Reorder.{is_placed}

-- where a commit of the set stood, the next of these commits stands
abbrev pub ordered : List AnyId → List ℕ → List PlainEvent → List AnyId
ordered set ws [] = []
ordered set [] (e ∷ events) = if is_placed set e then ordered set [] events else id_of e ∷ ordered set [] events
ordered set (w ∷ ws) (e ∷ events) =
    if is_placed set e then any.Commit w ∷ ordered set ws events else id_of e ∷ ordered set (w ∷ ws) events
