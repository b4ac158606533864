-- Commits get other parents, one after another.
use Rattle.std.specs.Prelude.{ℕ, List, [], ◌∷◌, map}
use Rattle.plain_model.specs.declared.id.AnyId.TheVariants as any
use Rattle.plain_model.specs.declared.event.PlainEvent.{PlainEvent}
use Rattle.event_arena.specs.Changes.{changed, with_parents}
use Rattle.commit_laws.specs.Selected.{node_of}
use Rattle.reorder_laws.specs.Reorder.{instead}

-- the events after each of these commits got the parents beside it
abbrev pub with_all : List (ℕ × List ℕ) → List PlainEvent → List PlainEvent
with_all [] events = events
with_all (c ∷ cs) events = with_all cs (changed (any.Commit c.0) (with_parents c.1) events)

-- commits with their parents, the new last commit of a line in the place of the old one
abbrev pub moved_parents : List PlainEvent → ℕ → ℕ → List ℕ → List (ℕ × List ℕ)
moved_parents events old new cs = map (λ c. (c, map (instead old new) (node_of events c).parents)) cs
