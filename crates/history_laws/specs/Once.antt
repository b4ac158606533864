-- Ids, marks and parents that occur once, as in every sound history. (own)
use Rattle.std.specs.Prelude.{◌≡◌, ◌==◌, ℕ, List, [], ◌∷◌, None, map, IsTrue}
use Rattle.std.specs.List.{AllByRecursion}
use Rattle.std.specs.Map.{lookup}
use Rattle.plain_model.specs.declared.id.AnyId.{AnyId}
use Rattle.plain_model.specs.declared.id.AnyId.TheVariants as any
use Rattle.plain_model.specs.declared.event.PlainEvent.{PlainEvent}
use Rattle.plain_model.specs.Lookups.{children_of, event_parents, find_event, id_of, marks_of}
use Rattle.plain_model.specs.Soundness.{are_distinct}

-- no two events have one id
abbrev pub AreDistinct : List PlainEvent → Type 0
AreDistinct [] = Unit {0}
AreDistinct (e ∷ events) = (find_event (id_of e) events ≡ None) × AreDistinct events

-- marks, each with the id of the event that has them
abbrev pub named : AnyId → List ℕ → List (ℕ × AnyId)
named id marks = map (λ mark. (mark, id)) marks

-- no mark occurs twice
abbrev pub AreMarkedOnce : List (ℕ × AnyId) → Type 0
AreMarkedOnce [] = Unit {0}
AreMarkedOnce (m ∷ marks) = (lookup (λ n. m.0 == n) marks ≡ None) × AreMarkedOnce marks

-- no commit has a parent twice
abbrev pub AreParentsOnce : List PlainEvent → Type 0
AreParentsOnce events = AllByRecursion (λ e. IsTrue (are_distinct (event_parents e))) events

-- what the indices of a history take from its soundness
pub record OccursOnce (events : List PlainEvent) : Type 0 where
  pub ids : AreDistinct events
  pub marks : AreMarkedOnce (marks_of events)
  pub parents : AreParentsOnce events
  -- what isn't there has no children
  pub childless : (c : ℕ) → find_event (any.Commit c) events ≡ None → children_of c events ≡ []
