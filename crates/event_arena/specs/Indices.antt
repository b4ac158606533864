-- The indices of a history: its marks in their order; and the children at the places of a list, and how they grow, while
-- commits are linked to their parents. (own)
use Rattle.std.specs.Prelude.{◌≡◌, ◌==◌, ℕ, List, [], ◌∷◌, ◌++◌, Option, Some, None, is_some, slice_index_or, if◌then◌else◌}
use Rattle.std.specs.List.{list_any}
use Rattle.std.specs.List.Sorted.{IsNonDecreasingBy}
use Rattle.std.specs.Map.{lookup}
use Rattle.plain_model.specs.declared.id.AnyId.{AnyId}
use Rattle.plain_model.specs.declared.id.AnyId.TheVariants as any
use Rattle.plain_model.specs.declared.event.PlainEvent.{PlainEvent}
use Rattle.plain_model.specs.Lookups.{children_of, find_event, find_mark, own_child, place_of}
use Rattle.history_laws.specs.Once.{AreMarkedOnce}

-- at the place of each commit of the list are its children among the others
abbrev pub HasChildren : List (List ℕ) → List PlainEvent → List PlainEvent → Type 0
HasChildren lists events others = (c k : ℕ) → place_of (any.Commit c) events ≡ Some k → slice_index_or lists k [] ≡ children_of c others

-- a child is put before the others of each of its parents
abbrev pub IsLinked : ℕ → List ℕ → List PlainEvent → List (List ℕ) → List (List ℕ) → Type 0
IsLinked child parents events old new = (c k : ℕ) → place_of (any.Commit c) events ≡ Some k →
    slice_index_or new k [] ≡ (if list_any (λ p. p == c) parents then child ∷ slice_index_or old k [] else slice_index_or old k [])

-- so is an event, if it is a commit
abbrev pub IsLinkedEvent : PlainEvent → List PlainEvent → List (List ℕ) → List (List ℕ) → Type 0
IsLinkedEvent e events old new = (c k : ℕ) → place_of (any.Commit c) events ≡ Some k → slice_index_or new k [] ≡ own_child c e ++ slice_index_or old k []

-- an id, where its event is still there
abbrev pub if_there : List PlainEvent → Option AnyId → Option AnyId
if_there events None = None
if_there events (Some id) = if is_some (find_event id events) then Some id else None

-- The marks of the events, each with the id of its event, in the order of the marks. Marks of events that are gone may
-- be among them.
pub record IsMarkIndex (marks : List (ℕ × AnyId)) (events : List PlainEvent) : Type 0 where
  pub named : (mark : ℕ) → find_mark mark events ≡ if_there events (lookup (λ m. mark == m) marks)
  pub once : AreMarkedOnce marks
  pub rising : IsNonDecreasingBy (λ m. m.0) marks
