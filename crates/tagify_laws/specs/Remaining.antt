-- What a `tagify` leaves as it was, and why it is refused.
use Rattle.std.specs.Prelude.{◌≡◌, ◌≤◌, ℕ, Bool, true, false, List, [], ◌∷◌, ◌++◌, Some, filter, length, IsFalse, IsTrue}
use Rattle.std.specs.List.{AllByRecursion}
use Rattle.plain_model.specs.declared.id.AnyId.{AnyId}
use Rattle.plain_model.specs.declared.id.AnyId.TheVariants as any
use Rattle.plain_model.specs.declared.fault.Fault.{Fault}
use Rattle.plain_model.specs.declared.fault.Fault.TheVariants as fault
use Rattle.plain_model.specs.declared.event.PlainEvent.{PlainEvent}
use Rattle.plain_model.specs.declared.event.PlainEvent.TheVariants.{Commit, Tag, Reset}
use Rattle.tagify_laws.specs.Tagify.{becomes_tag, has_tag_named, name_for}

abbrev pub is_tag : PlainEvent → Bool
is_tag (Tag id name target tagger comment mark) = true
is_tag other = false

-- so many tags
abbrev pub tag_count : List PlainEvent → ℕ
tag_count events = length (filter is_tag events)

-- the id of a tag, with a number from the next one on
abbrev pub IsNewTag : ℕ → AnyId → Type 0
IsNewTag next id = (n : ℕ) × (id ≡ any.Tag n) × (next ≤ n)

-- an event without its parents or its target
abbrev pub apart_from_commits : PlainEvent → PlainEvent
apart_from_commits (Commit id mark branch author committer encoding comment parents ops aliases) =
    Commit id mark branch author committer encoding comment [] ops aliases
apart_from_commits (Tag id name target tagger comment mark) = Tag id name 0 tagger comment mark
apart_from_commits (Reset id branch (Some target)) = Reset id branch (Some 0)
apart_from_commits other = other

-- a commit would become a tag of a name that a tag has already, and none before it would; the fault has that name
pub record IsFirstTaken (selected : List AnyId) (events : List PlainEvent) (why : Fault) : Type 0 where
  pub before : List PlainEvent
  pub first : PlainEvent
  pub after : List PlainEvent
  pub split : events ≡ before ++ first ∷ after
  pub wants : IsTrue (becomes_tag selected first)
  pub taken : IsTrue (has_tag_named events (name_for first))
  pub none_before : AllByRecursion
      (λ event. IsTrue (becomes_tag selected event) → IsFalse (has_tag_named events (name_for event))) before
  pub is : why ≡ fault.NameTaken (name_for first)
