-- What an event refers to, slot by slot: parents and operations each have one, and a slot names one event at most.
use Rattle.std.specs.Prelude.{ℕ, ◌≡◌, ◌<◌, Bool, true, false, List, [], ◌∷◌, ◌++◌, Some, None, length, map, flat_map, slice_index_or, take}
use Rattle.std.specs.List.{list_all}
use Rattle.plain_model.specs.declared.id.AnyId.{AnyId}
use Rattle.plain_model.specs.declared.id.AnyId.TheVariants as any
use Rattle.plain_model.specs.declared.event.PlainEvent.{PlainEvent}
use Rattle.plain_model.specs.declared.event.PlainEvent.TheVariants.{Blob, Commit, Tag, Reset, Pass}
use Rattle.plain_model.specs.Lookups.{op_blobs, place_of}
use Rattle.graph_walk.specs.Flags.{is_flagged}

-- ---- slots

-- a slot that names a commit
abbrev pub parent_slot : ℕ → List AnyId
parent_slot c = any.Commit c ∷ []

-- the slots of an event, in order
abbrev pub slots_of : PlainEvent → List (List AnyId)
slots_of (Commit id mark branch author committer encoding comment parents ops aliases) =
    map parent_slot parents ++ map op_blobs ops
slots_of (Tag id name target tagger comment mark) = parent_slot target ∷ []
slots_of (Reset id branch (Some target)) = parent_slot target ∷ []
slots_of (Reset id branch None) = []
slots_of (Blob id mark bytes) = []
slots_of (Pass id line) = []

-- what slots name
abbrev pub named_by : List (List AnyId) → List AnyId
named_by slots = flat_map (λ (slot : List AnyId). slot) slots

-- ---- flags of what slots name

-- these all have a flag
abbrev pub are_flagged : List Bool → List PlainEvent → List AnyId → Bool
are_flagged flags events ids = list_all (is_flagged flags events) ids

-- what an event's first slots name is flagged
abbrev pub is_flagged_until : List Bool → List PlainEvent → PlainEvent → ℕ → Bool
is_flagged_until flags events e slot = are_flagged flags events (named_by (take slot (slots_of e)))

-- so far, and the next slot names an event at a place without a flag
pub record IsOpenAt (flags : List Bool) (events : List PlainEvent) (e : PlainEvent) (slot place : ℕ) : Type 0 where
  pub before : is_flagged_until flags events e slot ≡ true
  pub id : AnyId
  pub named : slice_index_or (slots_of e) slot [] ≡ id ∷ []
  pub there : place_of id events ≡ Some place
  pub within : place < length events
  pub bare : slice_index_or flags place false ≡ false
