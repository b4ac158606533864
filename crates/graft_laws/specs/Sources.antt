-- Of which event of which history an event of a joined one is.
use Rattle.std.specs.Prelude.{◌⊎◌, ◌≡◌, ℕ, ◌+◌, List, [], ◌∷◌, length, option_map, slice_get, unwrap_or, IsTrue}
use Rattle.plain_model.specs.declared.id.AnyId.{AnyId}
use Rattle.plain_model.specs.declared.id.AnyId.TheVariants as any
use Rattle.plain_model.specs.declared.event.PlainEvent.{PlainEvent}
use Rattle.plain_model.specs.Lookups.{id_number, id_of}
use Rattle.plain_model.specs.Soundness.{has_id}
use Rattle.graft_laws.specs.Joined.{HasTreesOf}
use Rattle.graft_laws.specs.Joining.{new_number, without_passes}
use Rattle.graft_laws.specs.Unite.{Part}

-- ---- one part

-- an id of the same kind with another number
abbrev pub numbered : AnyId → ℕ → AnyId
numbered (any.Blob b) n = any.Blob n
numbered (any.Commit c) n = any.Commit n
numbered (any.Tag t) n = any.Tag n
numbered (any.Reset r) n = any.Reset n
numbered (any.Pass p) n = any.Pass n

-- the event was one of a part, of the same kind, and has its new number, from a first one on
abbrev pub IsFrom : List PlainEvent → ℕ → AnyId → Type 0
IsFrom part first id =
    (was : AnyId) × IsTrue (has_id (without_passes part) was) × (id ≡ numbered was (new_number first (without_passes part) was))

-- the number of the event at a place, where lines that are passed through aren't counted
abbrev pub number_at : List PlainEvent → ℕ → ℕ
number_at part place = unwrap_or (option_map (λ e. id_number (id_of e)) (slice_get (without_passes part) place)) 0

-- the number that comes after those of a part
abbrev pub number_after : ℕ → List PlainEvent → ℕ
number_after first part = first + length (without_passes part)

-- ---- parts one behind another, the numbers of each coming after those of the one before it

-- the event was one of these
abbrev pub IsFromOne : List Part → ℕ → AnyId → Type 0
IsFromOne [] first id = ⊥
IsFromOne (part ∷ parts) first id = IsFrom part.events first id ⊎ IsFromOne parts (number_after first part.events) id

-- each commit of each of them is there under its new number, with its tree
abbrev pub HasTreesOfAll : List Part → ℕ → List PlainEvent → Type 0
HasTreesOfAll [] first new = Unit {0}
HasTreesOfAll (part ∷ parts) first new = HasTreesOf part.events first new × HasTreesOfAll parts (number_after first part.events) new
