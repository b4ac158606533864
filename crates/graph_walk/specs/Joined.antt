-- Expansions of several commits, joined, and kept place by place.
use Rattle.std.specs.Prelude.{ℕ, ◌≡◌, ◌<◌, Bool, true, false, not, ◌||◌, ◌&&◌, List, [], ◌∷◌, ◌++◌, length, map, nat_le, Option, Some, None, option_and_then, slice_get, slice_index_or, if◌then◌else◌}
use Rattle.std.specs.List.{list_any}
use Rattle.plain_model.specs.declared.limit.TheConstants.{MAX_PARENTS}
use Rattle.plain_model.specs.declared.id.AnyId.{AnyId}
use Rattle.plain_model.specs.declared.id.AnyId.TheVariants as any
use Rattle.plain_model.specs.declared.fault.Fault.TheVariants.{Limit}
use Rattle.plain_model.specs.declared.fault.Halt.{Halt}
use Rattle.plain_model.specs.declared.fault.Halt.TheVariants.{Refused, Memory}
use Rattle.plain_model.specs.declared.fault.Which.TheVariants.{Parents}
use Rattle.plain_model.specs.declared.event.PlainEvent.{PlainEvent}
use Rattle.plain_model.specs.declared.event.PlainEvent.TheVariants.{Blob, Commit, Tag, Reset, Pass}
use Rattle.plain_model.specs.Histories.{past}
use Rattle.plain_model.specs.Lookups.{place_of}
use Rattle.ancestry_laws.specs.Ancestry.{is_one_of}
use Rattle.graph_walk.specs.Flags.{is_flagged_commit}
use Rattle.edit_laws.specs.Removal.{expand}
use Rattle.graph_walk.specs.Expansions.{is_removed}

-- ---- lists in which no commit is twice

-- one more, unless it is there
abbrev pub with_one : List ℕ → ℕ → List ℕ
with_one xs x = if is_one_of xs x then xs else xs ++ x ∷ []

-- one after another
abbrev pub with_all : List ℕ → List ℕ → List ℕ
with_all xs [] = xs
with_all xs (y ∷ ys) = with_all (with_one xs y) ys

-- ---- expansions, of which those that are too long for the parents of a commit may be left out

-- so many commits may be kept
abbrev pub fits : Bool → ℕ → Bool
fits bounded n = not bounded || nat_le n MAX_PARENTS

-- an expansion, unless it is too long
abbrev pub kept : Bool → List ℕ → Option (List ℕ)
kept bounded xs = if fits bounded (length xs) then Some xs else None

-- the expansion of commits with these expansions, after what is there
abbrev pub joined_from : Bool → List ℕ → List (Option (List ℕ)) → Option (List ℕ)
joined_from bounded list [] = Some list
joined_from bounded list (None ∷ parts) = None
joined_from bounded list (Some xs ∷ parts) =
    if fits bounded (length (with_all list xs)) then joined_from bounded (with_all list xs) parts else None

-- that of one alone is its own
abbrev pub joined : Bool → List (Option (List ℕ)) → Option (List ℕ)
joined bounded [] = Some []
joined bounded (part ∷ []) = part
joined bounded (part ∷ other ∷ parts) = joined_from bounded [] (part ∷ other ∷ parts)

-- ---- place by place

-- the history, whether the long ones are left out, and the expansion of the commit at each place
pub record Expanded : Type 0 where
  pub events : List PlainEvent
  pub bounded : Bool
  pub entries : List (Option (List ℕ))

-- a commit alone, and nothing for another event
abbrev pub itself : PlainEvent → Option (List ℕ)
itself (Commit id mark branch author committer encoding comment parents ops aliases) = Some (id ∷ [])
itself (Blob id mark bytes) = None
itself (Tag id name target tagger comment mark) = None
itself (Reset id branch target) = None
itself (Pass id line) = None

-- the commit at a place
abbrev pub itself_at : List PlainEvent → ℕ → Option (List ℕ)
itself_at events place = option_and_then itself (slice_get events place)

-- the entry at a place, if there is one
abbrev pub entry_at : List (Option (List ℕ)) → Option ℕ → Option (List ℕ)
entry_at entries None = None
entry_at entries (Some place) = slice_index_or entries place None

-- the entry of a commit
abbrev pub entry_of : List (Option (List ℕ)) → List PlainEvent → ℕ → Option (List ℕ)
entry_of entries events c = entry_at entries (place_of (any.Commit c) events)

-- the commit is at one of the first places
abbrev pub IsBeforePlace : List PlainEvent → ℕ → ℕ → Type 0
IsBeforePlace events k c = (place : ℕ) × (place < k) × (place_of (any.Commit c) events ≡ Some place)

-- a fact of the event's id, if it is a commit
abbrev pub OfCommit : (ℕ → Type 0) → PlainEvent → Type 0
OfCommit P (Commit id mark branch author committer encoding comment parents ops aliases) = P id
OfCommit P (Blob id mark bytes) = Unit {0}
OfCommit P (Tag id name target tagger comment mark) = Unit {0}
OfCommit P (Reset id branch target) = Unit {0}
OfCommit P (Pass id line) = Unit {0}

-- each commit's entry is its expansion
pub record AreExpansions (events : List PlainEvent) (removed : List AnyId) (s : Expanded) : Type 0 where
  pub count : length s.entries ≡ length events
  pub entry : (k : ℕ) (e : PlainEvent) → slice_get events k ≡ Some e →
      OfCommit (λ c. slice_index_or s.entries k None ≡ kept s.bounded (expand (is_removed removed) (past events) c)) e

-- ---- one step

-- what is added to a list where this is the entry, and whether anything could be
abbrev pub AddsEntry : Option (List ℕ) → List ℕ → List ℕ → Bool → Type 0
AddsEntry None old new added = added ≡ false
AddsEntry (Some xs) old new added = (added ≡ true) × (new ≡ with_all old xs)

-- the entry that comes next
abbrev pub next_entry : Bool → List PlainEvent → List (Option (List ℕ)) → Bool → PlainEvent → Option (List ℕ)
next_entry bounded events entries removed (Commit id mark branch author committer encoding comment parents ops aliases) =
    if removed then joined bounded (map (entry_of entries events) parents) else Some (id ∷ [])
next_entry bounded events entries removed (Blob id mark bytes) = None
next_entry bounded events entries removed (Tag id name target tagger comment mark) = None
next_entry bounded events entries removed (Reset id branch target) = None
next_entry bounded events entries removed (Pass id line) = None

-- ---- one change, by flags and entries

-- what the event at a place gets, if it stays and has a parent with a flag
abbrev pub flagged_change : List PlainEvent → List Bool → Expanded → ℕ → PlainEvent → Option (ℕ × Option (List ℕ))
flagged_change events flags s place (Commit id mark branch author committer encoding comment parents ops aliases) =
    if not (slice_index_or flags place false) && list_any (is_flagged_commit flags events) parents then Some (id, joined_from s.bounded [] (map (entry_of s.entries events) parents)) else None
flagged_change events flags s place (Blob id mark bytes) = None
flagged_change events flags s place (Tag id name target tagger comment mark) = None
flagged_change events flags s place (Reset id branch target) = None
flagged_change events flags s place (Pass id line) = None

-- a change that there is comes to the end of the list
abbrev pub PushesIf : Option (ℕ × Option (List ℕ)) → List (ℕ × List ℕ) → List (ℕ × List ℕ) → Type 0
PushesIf None old new = new ≡ old
PushesIf (Some change) old new = (list : List ℕ) × (change.1 ≡ Some list) × (new ≡ old ++ (change.0, list) ∷ [])

-- the same, for the change of the event at a place
abbrev pub PushesChange : List PlainEvent → List Bool → Expanded → ℕ → PlainEvent → List (ℕ × List ℕ) →
    List (ℕ × List ℕ) → Type 0
PushesChange events flags s place e old new = PushesIf (flagged_change events flags s place e) old new

-- the commit at a place gets too many parents
abbrev pub IsTooMany : List PlainEvent → List Bool → Expanded → ℕ → PlainEvent → Halt → Type 0
IsTooMany events flags s place e Memory = Unit {0}
IsTooMany events flags s place e (Refused fault) =
    (fault ≡ Limit Parents MAX_PARENTS) × ((id : ℕ) × (flagged_change events flags s place e ≡ Some (id, None)))
