-- The places of the first tags of names. (own)
use Rattle.std.specs.Prelude.{◌≡◌, ℕ, ◌<◌, List, [], ◌∷◌, ◌++◌, length, map, Option, Some, None, bytes_eq, slice_get, MatchOption, Vec}
use Rattle.std.specs.Map.{lookup}
use Rattle.plain_model.specs.declared.event.PlainEvent.{PlainEvent}
use Rattle.plain_model.specs.declared.event.PlainEvent.TheVariants.{Blob, Commit, Tag, Reset, Pass}
use Rattle.plain_model.specs.Paths.{Bytes}
use Rattle.mailbox_laws.specs.Landing.{tag_meant}

-- the name of a tag
abbrev pub tag_named : PlainEvent → Option Bytes
tag_named (Tag id name target tagger comment mark) = Some name
tag_named (Blob id mark bytes) = None
tag_named (Commit id mark branch author committer encoding comment parents ops aliases) = None
tag_named (Reset id branch target) = None
tag_named (Pass id line) = None

-- names with places
abbrev pub Places : Type 0
Places = List (Bytes × ℕ)

abbrev pub place_in : Bytes → Places → Option ℕ
place_in name places = lookup (bytes_eq name) places

-- the entries of a map, as names with places
abbrev pub places_in : {A : Type 0} → List (Vec ℕ A × ℕ) → Places
places_in entries = map (λ e. (e.0.items, e.1)) entries

-- with a name and its place at the end, if the name isn't there
abbrev pub with_new : Option ℕ → Bytes → ℕ → Places → Places
with_new None name place places = places ++ (name, place) ∷ []
with_new (Some old) name place places = places

abbrev pub with_name : Option Bytes → ℕ → Places → Places
with_name None place places = places
with_name (Some name) place places = with_new (place_in name places) name place places

-- with the place of an event, if it is a tag whose name isn't there
abbrev pub with_first : PlainEvent → ℕ → Places → Places
with_first event place places = with_name (tag_named event) place places

-- Each name of a tag has the place of the first tag that has it, among some of the events of a history.
abbrev pub AreFirstIn : List PlainEvent → List PlainEvent → Places → Type 0
AreFirstIn events some places =
    (name : Bytes) → MatchOption (place_in name places) (tag_meant some name ≡ None)
    (λ k. (k < length events) × (slice_get events k ≡ tag_meant some name))

-- among all
abbrev pub AreFirst : List PlainEvent → Places → Type 0
AreFirst events places = AreFirstIn events events places
