-- How the links of a commit to its children are made anew, where few events were touched. (own)
use Rattle.std.specs.Prelude.{◌≡◌, ◌==◌, ◌++◌, ◌||◌, ℕ, Bool, true, List, [], Some, flat_map, map, option_to_list, slice_get, slice_index_or, if◌then◌else◌}
use Rattle.std.specs.List.{Contains, list_any}
use Rattle.plain_model.specs.declared.id.AnyId.{AnyId}
use Rattle.plain_model.specs.declared.id.AnyId.TheVariants as any
use Rattle.plain_model.specs.declared.event.PlainEvent.{PlainEvent}
use Rattle.plain_model.specs.Lookups.{children_of, event_parents, find_event, id_of, is_listed, place_of}

-- the event is a commit that has c among its parents
abbrev pub is_child : ℕ → PlainEvent → Bool
is_child c e = list_any (λ p. p == c) (event_parents e)

-- each child of c is one of the touched events or one of these commits
abbrev pub AreKnown : ℕ → List AnyId → List ℕ → List PlainEvent → Type 0
AreKnown c touched children events = (k : ℕ) (e : PlainEvent) → slice_get events k ≡ Some e → is_child c e ≡ true →
    is_listed (id_of e) touched || is_listed (id_of e) (map any.Commit children) ≡ true

-- where the events with these ids are, as far as they are there, is among these places
abbrev pub HasPlaces : List AnyId → List PlainEvent → List ℕ → Type 0
HasPlaces ids events places = (id : AnyId) (k : ℕ) → is_listed id ids ≡ true → place_of id events ≡ Some k → Contains places k

-- what is among the first is among the others
abbrev pub IsPart : List ℕ → List ℕ → Type 0
IsPart few many = (k : ℕ) → Contains few k → Contains many k

-- each child of c has its place among these
abbrev pub HasChildPlaces : ℕ → List PlainEvent → List ℕ → Type 0
HasChildPlaces c events places = (k : ℕ) (e : PlainEvent) → slice_get events k ≡ Some e → is_child c e ≡ true → Contains places k

-- one place has more children, before the others, and no other place has others
abbrev pub IsPutBefore : ℕ → List ℕ → List (List ℕ) → List (List ℕ) → Type 0
IsPutBefore place more old new = (k : ℕ) → slice_index_or new k [] ≡ (if k == place then more ++ slice_index_or old k [] else slice_index_or old k [])

-- one place has these children, and no other place has others
abbrev pub IsPut : ℕ → List ℕ → List (List ℕ) → List (List ℕ) → Type 0
IsPut place children old new = (k : ℕ) → slice_index_or new k [] ≡ (if k == place then children else slice_index_or old k [])

-- each of these commits has its children among the events, and the others have what they had
abbrev pub AreRelinked : List ℕ → List PlainEvent → List (List ℕ) → List (List ℕ) → Type 0
AreRelinked commits events old new = (c k : ℕ) → place_of (any.Commit c) events ≡ Some k →
    slice_index_or new k [] ≡ (if list_any (λ p. p == c) commits then children_of c events else slice_index_or old k [])

-- of each commit what it has and the touched events are all that can be its children
abbrev pub AreAllKnown : List AnyId → List PlainEvent → List (List ℕ) → Type 0
AreAllKnown touched events lists = (c k : ℕ) → place_of (any.Commit c) events ≡ Some k → AreKnown c touched (slice_index_or lists k []) events

-- the parents of the event with the id, if it is there
abbrev pub parents_at : AnyId → List PlainEvent → List ℕ
parents_at id events = flat_map event_parents (option_to_list (find_event id events))

-- the parents that the events with these ids had before, and those that they have after
abbrev pub parents_of : List PlainEvent → List PlainEvent → List AnyId → List ℕ
parents_of before after ids = flat_map (λ id. parents_at id before ++ parents_at id after) ids
