-- How expansions are kept: the place of one commit alone, a list that several share, or none that is too long.
use Rattle.std.specs.Prelude.{ℕ, ◌<◌, List, [], ◌∷◌, length, map, Option, Some, None, slice_index_or}
use Rattle.plain_model.specs.declared.event.PlainEvent.{PlainEvent}
use Rattle.graph_walk.specs.Joined.{Expanded, itself_at}
use Rattle.graph_walk.specs.declared.expansion.Expansion.{Expansion}
use Rattle.graph_walk.specs.declared.expansion.Expansion.TheVariants.{At, Many, TooMany}
use Rattle.graph_walk.specs.declared.expansion.Expansions.TheInside as inside

-- what an entry says
abbrev pub list_of : List PlainEvent → List (List ℕ) → Expansion → Option (List ℕ)
list_of events lists (At place) = itself_at events place
list_of events lists (Many at) = Some (slice_index_or lists at [])
list_of events lists TooMany = None

-- what all entries say
abbrev pub expanded : inside.Inside → Expanded
expanded s = record {
  events = s.events.now.list;
  bounded = s.bounded;
  entries = map (list_of s.events.now.list s.lists.items) s.entries;
}

-- the place or the list that an entry names is there
abbrev pub IsThere : ℕ → ℕ → Expansion → Type 0
IsThere places count (At place) = place < places
IsThere places count (Many at) = at < count
IsThere places count TooMany = Unit {0}

-- those of all entries are
abbrev pub AllThere : ℕ → ℕ → List Expansion → Type 0
AllThere places count [] = Unit {0}
AllThere places count (x ∷ xs) = IsThere places count x × AllThere places count xs

-- the table has each list that an entry names, and the history each place
abbrev pub AreListed : inside.Inside → Type 0
AreListed s = AllThere (length s.events.now.list) (length s.lists.items) s.entries
