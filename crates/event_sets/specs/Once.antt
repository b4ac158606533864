-- Lists of events without repeats, and lists of events that are there.
use Rattle.std.specs.Prelude.{◌≡◌, ◌&&◌, not, Bool, true, List, [], ◌∷◌}
use Rattle.std.specs.List.{AllByRecursion}
use Rattle.plain_model.specs.Lookups.{is_listed}
use Rattle.plain_model.specs.declared.event.PlainEvent.{PlainEvent}
use Rattle.event_sets.specs.Sets.{Ids, is_live}

-- no event stands twice
abbrev pub are_once : Ids → Bool
are_once [] = true
are_once (id ∷ ids) = not (is_listed id ids) && are_once ids

abbrev pub IsOnce : Ids → Type 0
IsOnce ids = are_once ids ≡ true

-- each is an event of the history
abbrev pub AreLive : List PlainEvent → Ids → Type 0
AreLive events ids = AllByRecursion (λ id. is_live events id ≡ true) ids
