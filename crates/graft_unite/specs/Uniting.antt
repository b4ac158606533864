-- How the further parts of a `unite` are joined, and what is known of those that are joined. (own)
use Rattle.std.specs.Prelude.{◌≡◌, ◌+◌, ◌||◌, ◌++◌, [], ◌∷◌, ℕ, Some, None, Result, Ok, Err, Bool, List, bytes_eq, length, option_map, option_to_list}
use Rattle.std.specs.List.{list_any}
use Rattle.plain_model.specs.declared.fault.Fault.{Fault}
use Rattle.plain_model.specs.declared.event.PlainEvent.{PlainEvent}
use Rattle.plain_model.specs.Lookups.{marks_of, next_number}
use Rattle.plain_model.specs.Paths.{Bytes}
use Rattle.renumbering.specs.Renumbered.{renumbered, renumbered_from}
use Rattle.graft_laws.specs.Joining.{Joining, added}
use Rattle.graft_laws.specs.Unite.{Part, part_fault, uniting}
use Rattle.graft_unite.specs.Dates.{AreDatesOf, latest_in}
use Rattle.graft_unite.specs.Used.{AreNamesOf}

-- whether roots that get a parent begin without files, the name below which names go, those that are in use and those of the part, and
-- the commits by their seconds
pub record Uniting : Type 0 where
  pub prune : Bool
  pub prefix : Bytes
  pub used : List Bytes
  pub own : List Bytes
  pub dates : List (ℕ × ℕ)

abbrev pub joining : Uniting → Joining
joining how = record {
  prefix = how.prefix;
  is_taken = λ name. list_any (bytes_eq name) how.used;
  parents = λ seconds. option_to_list (option_map (λ e. e.1) (latest_in how.dates seconds));
  prune = how.prune;
}

-- a new name that is in use, there or in the part
abbrev pub clashing : Uniting → Bytes → Bool
clashing how name = list_any (bytes_eq name) how.used || list_any (bytes_eq name) how.own

-- what is known of a list: the number and the mark that come next, its names, and its commits by their seconds
pub record IsKnown (events : List PlainEvent) (next mark : ℕ) (used : List Bytes) (dates : List (ℕ × ℕ)) : Type 0 where
  pub next_is : next ≡ next_number events
  pub mark_is : mark ≡ 1 + length (marks_of events)
  pub names : AreNamesOf events used
  pub commits : AreDatesOf events dates

-- what is put behind a list of one part more, whose marks go on from those of the list
abbrev pub marked_part : Bool → List PlainEvent → Part → List PlainEvent
marked_part prune events part = renumbered_from (1 + length (marks_of events)) (added (uniting prune events part.name) (next_number events) part.events)

-- the parts one after another, whose marks go on
abbrev pub marked_parts : Bool → List PlainEvent → List Part → Result (List PlainEvent) Fault
marked_parts prune events [] = Ok events
marked_parts prune events (part ∷ parts) = elim (part_fault prune events part) [
  | Some why ↦ Err why
  | None ↦ marked_parts prune (events ++ marked_part prune events part) parts
]

-- a history, if it is made, with all marks given anew
abbrev pub marked : Result (List PlainEvent) Fault → Result (List PlainEvent) Fault
marked (Ok events) = Ok (renumbered events)
marked (Err why) = Err why
