-- What a selection stands for: a list of events without repeats, or the first fault from left to right (reposurgeon
-- manual, "Selection syntax").
use Rattle.std.specs.Prelude.{Bool, true, false, List, bytes_eq, [], Ok}
use Rattle.plain_model.specs.Paths.{Bytes}
use Rattle.plain_model.specs.declared.event.PlainEvent.{PlainEvent}
use Rattle.byte_patterns.specs.Judging.{Judged, ◌>>>◌, pattern_of, plainly}
use Rattle.byte_patterns.specs.Searching.{found_in}
use Rattle.selection_parser.specs.declared.field.FieldSet.{FieldSet}
use Rattle.selection_parser.specs.Plain.{PlainSelection, PlainSelections}
use Rattle.selection_parser.specs.Plain.PlainSelection.{Union, Both, Not, Near, Call, Kinds, Search, AtPath, AtPattern, Listed}
use Rattle.selection_parser.specs.Plain.PlainSelections.{none, more}
use Rattle.selection_eval.specs.Fields.{has_found}
use Rattle.event_sets.specs.Kinds.{is_of}
use Rattle.selection_eval.specs.Names.{Names}
use Rattle.selection_eval.specs.Paths.{at_paths, in_trees}
use Rattle.event_sets.specs.Sets.{Ids, called, common, near_times, passing, rest, union}
use Rattle.selection_eval.specs.Spots.{itemized}

-- a list that can't be refused
abbrev pub known : Ids → Judged Ids
known ids = plainly (Ok ids)

-- `/p/`
abbrev pub searched : Bytes → FieldSet → List PlainEvent → Judged Ids
searched pattern fields events = pattern_of pattern >>> λ text. known (passing (has_found text fields) events)

-- the events at paths in which the pattern of a text is found: by the operations, or in whole trees
abbrev pub at_found : Bool → Bytes → List PlainEvent → Ids
at_found true text events = in_trees (found_in text) events
at_found false text events = at_paths (found_in text) events

-- `[/p/]`, and `[/p/c]` for whole trees
abbrev pub at_pattern : Bytes → Bool → List PlainEvent → Judged Ids
at_pattern pattern whole events = pattern_of pattern >>> λ text. known (at_found whole text events)

-- two lists joined: what is in both, or what is in one of them
abbrev pub join_of : Bool → Ids → Ids → Ids
join_of true = common
join_of false = union

unfoldable mutual
  -- the events of a selection, in their order
  pub denote : PlainSelection → List PlainEvent → Names → Judged Ids
  denote (Union all) events names = joined (join_of false) all events names
  denote (Both all) events names = joined (join_of true) all events names
  denote (Not x) events names = denote x events names >>> λ ids. known (rest events ids)
  denote (Near times x) events names = denote x events names >>> λ ids. known (near_times events times ids)
  denote (Call function x) events names = denote x events names >>> λ ids. known (called events function ids)
  denote (Kinds kinds) events names = known (passing (is_of events kinds) events)
  denote (Search pattern fields) events names = searched pattern fields events
  denote (AtPath path) events names = known (at_paths (bytes_eq path) events)
  denote (AtPattern pattern whole) events names = at_pattern pattern whole events
  denote (Listed items) events names = plainly (itemized items events names)

  -- several selections, the first one's list joined with that of each further one in turn
  pub joined : (Ids → Ids → Ids) → PlainSelections → List PlainEvent → Names → Judged Ids
  joined join none events names = known []
  joined join (more x others) events names = denote x events names >>> λ ids. in_turn join others ids events names

  -- the list so far, joined with that of each further selection in turn
  pub in_turn : (Ids → Ids → Ids) → PlainSelections → Ids → List PlainEvent → Names → Judged Ids
  in_turn join none ids events names = known ids
  in_turn join (more x others) ids events names =
      denote x events names >>> λ right. in_turn join others (join ids right) events names
