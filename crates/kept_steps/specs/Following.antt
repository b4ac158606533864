-- Which event is which: what an event of the session after a command was in the session before it, and in which repository the events of
-- one are after it. (own)
use Rattle.std.specs.Prelude.{◌-◌, ℕ, Bool, false, true, bytes_eq, filter, is_some, List, [], ◌∷◌, map, nat_lt, not, Option, None, Some, Result, Ok, Err, if◌then◌else◌}
use Rattle.plain_model.specs.declared.fault.Fault.{Fault}
use Rattle.plain_model.specs.Lookups.{next_number}
use Rattle.plain_model.specs.Paths.{Bytes}
use Rattle.graft_laws.specs.Sources.{number_after, number_at}
use Rattle.graft_laws.specs.Unite.{Part, by_age}
use Rattle.script_reader.specs.declared.command.Command.{Command}
use Rattle.script_reader.specs.declared.command.Command.TheVariants as command
use Rattle.history_machine.specs.Sessions.{Repo, Session, chosen, find_repo}
use Rattle.history_machine.specs.Several.{all_there, as_part, joined_name}

-- an event of a loaded repository, by the repository's name and the number of the event's id
pub record LoadedEvent : Type 0 where
  pub repo : Bytes
  pub number : ℕ

-- a repository of the name is loaded
abbrev pub is_loaded : Session → Bytes → Bool
is_loaded s name = is_some (find_repo name s.repos)

-- ---- commands that join

-- a command has the chosen repository take in the one of a name, makes one of those of some names, or joins nothing
pub data Joins : Type 0 where
  takes_in : Bytes → Joins
  unites : List Bytes → Joins
  nothing : Joins

abbrev pub joins : Command → Joins
joins (command.Graft selection name prune) = takes_in name
joins (command.Unite names prune) = unites names
joins other = nothing

abbrev pub is_nothing : Joins → Bool
is_nothing nothing = true
is_nothing other = false

abbrev pub joins_nothing : Command → Bool
joins_nothing what = is_nothing (joins what)

-- ---- joined histories

-- The event with a number among parts that were put one behind another, whose numbers go on from a first one. None has a number after
-- all of theirs.
abbrev pub event_among : List Part → ℕ → ℕ → LoadedEvent
event_among [] first number = record { repo = []; number = number }
event_among (part ∷ parts) first number =
    if nat_lt number (number_after first part.events) then record { repo = part.name; number = number_at part.events (number - first) }
    else event_among parts (number_after first part.events) number

-- the same behind the history of a repository, whose own numbers are below the first one
abbrev pub event_behind : Bytes → ℕ → List Part → ℕ → LoadedEvent
event_behind repo first parts number = if nat_lt number first then record { repo = repo; number = number } else event_among parts first number

-- in a repository that has taken another one in
abbrev pub event_grafted : Repo → Repo → ℕ → LoadedEvent
event_grafted old part number = event_behind old.name old.next (as_part part ∷ []) number

-- in one that is made of these parts, of which the oldest comes first
abbrev pub event_united : List Part → ℕ → LoadedEvent
event_united [] number = record { repo = []; number = number }
event_united (base ∷ others) number = event_behind base.name (next_number base.events) others number

-- ---- back over a command

-- Of the chosen repository and of the one that it takes in: the events of the chosen one are its own and those of the other.
abbrev pub before_graft : Result Repo Fault → Option Repo → LoadedEvent → LoadedEvent
before_graft (Ok old) (Some part) e = if bytes_eq e.repo old.name then event_grafted old part e.number else e
before_graft (Ok old) None e = e
before_graft (Err why) part e = e

-- Of the repositories that become one: the events of the one that wasn't loaded are theirs.
abbrev pub before_unite : Bool → Result (List Repo) Fault → LoadedEvent → LoadedEvent
before_unite false (Ok parts) e = event_united (by_age (λ part. part.events) (map as_part parts)) e.number
before_unite false (Err why) e = e
before_unite true parts e = e

-- What an event of the session after a command was in the session before. Where the command is refused that is itself: no number is as
-- high as a new one then, and no repository is new.
abbrev pub source : Session → Joins → LoadedEvent → LoadedEvent
source s (takes_in name) e = before_graft (chosen s) (find_repo name s.repos) e
source s (unites names) e = before_unite (is_loaded s e.repo) (all_there names s.repos) e
source s nothing e = e

-- a repository of this name comes by the command: none had it, and it isn't made of others
abbrev pub comes : Session → Joins → Bytes → Bool
comes s nothing name = not (is_loaded s name)
comes s other name = false

-- the repositories that come
abbrev pub arrived : Session → Joins → Session → List Repo
arrived s how after = filter (λ repo. comes s how repo.name) after.repos

-- ---- forward over a command

abbrev pub name_of : Result Repo Fault → Option Bytes
name_of (Ok repo) = Some repo.name
name_of (Err why) = None

-- the repository that gets the events of others, by its name
abbrev pub joined_to : Session → Joins → Option Bytes
joined_to s (takes_in name) = name_of (chosen s)
joined_to s (unites names) = Some (joined_name names)
joined_to s nothing = None

-- the name of the repository that has the events of the one of this name after the command: if that one is gone, it was joined or dropped
abbrev pub holder : Session → Joins → Session → Bytes → Option Bytes
holder s how after name = if is_loaded after name then Some name else joined_to s how
