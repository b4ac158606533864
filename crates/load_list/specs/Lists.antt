-- The load list with its choice, as contracts see it.
use Rattle.std.specs.Prelude.{◌≡◌, ◌<◌, ℕ, Bool, List, [], ◌∷◌, ◌++◌, length, map, bytes_eq, Option, Some, Result, Ok, Err}
use Rattle.std.specs.List.{AllByRecursion, position}
use Rattle.plain_model.specs.Faults.{Returns}
use Rattle.plain_model.specs.Lookups.{id_of}
use Rattle.plain_model.specs.Paths.{Bytes}
use Rattle.plain_model.specs.declared.fault.Fault.{Fault}
use Rattle.plain_model.specs.declared.fault.Halt.{Halt}
use Rattle.plain_model.specs.declared.fault.Halt.TheVariants as halt
use Rattle.plain_model.specs.Soundness.{IsSound}
use Rattle.plain_model.specs.declared.event.PlainEvent.{PlainEvent}
use Rattle.edit_laws.specs.Editing.{Remade}
use Rattle.event_arena.specs.Graphs.{Change}
use Rattle.byte_patterns.specs.Judging.{Judged, ◌>>>◌, plainly}
use Rattle.event_sets.specs.Sets.{Ids}
use Rattle.graft_laws.specs.Unite.{Part}
use Rattle.selection_parser.specs.Reading.{selection_at}
use Rattle.script_lines.specs.Answering.{◌>>=◌}
use Rattle.macro_lines.specs.Macros.{Macro}
use Rattle.history_machine.specs.Sessions.{Repo, Session, Subject, chosen, chosen_by, edited, find_repo, of_events, read_repo, stands_for, there, unused, with_remade, with_repo, without_repo}
use Rattle.history_machine.specs.Several.{all_there, as_part, early_name, grafted_with, joined_name, late_name, other_than, united_of, without_repos}
use Rattle.load_list.specs.Entries.{made_by}

-- the loaded repositories in their order, and the name of the one that is chosen, if one is
pub record LoadList : Type 0 where
  pub repos : List Repo
  pub choice : Option Bytes

-- a session with it and these macros
abbrev pub session_of : LoadList → List Macro → Session
session_of list macros = record { repos = list.repos; choice = list.choice; macros = macros }

-- The load list is then that of what this makes of a session with the one before, whatever its macros, or the fault is answered.
abbrev pub Changes : {X : Type 0} → (Session → Result Session Fault) → LoadList → Result X Halt → LoadList → Type 0
Changes after old result new = (macros : List Macro) → Returns (λ _. session_of new macros) result (after (session_of old macros))

-- ---- the chosen repository

abbrev pub IfFound : (Repo → Type 0) → Result Repo Fault → Type 0
IfFound P (Ok repo) = P repo
IfFound P (Err why) = Unit {0}

-- the one of the name that is chosen
abbrev pub chosen_in : LoadList → Result Repo Fault
chosen_in list = chosen_by list.repos list.choice

-- what is said of it, if there is one
abbrev pub IfChosen : (Repo → Type 0) → LoadList → Type 0
IfChosen P list = IfFound P (chosen_in list)

-- it is there, the first of its name
abbrev pub IsChosenAt : LoadList → ℕ → Type 0
IsChosenAt list place =
    (repo : Repo) × (chosen_in list ≡ Ok repo) × (position (λ (r : Repo). bytes_eq repo.name r.name) list.repos ≡ Some place)

-- what is answered where its place is looked for
abbrev pub FindsChosen : LoadList → Result ℕ Halt → Type 0
FindsChosen list (Ok place) = IsChosenAt list place
FindsChosen list (Err (halt.Refused fault)) = chosen_in list ≡ Err fault
FindsChosen list (Err halt.Memory) = ⊥

-- a text of it
abbrev pub text_in : (Repo → Bytes) → LoadList → Result Bytes Fault
text_in text_of list = chosen_in list >>= λ repo. Ok (text_of repo)

-- the events in it for which a selection stands
abbrev pub selected_in : Bytes → LoadList → Judged Ids
selected_in text list = plainly (chosen_in list) >>> λ repo. stands_for repo (selection_at text)

-- all its events
abbrev pub all_in : Session → Result Subject Fault
all_in s = chosen s >>= λ repo. Ok (of_events (map id_of repo.history))

-- ---- another one is taken in

-- a plan is for the repository as it is, and leaves a sound history
pub record IsPlanFor (repo : Repo) (plan : Change) : Type 0 where
  pub before : plan.before ≡ repo.history
  pub made_at : plan.made_at ≡ repo.next
  pub sound : IsSound plan.after

-- the plan of a graft of the repository of a name on the chosen one, or why there is none
abbrev pub PlansGraft : Bool → Bytes → Ids → List Repo → Result Change Halt → Repo → Type 0
PlansGraft prune name ids repos plan repo =
    Returns made_by plan (other_than repo name repos >>= λ part. grafted_with prune part ids repo.next repo.history)

-- what a plan makes of the list that is carried out, if there is one
abbrev pub Carried : Result Change Halt → Result (Unit {0}) Halt → LoadList → LoadList → Repo → Type 0
Carried (Ok plan) (Ok done) old new repo = new ≡ record old { repos = with_repo (with_remade repo (made_by plan)) old.repos }
Carried (Ok plan) (Err (halt.Refused fault)) old new repo = ⊥
Carried (Ok plan) (Err halt.Memory) old new repo = Unit {0}
Carried (Err why) result old new repo = result ≡ Err why

-- the list with what is made of the chosen repository and another one
abbrev pub joined_in : (Repo → ℕ → List PlainEvent → Result Remade Fault) → Bytes → LoadList → Repo → Result LoadList Fault
joined_in edit name list repo =
    other_than repo name list.repos >>= λ part. edited (edit part) repo >>= λ new. Ok (record list { repos = with_repo new list.repos })

abbrev pub Joins : (Repo → ℕ → List PlainEvent → Result Remade Fault) → Bytes → Result (Unit {0}) Halt → LoadList → LoadList → Repo → Type 0
Joins edit name result old new repo = Returns (λ _. new) result (joined_in edit name old repo)

-- ---- one becomes two

-- with both halves in the place of the one of this name
abbrev pub with_halves : LoadList → Bytes → List PlainEvent × List PlainEvent → LoadList
with_halves list name halves = record {
  repos = (without_repo name list.repos ++ read_repo (early_name name) halves.0 ∷ []) ++ read_repo (late_name name) halves.1 ∷ [];
  choice = Some (early_name name);
}

-- the list with these halves, if there are any
abbrev pub divided_in : Bytes → LoadList → Result (List PlainEvent × List PlainEvent) Fault → Result LoadList Fault
divided_in name list halves = halves >>= λ two. Ok (with_halves list name two)

-- the same, if no repository has their names
abbrev pub divided_under : Bytes → LoadList → Result (List PlainEvent × List PlainEvent) Fault → Result LoadList Fault
divided_under name list halves =
    unused (early_name name) (find_repo (early_name name) list.repos) >>= λ early. unused (late_name name) (find_repo (late_name name) list.repos) >>= λ late.
    divided_in name list halves

-- ---- several become one

-- the repository of a name as a part
abbrev pub part_there : Bytes → List Repo → Result Part Fault
part_there name repos = there name (find_repo name repos) >>= λ repo. Ok (as_part repo)

-- the repositories of these names as parts, or that one is not there
abbrev pub parts_there : List Bytes → List Repo → Result (List Part) Fault
parts_there names repos = all_there names repos >>= λ found. Ok (map as_part found)

-- the names joined, if no other repository has that name
abbrev pub free_name : List Bytes → List Repo → Result Bytes Fault
free_name names repos = unused (joined_name names) (find_repo (joined_name names) (without_repos names repos))

-- what the repositories of these names become, under another name
abbrev pub united_as : Bool → Bytes → List Bytes → List Repo → Result Repo Fault
united_as prune name names repos = all_there names repos >>= λ parts. united_of prune parts >>= λ new. Ok (record new { name = name })

-- the same under their names joined, if no other repository has that name
abbrev pub united_in : Bool → List Bytes → List Repo → Result Repo Fault
united_in prune names repos =
    all_there names repos >>= λ parts. free_name names repos >>= λ free. united_of prune parts >>= λ new. Ok (record new { name = free })

-- a name is longer than each of these
abbrev pub IsLongerThanEach : List Bytes → Bytes → Type 0
IsLongerThanEach names whole = AllByRecursion (λ name. length name < length whole) names
