-- What commands do to the load list that take another repository in, make one of several, or two of one (reposurgeon manual, `graft`,
-- `unite`, `divide`; the order of the checks: own): a form for each kind, whatever is made of the histories, and then what is.
use Rattle.std.specs.Prelude.{◌≡◌, ℕ, ◌+◌, ◌≤◌, Bool, flat_map, map, List, [], ◌∷◌, ◌++◌, length, codes, bytes_eq, Option, Some, None, Result, Ok, Err, if◌then◌else◌}
use Rattle.std.specs.List.{AllByRecursion}
use Rattle.plain_model.specs.Paths.{Bytes}
use Rattle.plain_model.specs.declared.event.PlainEvent.{PlainEvent}
use Rattle.plain_model.specs.declared.fault.Fault.{Fault}
use Rattle.divide_laws.specs.Divide.{divide_of}
use Rattle.edit_laws.specs.Editing.{IsEdit, IsLawfulHistory, Remade, with_number}
use Rattle.event_sets.specs.Sets.{Ids}
use Rattle.graft_laws.specs.Graft.{graft_of}
use Rattle.graft_laws.specs.Joining.{without_passes}
use Rattle.graft_laws.specs.Unite.{Part, by_age, unite_of}
use Rattle.selection_eval.specs.Names.{live_names}
use Rattle.script_lines.specs.Answering.{◌>>=◌}
use Rattle.history_machine.specs.Lawful.{IsLawfulRepo}
use Rattle.history_machine.specs.Sessions.{Repo, Session, chosen, edited, find_repo, read_repo, room, there, unused, with_repo, without_repo}

-- ---- another repository is taken in

-- the repository of a name, if it isn't this one
abbrev pub other_than : Repo → Bytes → List Repo → Result Repo Fault
other_than repo name repos = there name (if bytes_eq name repo.name then None else find_repo name repos)

-- An edit of the chosen repository with another one, which leaves the load list: first that one is chosen, then that the other is
-- there, then what the edit asks.
unfoldable pub after_joining : Session → Bytes → (Repo → ℕ → List PlainEvent → Result Remade Fault) → Result Session Fault
after_joining s name edit =
    chosen s >>= λ repo. other_than repo name s.repos >>= λ part. edited (edit part) repo >>= λ new.
    Ok (record s { repos = without_repo name (with_repo new s.repos) })

-- what such a command owes: with a lawful repository it is an edit
abbrev pub IsJoining : (Repo → Ids → ℕ → List PlainEvent → Result Remade Fault) → Type 0
IsJoining edit = (part : Repo) → IsLawfulRepo part → IsEdit (edit part)

-- ---- several become one

-- the repositories of these names, in their order, or that one is not there
abbrev pub all_there : List Bytes → List Repo → Result (List Repo) Fault
all_there [] repos = Ok []
all_there (name ∷ names) repos = there name (find_repo name repos) >>= λ part. all_there names repos >>= λ parts. Ok (part ∷ parts)

-- those of other names
abbrev pub without_repos : List Bytes → List Repo → List Repo
without_repos [] repos = repos
without_repos (name ∷ names) repos = without_repos names (without_repo name repos)

-- the names, with `+` between them
abbrev pub joined_name : List Bytes → Bytes
joined_name [] = []
joined_name (name ∷ names) = name ++ flat_map (λ other. 43 ∷ other) names

-- Repositories leave the load list, and what they become is loaded last under their names, and chosen: first that each is there,
-- then that no other has the new name, then what is asked of the parts.
unfoldable pub after_uniting : Session → List Bytes → (List Repo → Result Repo Fault) → Result Session Fault
after_uniting s names united =
    all_there names s.repos >>= λ parts. unused (joined_name names) (find_repo (joined_name names) (without_repos names s.repos)) >>= λ free.
    united parts >>= λ new. Ok (record s { repos = without_repos names s.repos ++ record new { name = free } ∷ []; choice = Some free })

-- what such a command owes: of lawful repositories it makes a lawful one, and of none it makes none
abbrev pub IsUniting : (List Repo → Result Repo Fault) → Type 0
IsUniting united = (parts : List Repo) (new : Repo) → AllByRecursion IsLawfulRepo parts → united parts ≡ Ok new → IsLawfulRepo new × (1 ≤ length parts)

-- ---- one becomes two

abbrev pub early_name : Bytes → Bytes
early_name name = name ++ codes "-early"

abbrev pub late_name : Bytes → Bytes
late_name name = name ++ codes "-late"

-- The chosen repository leaves the load list, and its two halves are loaded last, of which the first is chosen: first that there is
-- room for one more, then that no other repository has the one name or the other, then what is asked of the history.
unfoldable pub after_dividing : Session → (List PlainEvent → Result (List PlainEvent × List PlainEvent) Fault) → Result Session Fault
after_dividing s halves_of =
    chosen s >>= λ repo. room s.repos >>= λ repos.
    unused (early_name repo.name) (find_repo (early_name repo.name) (without_repo repo.name repos)) >>= λ early.
    unused (late_name repo.name) (find_repo (late_name repo.name) (without_repo repo.name repos)) >>= λ late.
    halves_of repo.history >>= λ halves.
    Ok (record s { repos = (without_repo repo.name repos ++ read_repo early halves.0 ∷ []) ++ read_repo late halves.1 ∷ []; choice = Some early })

-- what such a command owes: both halves of a lawful history are lawful
abbrev pub IsDivision : (List PlainEvent → Result (List PlainEvent × List PlainEvent) Fault) → Type 0
IsDivision halves_of =
    (events : List PlainEvent) (halves : List PlainEvent × List PlainEvent) → IsLawfulHistory events → halves_of events ≡ Ok halves
    → IsLawfulHistory halves.0 × IsLawfulHistory halves.1

-- ---- what is made of the histories

-- `graft`: the events of the part come behind those of the chosen history, with the numbers from the next one on
abbrev pub grafted_with : Bool → Repo → Ids → ℕ → List PlainEvent → Result Remade Fault
grafted_with prune part ids next events =
    with_number (next + length (without_passes part.history)) (graft_of prune next part.name part.history ids events)

-- a repository as a part
abbrev pub as_part : Repo → Part
as_part repo = record { name = repo.name; events = repo.history }

-- the united history, with the lists of the oldest part, of which those events stay that were there
abbrev pub united_repo : List Repo → List PlainEvent → Repo
united_repo [] history = read_repo [] history
united_repo (base ∷ others) history = record (read_repo base.name history) { names = live_names base.history base.names }

-- `unite`: the oldest part is the first of them by age
abbrev pub united_of : Bool → List Repo → Result Repo Fault
united_of prune parts =
    unite_of prune (map as_part parts) >>= λ history. Ok (united_repo (by_age (λ (repo : Repo). repo.history) parts) history)

-- `divide`
abbrev pub halves_of : Ids → List PlainEvent → Result (List PlainEvent × List PlainEvent) Fault
halves_of ids events = divide_of ids events >>= λ halves. Ok (halves.early, halves.late)
