-- A loaded history, as contracts see it.
use Rattle.std.specs.List.{AllByRecursion}
use Rattle.std.specs.Prelude.{ℕ, List, [], ◌∷◌, ◌++◌, map, Vec, Result, Ok, Err}
use Rattle.plain_model.specs.Paths.{Bytes}
use Rattle.plain_model.specs.declared.fault.Fault.{Fault}
use Rattle.plain_model.specs.declared.event.PlainEvent.{PlainEvent}
use Rattle.edit_laws.specs.Editing.{Remade}
use Rattle.event_arena.specs.Graphs.{Change}
use Rattle.event_sets.specs.Once.{AreLive}
use Rattle.event_sets.specs.Sets.{Ids}
use Rattle.selection_eval.specs.Names.{Names, assigned}
use Rattle.script_lines.specs.Answering.{◌>>=◌}
use Rattle.graft_laws.specs.Joined.{AreNameBytes}
use Rattle.history_machine.specs.Sessions.{Repo, unassigned}

-- a repository without its name
pub record Loaded : Type 0 where
  pub history : List PlainEvent
  pub next : ℕ
  pub names : Names

-- with its name
abbrev pub repo_under : Bytes → Loaded → Repo
repo_under name loaded = record { name = name; history = loaded.history; next = loaded.next; names = loaded.names }

abbrev pub repo_of : {A : Type 0} → Vec ℕ A × Loaded → Repo
repo_of e = repo_under e.0.items e.1

-- the repositories of the entries of a load list
abbrev pub repos_of : {A : Type 0} → List (Vec ℕ A × Loaded) → List Repo
repos_of entries = map repo_of entries

-- all their names have bytes such as names have
abbrev pub AreNamed : {A : Type 0} → List (Vec ℕ A × Loaded) → Type 0
AreNamed entries = AllByRecursion (λ (e : _). AreNameBytes e.0.items) entries

-- what a plan makes
abbrev pub made_by : Change → Remade
made_by plan = record { history = plan.after; next = plan.next }

-- each is an event of the repository, if there is one
abbrev pub AreLiveIn : Result Repo Fault → Ids → Type 0
AreLiveIn (Ok repo) ids = AreLive repo.history ids
AreLiveIn (Err why) ids = Unit {0}

-- with a list of events under a name, unless another has it
abbrev pub with_given : Bytes → Ids → Repo → Result Repo Fault
with_given name ids repo =
    unassigned name (assigned name repo.names) >>= λ free. Ok (record repo { names = repo.names ++ (free, ids) ∷ [] })
