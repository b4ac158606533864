-- Which event of which repository, as it came, each event is that is loaded, and where each repository that came is now. (own)
use Rattle.std.specs.Prelude.{◌≡◌, ℕ, IsTrue, flat_map, List, [], ◌∷◌, ◌++◌, map, Option, None, Some, option_map, option_to_list, unwrap_or, if◌then◌else◌}
use Rattle.plain_model.specs.declared.id.AnyId.{AnyId}
use Rattle.plain_model.specs.declared.event.PlainEvent.{PlainEvent}
use Rattle.plain_model.specs.Lookups.{id_number}
use Rattle.plain_model.specs.Paths.{Bytes}
use Rattle.plain_model.specs.Snapshots.{shown_tree}
use Rattle.plain_model.specs.Soundness.{IsCommitOf, has_id}
use Rattle.graft_laws.specs.Sources.{numbered}
use Rattle.script_reader.specs.declared.command.Command.{Command}
use Rattle.history_machine.specs.Sessions.{Repo, Session, find_repo, read_repo}
use Rattle.kept_steps.specs.Following.{Joins, LoadedEvent, arrived, comes, holder, joins, source}

-- a command, if there was one, and the session after it
pub record Step : Type 0 where
  pub what : Option Command
  pub after : Session

-- ---- back to where they came

-- an event of a repository as it came, by the number of its id
pub record Origin : Type 0 where
  pub came : Repo
  pub number : ℕ

-- which event it is of what came
abbrev pub Origins : Type 0
Origins = LoadedEvent → Origin

-- each is itself, in the repository of its name
abbrev pub themselves : List Repo → Origins
themselves repos e = record { came = unwrap_or (find_repo e.repo repos) (read_repo e.repo []); number = e.number }

-- after a command: of a repository that has just come each event is itself, and of any other it is what it was before
abbrev pub origins_after : Origins → Session → Joins → Session → Origins
origins_after so_far s how after e = if comes s how e.repo then themselves after.repos e else so_far (source s how e)

-- the same where there may be no command
abbrev pub origins_by : Origins → Session → Option Command → Session → Origins
origins_by so_far s (Some what) after = origins_after so_far s (joins what) after
origins_by so_far s None after = so_far

-- after some commands, from a session on
abbrev pub origins : Origins → Session → List Step → Origins
origins so_far s [] = so_far
origins so_far s (one ∷ others) = origins (origins_by so_far s one.what one.after) one.after others

-- the same, where what is loaded in the session was there at first
abbrev pub origins_from : Session → List Step → Origins
origins_from s steps = origins (themselves s.repos) s steps

-- ---- forward to where they are

-- a repository as it came, and the name of the one that has its events
pub record Held : Type 0 where
  pub came : Repo
  pub now : Bytes

-- each has its own
abbrev pub own : List Repo → List Held
own repos = map (λ repo. record { came = repo; now = repo.name }) repos

-- after a command: those that were dropped are left out, and those that have come are there, too
abbrev pub held_after : List Held → Session → Joins → Session → List Held
held_after so_far s how after =
    flat_map (λ one. option_to_list (option_map (λ name. record one { now = name }) (holder s how after one.now))) so_far
    ++ own (arrived s how after)

abbrev pub held_by : List Held → Session → Option Command → Session → List Held
held_by so_far s (Some what) after = held_after so_far s (joins what) after
held_by so_far s None after = so_far

-- after some commands, from a session on
abbrev pub held : List Held → Session → List Step → List Held
held so_far s [] = so_far
held so_far s (one ∷ others) = held (held_by so_far s one.what one.after) one.after others

abbrev pub held_from : Session → List Step → List Held
held_from s steps = held (own s.repos) s steps

-- ---- what is kept

-- A history has no event but those that have come, each of its kind, and each of its commits has the files that it had when it came, with
-- the same bytes.
pub record KeepsOrigins (origin : ℕ → Origin) (history : List PlainEvent) : Type 0 where
  pub events : (id : AnyId) → IsTrue (has_id history id)
      → IsTrue (has_id (origin (id_number id)).came.history (numbered id (origin (id_number id)).number))
  pub trees : (c : ℕ) → IsCommitOf history c → shown_tree history c ≡ shown_tree (origin c).came.history (origin c).number

-- of a loaded repository
abbrev pub IsKept : Origins → Repo → Type 0
IsKept origins_of repo = KeepsOrigins (λ number. origins_of (record { repo = repo.name; number = number })) repo.history

-- the repository that has its events is loaded, and each commit that it had when it came is one there, with its files
pub record IsWhole (origins_of : Origins) (repos : List Repo) (one : Held) : Type 0 where
  pub repo : Repo
  pub found : find_repo one.now repos ≡ Some repo
  pub commits : (c : ℕ) → IsCommitOf one.came.history c
      → (now : ℕ) × IsCommitOf repo.history now × (shown_tree repo.history now ≡ shown_tree one.came.history c)
      × (origins_of (record { repo = one.now; number = now }) ≡ record { came = one.came; number = c })

-- its events are those of one that came, of the same name, under their ids
abbrev pub IsAlone : Origins → Repo → Type 0
IsAlone origins_of repo =
    (came : Repo) × (came.name ≡ repo.name)
    × ((number : ℕ) → origins_of (record { repo = repo.name; number = number }) ≡ record { came = came; number = number })
