-- What commands on several repositories leave of each history, with the files of its commits.
use Rattle.std.specs.Prelude.{◌≡◌, ◌⊎◌, ℕ, ◌∷◌, ◌++◌, [], Bool, bytes_eq, IsFalse, IsTrue, true, List, map, None, not, Ok, Option, Some}
use Rattle.plain_model.specs.Lookups.{next_number}
use Rattle.plain_model.specs.Paths.{Bytes}
use Rattle.plain_model.specs.declared.id.AnyId.{AnyId}
use Rattle.plain_model.specs.declared.id.AnyId.TheVariants as any
use Rattle.plain_model.specs.Soundness.{IsCommitOf, has_id}
use Rattle.byte_patterns.specs.Judging.{Denial, under}
use Rattle.divide_laws.specs.Divide.{divide_of}
use Rattle.divide_laws.specs.Remaining
use Rattle.divide_laws.specs.declared.halves.Halves.{Halves}
use Rattle.graft_laws.specs.Joined.{BeginsWith, HasTreesOf, StaysIn}
use Rattle.graft_laws.specs.Sources.{HasTreesOfAll, IsFrom, IsFromOne}
use Rattle.graft_laws.specs.Unite.{Part, by_age, with_parts}
use Rattle.script_reader.specs.declared.command.Command.{Command}
use Rattle.history_machine.specs.Sessions.{Repo, Session, Subject, chosen, find_repo, read_repo, ready, with_repo, without_repo}
use Rattle.history_machine.specs.Several.{all_there, as_part, early_name, joined_name, late_name, without_repos}

-- Another repository has left, and its events are behind those of the chosen one, which are as they were, each commit with its tree. With
-- `--prune` each commit of the other one has its tree, too, under its new number. No event comes from elsewhere.
pub record Grafts (prune : Bool) (name : Bytes) (s after : Session) : Type 0 where
  pub old : Repo
  pub part : Repo
  pub new : Repo
  pub is_chosen : chosen s ≡ Ok old
  pub is_part : find_repo name s.repos ≡ Some part
  pub another : IsFalse (bytes_eq name old.name)
  pub own_name : new.name ≡ old.name
  pub base : BeginsWith old.history new.history
  pub pruned : IsTrue prune → HasTreesOf part.history old.next new.history
  pub came : (id : AnyId) → IsTrue (has_id new.history id) → IsTrue (has_id old.history id) ⊎ IsFrom part.history old.next id
  pub rest : after ≡ record s { repos = without_repo name (with_repo new s.repos) }

-- Repositories have left, and one that is made of them is loaded last under their names and chosen. Each commit of the oldest one is there
-- with its tree. With `--prune` each commit of any other one has its tree, too, under its new number. No event comes from elsewhere.
pub record Unites (prune : Bool) (names : List Bytes) (s after : Session) : Type 0 where
  pub parts : List Repo
  pub base : Part
  pub others : List Part
  pub new : Repo
  pub are_parts : all_there names s.repos ≡ Ok parts
  pub order : by_age (λ (part : Part). part.events) (map as_part parts) ≡ base ∷ others
  pub kept : (c : ℕ) → IsCommitOf base.events c → StaysIn base.events new.history c
  pub pruned : IsTrue prune → (before behind : List Part) (part : Part) (so_far : _) → others ≡ before ++ part ∷ behind
      → with_parts true base.events before ≡ Ok so_far → HasTreesOf part.events (next_number so_far) new.history
  pub all_pruned : IsTrue prune → HasTreesOfAll others (next_number base.events) new.history
  pub came : (id : AnyId) → IsTrue (has_id new.history id) → IsTrue (has_id base.events id) ⊎ IsFromOne others (next_number base.events) id
  pub name : new.name ≡ joined_name names
  pub is_new : find_repo new.name s.repos ≡ None
  pub rest : after ≡ record s { repos = without_repos names s.repos ++ new ∷ []; choice = Some new.name }

-- The chosen repository has left, and its halves are loaded last, of which the first is chosen. Each of its commits is in one of them alone,
-- with its tree.
pub record Divides (denial : Option Denial) (what : Command) (s after : Session) : Type 0 where
  pub subject : Subject
  pub old : Repo
  pub halves : Halves
  pub speaks : under denial (ready s what) ≡ Ok subject
  pub is_chosen : chosen s ≡ Ok old
  pub made : divide_of subject.ids old.history ≡ Ok halves
  pub alone : (c : ℕ) → IsCommitOf old.history c → has_id halves.late (any.Commit c) ≡ not (has_id halves.early (any.Commit c))
  pub early : Remaining.HasTreesOf old.history halves.early
  pub late : Remaining.HasTreesOf old.history halves.late
  pub rest : after ≡ record s {
    repos = (without_repo old.name s.repos ++ read_repo (early_name old.name) halves.early ∷ []) ++ read_repo (late_name old.name) halves.late ∷ [];
    choice = Some (early_name old.name);
  }
