-- What one command that keeps trees does to the load list. (own)
use Rattle.std.specs.Prelude.{◌≡◌, ℕ, IsTrue, true, List, [], ◌∷◌, ◌++◌, None}
use Rattle.plain_model.specs.declared.id.AnyId.{AnyId}
use Rattle.plain_model.specs.Paths.{Bytes}
use Rattle.plain_model.specs.Snapshots.{shown_tree}
use Rattle.plain_model.specs.Soundness.{IsCommitOf, has_id}
use Rattle.history_machine.specs.Joined.{Grafts, Unites}
use Rattle.history_machine.specs.Kept.{Each}
use Rattle.history_machine.specs.Sessions.{Repo, Session, find_repo, without_repo}
use Rattle.kept_steps.specs.Following.{Joins}
use Rattle.kept_steps.specs.Following.Joins.{nothing, takes_in, unites}

-- ---- one repository

-- What is left of a repository has its name. Each event that it has was there under its id, and each commit has the tree that it had.
pub record Remains (old new : Repo) : Type 0 where
  pub name : new.name ≡ old.name
  pub ids : (id : AnyId) → IsTrue (has_id new.history id) → IsTrue (has_id old.history id)
  pub trees : (c : ℕ) → IsCommitOf new.history c → shown_tree new.history c ≡ shown_tree old.history c

-- and all of its commits are left
pub record RemainsWhole (old new : Repo) : Type 0 where
  pub rest : Remains old new
  pub commits : (c : ℕ) → IsCommitOf old.history c → IsCommitOf new.history c

-- ---- the load list

-- where nothing is joined: one comes under a name that was free, one goes, each is left of an old one, or none changes
pub data Alone (Left : Repo → Repo → Type 0) (before after : List Repo) : Type 0 where
  one_comes : (new : Repo) → find_repo new.name before ≡ None → after ≡ before ++ new ∷ [] → Alone Left before after
  one_goes : (name : Bytes) → after ≡ without_repo name before → Alone Left before after
  each_left : Each Left before after → Alone Left before after
  none_changes : after ≡ before → Alone Left before after

-- the same of any command: with one that joins, no event comes from elsewhere, and each commit of each has its tree
abbrev pub Changes : (Repo → Repo → Type 0) → Session → Joins → Session → Type 0
Changes Left s nothing after = Alone Left s.repos after.repos
Changes Left s (takes_in name) after = Grafts true name s after
Changes Left s (unites names) after = Unites true names s after
