-- For each removed commit of a history what stands for it among parents.
use Rattle.std.specs.Prelude.{ℕ, ◌≡◌, true, List, [], Some}
use Rattle.plain_model.specs.declared.id.AnyId.{AnyId}
use Rattle.plain_model.specs.declared.event.PlainEvent.{PlainEvent}
use Rattle.plain_model.specs.Histories.{past}
use Rattle.plain_model.specs.Lookups.{commit_id}
use Rattle.edit_laws.specs.Removal.{expand}
use Rattle.squash_laws.specs.Removed.{is_removed}
use Rattle.plan_steps.specs.Tables.{IsTableTo}

module _ (set : List AnyId) (events : List PlainEvent) where
  -- where an event is a removed commit, these stand for it
  abbrev pub Stand : PlainEvent → List ℕ → Type 0
  Stand e commits = (c : ℕ) → commit_id e ≡ Some c → is_removed set c ≡ true → commits ≡ expand (is_removed set) (past events) c

  -- a table has those of the first events, place by place
  abbrev pub AreStandingTo : ℕ → List (List ℕ) → Type 0
  AreStandingTo k rows = IsTableTo [] Stand events k rows
