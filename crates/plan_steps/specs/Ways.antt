-- For each commit of a history, or for each removed one, the commit to which its tags and resets can go, back along first
-- parents or forward to children.
use Rattle.std.specs.Prelude.{ℕ, ◌≡◌, ◌==◌, true, if◌then◌else◌, List, length, Option, Some, None, drop, option_and_then, slice_get, slice_index_or}
use Rattle.std.specs.List.{list_any}
use Rattle.plain_model.specs.declared.id.AnyId.{AnyId}
use Rattle.plain_model.specs.declared.event.PlainEvent.{PlainEvent}
use Rattle.plain_model.specs.Histories.{nodes}
use Rattle.plain_model.specs.Lookups.{commit_id}
use Rattle.edit_laws.specs.Removal.{forward}
use Rattle.squash_laws.specs.Removed.{is_removed}
use Rattle.squash_laws.specs.Takings.{back_of}
use Rattle.plan_steps.specs.Tables.{IsFilledTo, IsTable, IsTableTo}

-- a commit has its way, and other events have none
abbrev pub WayIs : (ℕ → Option ℕ) → PlainEvent → Option ℕ → Type 0
WayIs goes_to e way = way ≡ option_and_then goes_to (commit_id e)

-- a removed commit has its way, and what a table has for other events isn't looked at
abbrev pub RemovedWayIs : List AnyId → (ℕ → Option ℕ) → PlainEvent → Option ℕ → Type 0
RemovedWayIs set goes_to e way = (c : ℕ) → commit_id e ≡ Some c → is_removed set c ≡ true → way ≡ goes_to c

-- the ways back from the first commits
abbrev pub AreBackTo : List AnyId → List PlainEvent → ℕ → List (Option ℕ) → Type 0
AreBackTo set events k table = IsTableTo None (WayIs (back_of set events)) events k table

-- the ways back from all of them
abbrev pub AreBack : List AnyId → List PlainEvent → List (Option ℕ) → Type 0
AreBack set events table = IsTable None (WayIs (back_of set events)) events table

-- the ways back from the first removed commits
abbrev pub AreBackOfRemovedTo : List AnyId → List PlainEvent → ℕ → List (Option ℕ) → Type 0
AreBackOfRemovedTo set events k table = IsFilledTo None (RemovedWayIs set (back_of set events)) events k table

-- the ways back from all removed commits
abbrev pub AreBackOfRemoved : List AnyId → List PlainEvent → List (Option ℕ) → Type 0
AreBackOfRemoved set events table = IsTable None (RemovedWayIs set (back_of set events)) events table

-- the ways forward from all removed commits, where only the children from a place on are looked at
abbrev pub AreForwardFrom : List AnyId → List PlainEvent → ℕ → List (Option ℕ) → Type 0
AreForwardFrom set events k table = IsTable None (RemovedWayIs set (forward (is_removed set) (nodes (drop k events)))) events table

-- the ways forward from all removed commits
abbrev pub AreForward : List AnyId → List PlainEvent → List (Option ℕ) → Type 0
AreForward set events table = AreForwardFrom set events 0 table

-- some commits lead one way, and the others where they did
pub record AreLed (events : List PlainEvent) (commits : List ℕ) (way : Option ℕ) (old new : List (Option ℕ)) : Type 0 where
  pub count : length new ≡ length old
  pub entry : (j : ℕ) (e : PlainEvent) (c : ℕ) → slice_get events j ≡ Some e → commit_id e ≡ Some c →
      slice_index_or new j None ≡ (if list_any (λ p. p == c) commits then way else slice_index_or old j None)
