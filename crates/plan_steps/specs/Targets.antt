-- To which commits the tags and resets of a history go.
use Rattle.std.specs.Prelude.{ℕ, suc, ◌≡◌, ◌==◌, false, List, length, Option, Some, None, option_and_then, slice_get, slice_index_or, if◌then◌else◌}
use Rattle.plain_model.specs.declared.id.AnyId.{AnyId}
use Rattle.plain_model.specs.declared.event.PlainEvent.{PlainEvent}
use Rattle.plain_model.specs.declared.event.PlainEvent.TheVariants.{Blob, Commit, Tag, Reset, Pass}
use Rattle.squash_laws.specs.Removed.{is_removed}
use Rattle.squash_laws.specs.Takings.{moved}
use Rattle.plain_model.specs.declared.policy.Lean.{Lean}

-- where a tag or a reset goes, from where a commit's go
abbrev pub target_for : (ℕ → Option ℕ) → PlainEvent → Option ℕ
target_for goes_to (Tag id name target tagger comment mark) = goes_to target
target_for goes_to (Reset id branch (Some target)) = goes_to target
target_for goes_to (Reset id branch None) = None
target_for goes_to (Blob id mark bytes) = None
target_for goes_to (Commit id mark branch author committer encoding comment parents ops aliases) = None
target_for goes_to (Pass id line) = None

-- a table has them, place by place
pub record AreTargets (goes_to : ℕ → Option ℕ) (events : List PlainEvent) (table : List (Option ℕ)) : Type 0 where
  pub count : length table ≡ length events
  pub target : (k : ℕ) (e : PlainEvent) → slice_get events k ≡ Some e → slice_index_or table k None ≡ target_for goes_to e

-- the removed commit that a tag or a reset is on
abbrev pub lost_target : List AnyId → PlainEvent → Option ℕ
lost_target set e = option_and_then (λ c. if is_removed set c then Some c else None) (target_for Some e)

-- a table has where those on removed commits go, and the others stay where they are
pub record AreMoves (set : List AnyId) (goes_to : ℕ → Option ℕ) (events : List PlainEvent) (table : List (Option ℕ)) : Type 0 where
  pub target : (k c : ℕ) (e : PlainEvent) → slice_get events k ≡ Some e → lost_target set e ≡ Some c →
      slice_index_or table k None ≡ goes_to c
  pub stays : (c : ℕ) → is_removed set c ≡ false → goes_to c ≡ Some c

-- those of removed commits move, the way to which they lean first
abbrev pub moving : List AnyId → List PlainEvent → Lean → ℕ → Option ℕ
moving set events tags c = if is_removed set c then moved set events tags c else Some c

-- a table ends with the place of one that goes to a commit, and the others go where they did
pub record EndsWith (place target : ℕ) (old new : List (Option ℕ)) : Type 0 where
  pub count : length new ≡ suc place
  pub entry : (k : ℕ) → slice_index_or new k None ≡ (if k == place then Some target else slice_index_or old k None)
