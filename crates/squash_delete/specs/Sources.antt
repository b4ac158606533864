-- How a plan goes on where one event after another takes over what it does, or moves.
use Rattle.std.specs.Prelude.{ℕ, suc, ◌≡◌, ◌≤◌, ◌<◌, Bool, true, false, not, List, [], ◌∷◌, filter, length, map, Option, Some, slice_get}
use Rattle.plain_model.specs.declared.id.AnyId.{AnyId}
use Rattle.plain_model.specs.declared.limit.TheConstants.{MAX_OPERATIONS}
use Rattle.plain_model.specs.declared.event.PlainEvent.{PlainEvent}
use Rattle.plain_model.specs.Histories.{nodes}
use Rattle.event_arena.specs.Graphs.{Change}
use Rattle.history_laws.specs.FirstParents.{ops_along}
use Rattle.squash_laws.specs.Removed.{Takings, is_removed}
use Rattle.squash_laws.specs.Takings.{takes}
use Rattle.plain_model.specs.declared.policy.Lean.{Lean}
use Rattle.plain_model.specs.declared.policy.Push.{Push}
use Rattle.plain_model.specs.Lookups.{commit_id}
use Rattle.plain_model.specs.declared.policy.Push.TheVariants as push
use Rattle.squash_delete.specs.Chains.{AreLinks}
use Rattle.squash_delete.specs.Hangings.{AreHung}
use Rattle.plan_steps.specs.Leaving.{goes, staying, with_own_parents, with_takings}
use Rattle.plan_steps.specs.Passes.{moved_to, taken_to}
use Rattle.squash_delete.specs.Taking.{IsTakenBy, Taking}
use Rattle.plan_steps.specs.Targets.{AreMoves}
use Rattle.squash_delete.specs.declared.moving.Sources.{Sources}
use Rattle.squash_delete.specs.declared.moving.Sources.TheVariants.{Before, After}

-- how many operations the commits have
abbrev pub count_ops : List PlainEvent → ℕ
count_ops events = length (ops_along (nodes events))

module _ (set : List AnyId) (events : List PlainEvent) where
  -- the table is one of this history
  abbrev pub AreSources : Sources → Type 0
  AreSources (Before table) = (table.count ≡ length events) × AreLinks set events table
  AreSources (After rows) = AreHung set events rows.items

  -- an event that is no removed commit
  abbrev pub IsNoRemoved : PlainEvent → Type 0
  IsNoRemoved event = (c : ℕ) → commit_id event ≡ Some c → is_removed set c ≡ false

  -- one event more has what it takes over, and has so many operations then, or more
  abbrev pub GoesOn : (List ℕ → List ℕ) → Takings → ℕ → PlainEvent → Change → Change → ℕ → Type 0
  GoesOn par takes place event old new count =
      (start : Change) → old ≡ record start { after = taken_to set par takes place events } →
      (new ≡ record start { after = taken_to set par takes (suc place) events })
      × (count ≤ count_ops (map (with_takings par takes) (filter (λ e. not (goes set takes e)) (event ∷ []))))

  -- it has what is given
  abbrev pub TakesOver : Taking → ℕ → Change → Change → ℕ → Type 0
  TakesOver taking place old new count =
      (par : List ℕ → List ℕ) (takes : Takings) (event : PlainEvent) → slice_get events place ≡ Some event →
      IsNoRemoved event → IsTakenBy events taking takes event → GoesOn par takes place event old new count

  -- it has what the sources say
  abbrev pub TakesFrom : Push → ℕ → Change → Change → ℕ → Type 0
  TakesFrom to place old new count =
      (par : List ℕ → List ℕ) (tags : Lean) (event : PlainEvent) → slice_get events place ≡ Some event →
      GoesOn par (takes set events (record { push = to; tags = tags })) place event old new count

  -- nothing is pushed so to an event of these places
  abbrev pub NoneTakes : Push → ℕ → ℕ → Type 0
  NoneTakes to from until =
      (par : List ℕ → List ℕ) (tags : Lean) →
      taken_to set par (takes set events (record { push = to; tags = tags })) from events
      ≡ taken_to set par (takes set events (record { push = to; tags = tags })) until events

  -- all have what they take over, or there are too many operations
  abbrev pub Ends : Takings → (List ℕ → List ℕ) → Bool → Change → Change → Bool → Type 0
  Ends taking par bounded start new true = new ≡ record start { after = map (with_takings par taking) (staying set taking events) }
  Ends taking par bounded start new false =
      (bounded ≡ true) × (MAX_OPERATIONS < count_ops (map (with_takings par taking) (staying set taking events)))

  abbrev pub HasTakenOver : Push → Bool → Change → Change → Bool → Type 0
  HasTakenOver to bounded old new whole =
      (par : List ℕ → List ℕ) (tags : Lean) (start : Change) →
      old ≡ record start { after = map (with_own_parents par) (staying set (takes set events (record { push = to; tags = tags })) events) } →
      Ends (takes set events (record { push = to; tags = tags })) par bounded start new whole

  -- one tag or reset more is where it goes
  abbrev pub MovesOn : List (Option ℕ) → ℕ → Change → Change → Type 0
  MovesOn targets place old new =
      (par : List ℕ → List ℕ) (takes : Takings) (start : Change) → AreMoves set takes.target events targets →
      old ≡ record start { after = moved_to set par takes place events } →
      new ≡ record start { after = moved_to set par takes (suc place) events }

-- the push of which the sources are
abbrev pub push_of : Sources → Push
push_of (Before table) = push.Forward
push_of (After rows) = push.Back
