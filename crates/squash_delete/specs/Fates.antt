-- What becomes of the events of a list where the commits of a set push forward, whatever their comments and tags do.
use Rattle.std.specs.Prelude.{ℕ, ◌≡◌, ◌==◌, Bool, List, [], ◌∷◌, length, map, nat_lt, Option, Some, None, if◌then◌else◌}
use Rattle.std.specs.List.{list_any}
use Rattle.plain_model.specs.declared.id.AnyId.{AnyId}
use Rattle.plain_model.specs.declared.limit.TheConstants.{MAX_OPERATIONS, MAX_PARENTS}
use Rattle.plain_model.specs.declared.fault.Fault.{Fault}
use Rattle.plain_model.specs.declared.fault.Fault.TheVariants as fault
use Rattle.plain_model.specs.declared.fault.Which.TheVariants as limit
use Rattle.plain_model.specs.Lookups.{event_parents}
use Rattle.plain_model.specs.declared.operation.FileOp.{FileOp}
use Rattle.plain_model.specs.declared.event.PlainEvent.{PlainEvent}
use Rattle.plain_model.specs.declared.event.PlainEvent.TheVariants.{Blob, Commit, Tag, Reset, Pass}
use Rattle.plain_model.specs.declared.policy.Lean.{Lean}
use Rattle.plain_model.specs.Paths.{Bytes}
use Rattle.event_arena.specs.Changes.{with_target}
use Rattle.expunge_laws.specs.PushForward.{forward_takes}
use Rattle.plan_steps.specs.Leaving.{event_after, goes, staying}
use Rattle.squash_laws.specs.Removed.{Takings, parents_after}
use Rattle.squash_delete.specs.Sources.{count_ops}
use Rattle.squash_delete.specs.declared.fates.Fate.{Fate}
use Rattle.squash_delete.specs.declared.fates.Fate.TheVariants.{Same, Taken, Moved}

-- a commit with other parents, operations and another comment
abbrev pub with_taken : List ℕ → List FileOp → Bytes → PlainEvent → PlainEvent
with_taken new made joined (Commit id mark branch author committer encoding comment parents ops aliases) =
    Commit id mark branch author committer encoding joined new made aliases
with_taken new made joined (Blob id mark bytes) = Blob id mark bytes
with_taken new made joined (Tag id name target tagger comment mark) = Tag id name target tagger comment mark
with_taken new made joined (Reset id branch target) = Reset id branch target
with_taken new made joined (Pass id line) = Pass id line

abbrev pub given : Fate → PlainEvent → PlainEvent
given Same e = e
given (Taken parents ops comment) e = with_taken parents ops comment e
given (Moved target) e = with_target target e

-- one after another
abbrev pub all_given : List Fate → List PlainEvent → List PlainEvent
all_given fates [] = []
all_given [] (e ∷ es) = e ∷ es
all_given (fate ∷ fates) (e ∷ es) = given fate e ∷ all_given fates es

-- from where a tag or a reset is, and where it goes
abbrev pub target_fate : Option ℕ → Option ℕ → Fate
target_fate old None = Same
target_fate None (Some new) = Same
target_fate (Some old) (Some new) = if old == new then Same else Moved new

module _ (set : List AnyId) (events : List PlainEvent) (comments : Bool) (tags : Lean) where
  abbrev pub taken : Takings
  taken = forward_takes set events comments tags

  -- what is left of an event that stays
  abbrev pub left_event : PlainEvent → PlainEvent
  left_event e = event_after (parents_after set events taken) taken e

  -- an event that goes is as it was
  abbrev pub fated : PlainEvent → PlainEvent
  fated e = if goes set taken e then e else left_event e

  abbrev pub FateIs : PlainEvent → Fate → Type 0
  FateIs e fate = given fate e ≡ fated e

  -- what becomes of a commit that stays, by its parents, operations and comment
  abbrev pub IsCommitFate : ℕ → List ℕ → List FileOp → Bytes → Fate → Type 0
  IsCommitFate id parents ops comment Same =
      (parents ≡ parents_after set events taken parents) × (ops ≡ taken.ops id parents ops) × (comment ≡ taken.comment id parents comment)
  IsCommitFate id parents ops comment (Taken new made joined) =
      (new ≡ parents_after set events taken parents) × (made ≡ taken.ops id parents ops) × (joined ≡ taken.comment id parents comment)
  IsCommitFate id parents ops comment (Moved target) = ⊥

  -- what is left of some events
  abbrev pub left_some : List PlainEvent → List PlainEvent
  left_some some = map left_event (staying set taken some)

  -- and of all
  abbrev pub left_events : List PlainEvent
  left_events = left_some events

-- some commit has more parents than a commit can have
abbrev pub has_many_parents : List PlainEvent → Bool
has_many_parents events = list_any (λ e. nat_lt MAX_PARENTS (length (event_parents e))) events

-- the first limit that is passed, where there are neither too many events nor too many aliases
abbrev pub limit_left : List PlainEvent → Option Fault
limit_left left =
    if nat_lt MAX_OPERATIONS (count_ops left) then Some (fault.Limit limit.Operations MAX_OPERATIONS)
    else if has_many_parents left then Some (fault.Limit limit.Parents MAX_PARENTS)
    else None
