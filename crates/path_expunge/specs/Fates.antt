-- What becomes of the events of a history where its emptied commits give way.
use Rattle.std.specs.Prelude.{◌≡◌, ℕ, Bool, true, false, not, ◌&&◌, ◌==◌, List, [], ◌∷◌, Option, Some, None, if◌then◌else◌}
use Rattle.plain_model.specs.declared.id.AnyId.{AnyId}
use Rattle.plain_model.specs.declared.operation.FileOp.TheVariants.{DeleteAll}
use Rattle.plain_model.specs.declared.event.PlainEvent.{PlainEvent}
use Rattle.plain_model.specs.declared.event.PlainEvent.TheVariants.{Blob, Commit, Tag, Reset, Pass}
use Rattle.event_arena.specs.Changes.{with_parents, with_target}
use Rattle.expunge_laws.specs.InLine.{is_cut_off, parents_in_line}
use Rattle.expunge_laws.specs.PushForward.{forward_takes}
use Rattle.plan_steps.specs.Leaving.{event_after, goes}
use Rattle.squash_laws.specs.Removed.{Takings, parents_after}
use Rattle.squash_laws.specs.Takings.{is_none}
use Rattle.plain_model.specs.declared.policy.Lean.TheVariants as lean
use Rattle.path_expunge.specs.declared.fates.Fate.{Fate}
use Rattle.path_expunge.specs.declared.fates.Fate.TheVariants.{Same, Linked, Anew, Moved}

-- a commit that begins without files
abbrev pub begun_anew : PlainEvent → PlainEvent
begun_anew (Commit id mark branch author committer encoding comment parents ops aliases) =
    Commit id mark branch author committer encoding comment parents (DeleteAll ∷ ops) aliases
begun_anew (Blob id mark bytes) = Blob id mark bytes
begun_anew (Tag id name target tagger comment mark) = Tag id name target tagger comment mark
begun_anew (Reset id branch target) = Reset id branch target
begun_anew (Pass id line) = Pass id line

abbrev pub given_way : Fate → PlainEvent → PlainEvent
given_way Same e = e
given_way (Linked parents) e = with_parents parents e
given_way (Anew parents) e = begun_anew (with_parents parents e)
given_way (Moved target) e = with_target target e

-- from where a tag or a reset is, and where it goes
abbrev pub target_fate : Option ℕ → Option ℕ → Fate
target_fate old None = Same
target_fate None (Some new) = Same
target_fate (Some old) (Some new) = if old == new then Same else Moved new

module _ (set : List AnyId) (events : List PlainEvent) where
  abbrev pub taken : Takings
  taken = forward_takes set events false lean.Forward

  -- an event that goes is as it was, and any other what is left of it
  abbrev pub fated : PlainEvent → PlainEvent
  fated e = if goes set taken e then e else event_after (parents_after set events taken) taken e

  abbrev pub FateIs : PlainEvent → Fate → Type 0
  FateIs e fate = given_way fate e ≡ fated e

  -- a commit with these parents begins without files
  abbrev pub begins_anew : List ℕ → Bool
  begins_anew parents = is_cut_off set events parents && not (is_none (parents_in_line set events parents))

  -- what becomes of a commit with these parents
  abbrev pub IsCommitFate : List ℕ → Fate → Type 0
  IsCommitFate parents Same = (begins_anew parents ≡ false) × (parents ≡ parents_in_line set events parents)
  IsCommitFate parents (Linked made) = (begins_anew parents ≡ false) × (made ≡ parents_in_line set events parents)
  IsCommitFate parents (Anew made) = (begins_anew parents ≡ true) × (made ≡ parents_in_line set events parents)
  IsCommitFate parents (Moved target) = ⊥

-- one after another
abbrev pub all_given_way : List Fate → List PlainEvent → List PlainEvent
all_given_way fates [] = []
all_given_way [] (e ∷ es) = e ∷ es
all_given_way (fate ∷ fates) (e ∷ es) = given_way fate e ∷ all_given_way fates es
