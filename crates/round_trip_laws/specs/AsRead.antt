-- Histories as reading gives them: what holds of each besides its soundness, so that what is written of it is
-- read again as it (git-fast-import, "Input format"; ids by place: own).
use Rattle.std.specs.Prelude.{List, [], ◌∷◌, ◌++◌, IsFalse}
use Rattle.plain_model.specs.declared.event.PlainEvent.{PlainEvent}
use Rattle.plain_model.specs.declared.event.PlainEvent.TheVariants.{Commit}
use Rattle.plain_model.specs.Snapshots.{refs}
use Rattle.plain_model.specs.Soundness.{IsSound}
use Rattle.plain_model.specs.Trees.{has}
use Rattle.history_laws.specs.Placed.{ArePlaced}

-- ---- roots

-- a commit without parents is where its branch has no tip
abbrev pub IsRooted : List PlainEvent → PlainEvent → Type 0
IsRooted earlier (Commit id mark branch author committer encoding comment [] ops aliases) = IsFalse (has (refs earlier) branch)
IsRooted earlier other = Unit {0}

abbrev pub AreRootedAfter : List PlainEvent → List PlainEvent → Type 0
AreRootedAfter earlier [] = Unit {0}
AreRootedAfter earlier (e ∷ events) = IsRooted earlier e × AreRootedAfter (earlier ++ e ∷ []) events

-- ---- the whole history

-- sound; ids are places from 1; and no root needs a reset before it
pub record IsAsRead (events : List PlainEvent) : Type 0 where
  pub sound : IsSound events
  pub placed : ArePlaced 1 events
  pub rooted : AreRootedAfter [] events
