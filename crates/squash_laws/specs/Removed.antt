-- A history without the events of a set: children of a removed commit get what stands for it among their parents, and
-- tags and resets of it move or go. What else becomes of the commits that stay is left open here (reposurgeon manual,
-- `squash`).
use Rattle.std.specs.Prelude.{ℕ, Bool, List, [], ◌∷◌, Option, None, Some, option_map, option_to_list, flat_map, if◌then◌else◌}
use Rattle.plain_model.specs.declared.id.AnyId.{AnyId}
use Rattle.plain_model.specs.declared.id.AnyId.TheVariants as any
use Rattle.plain_model.specs.declared.operation.FileOp.{FileOp}
use Rattle.plain_model.specs.declared.event.PlainEvent.{PlainEvent}
use Rattle.plain_model.specs.declared.event.PlainEvent.TheVariants.{Blob, Commit, Tag, Reset, Pass}
use Rattle.plain_model.specs.Histories.{past}
use Rattle.plain_model.specs.Lookups.{is_listed}
use Rattle.plain_model.specs.Paths.{Bytes}
use Rattle.edit_laws.specs.Removal.{expand_all}
use Rattle.edit_laws.specs.Sweeping.{swept}

-- the commit is one of the set
abbrev pub is_removed : List AnyId → ℕ → Bool
is_removed set c = is_listed (any.Commit c) set

-- what a commit that stays has afterwards: its operations and its comment, from its id and its parents and what it had;
-- and the commit to which a tag or a reset goes, from the one that it was on
pub record Takings : Type 0 where
  pub ops : ℕ → List ℕ → List FileOp → List FileOp
  pub comment : ℕ → List ℕ → Bytes → Bytes
  pub target : ℕ → Option ℕ

module _ (set : List AnyId) (events : List PlainEvent) (takes : Takings) where
  -- the parents that a commit has afterwards
  abbrev pub parents_after : List ℕ → List ℕ
  parents_after parents = expand_all (is_removed set) (past events) parents

  -- What becomes of an event: itself, changed or not, or nothing. Blobs of the set are passed over. A removed commit
  -- takes its aliases with it.
  abbrev pub left_of : PlainEvent → List PlainEvent
  left_of (Commit id mark branch author committer encoding comment parents ops aliases) =
      if is_removed set id then [] else
      Commit id mark branch author committer encoding
      (takes.comment id parents comment) (parents_after parents) (takes.ops id parents ops) aliases ∷ []
  left_of (Tag id name target tagger comment mark) =
      if is_listed (any.Tag id) set then [] else
      option_to_list (option_map (λ t. Tag id name t tagger comment mark) (takes.target target))
  left_of (Reset id branch (Some target)) =
      if is_listed (any.Reset id) set then [] else
      option_to_list (option_map (λ t. Reset id branch (Some t)) (takes.target target))
  left_of (Reset id branch None) = if is_listed (any.Reset id) set then [] else Reset id branch None ∷ []
  left_of (Pass id line) = if is_listed (any.Pass id) set then [] else Pass id line ∷ []
  left_of (Blob id mark bytes) = Blob id mark bytes ∷ []

  -- all that is left, in the order of the list
  abbrev pub all_left : List PlainEvent
  all_left = flat_map left_of events

  -- and without the blobs that nothing names any more
  abbrev pub without_set : List PlainEvent
  without_set = swept events all_left
