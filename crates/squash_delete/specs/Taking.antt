-- What a commit that stays takes over from removed ones.
use Rattle.std.specs.Prelude.{ℕ, ◌≡◌, Bool, not, ◌&&◌, List, [], ◌∷◌, ◌++◌, flat_map, map, if◌then◌else◌}
use Rattle.plain_model.specs.declared.operation.FileOp.{FileOp}
use Rattle.plain_model.specs.declared.operation.FileOp.TheVariants.{DeleteAll}
use Rattle.plain_model.specs.declared.event.PlainEvent.{PlainEvent}
use Rattle.plain_model.specs.declared.event.PlainEvent.TheVariants.{Blob, Commit, Tag, Reset, Pass}
use Rattle.plain_model.specs.Paths.{Bytes}
use Rattle.manifest_cache.specs.Walks.{ops_at}
use Rattle.squash_laws.specs.Comments.{comment_of, joined}
use Rattle.squash_laws.specs.Removed.{Takings}
use Rattle.squash_laws.specs.Takings.{is_none}

-- Whether it begins without files, and the commits whose operations and comments come before its own, and after.
pub record Taking : Type 0 where
  pub anew : Bool
  pub before : List ℕ
  pub after : List ℕ

-- the comment of an event, if it is a commit
abbrev pub event_comment : PlainEvent → Bytes
event_comment (Commit id mark branch author committer encoding comment parents ops aliases) = comment
event_comment (Blob id mark bytes) = []
event_comment (Tag id name target tagger comment mark) = []
event_comment (Reset id branch target) = []
event_comment (Pass id line) = []

-- it takes over nothing
abbrev pub is_nothing : Taking → Bool
is_nothing taking = not taking.anew && is_none taking.before && is_none taking.after

module _ (events : List PlainEvent) (taking : Taking) where
  abbrev pub ops_taken : List FileOp → List FileOp
  ops_taken own =
      (if taking.anew then DeleteAll ∷ [] else [])
      ++ (flat_map (ops_at events) taking.before ++ (own ++ flat_map (ops_at events) taking.after))

  abbrev pub comment_taken : Bytes → Bytes
  comment_taken own = joined (map (comment_of events) taking.before ++ own ∷ map (comment_of events) taking.after)

  -- it is what this commit takes over; other events take over nothing
  abbrev pub IsTakenBy : Takings → PlainEvent → Type 0
  IsTakenBy takes (Commit id mark branch author committer encoding comment parents ops aliases) =
      (takes.ops id parents ops ≡ ops_taken ops) × (takes.comment id parents comment ≡ comment_taken comment)
  IsTakenBy takes (Blob id mark bytes) = Unit {0}
  IsTakenBy takes (Tag id name target tagger comment mark) = Unit {0}
  IsTakenBy takes (Reset id branch target) = Unit {0}
  IsTakenBy takes (Pass id line) = Unit {0}
