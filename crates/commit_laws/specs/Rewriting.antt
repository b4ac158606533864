-- One commit of a history gets other parents and other operations, and all else stays. (own)
use Rattle.std.specs.Prelude.{ℕ, ◌==◌, List, map, if◌then◌else◌}
use Rattle.plain_model.specs.declared.operation.FileOp.{FileOp}
use Rattle.plain_model.specs.declared.event.PlainEvent.{PlainEvent}
use Rattle.plain_model.specs.declared.event.PlainEvent.TheVariants.{Blob, Commit, Tag, Reset, Pass}

-- what the commit has after the change, from its parents and its operations before
pub record Rewrite : Type 0 where
  pub parents : List ℕ → List ℕ
  pub ops : List ℕ → List FileOp → List FileOp

module _ (c : ℕ) (how : Rewrite) where
  abbrev pub rewritten : PlainEvent → PlainEvent
  rewritten (Commit id mark branch author committer encoding comment parents ops aliases) =
      if id == c then Commit id mark branch author committer encoding comment (how.parents parents) (how.ops parents ops) aliases
      else Commit id mark branch author committer encoding comment parents ops aliases
  rewritten (Blob id mark bytes) = Blob id mark bytes
  rewritten (Tag id name target tagger comment mark) = Tag id name target tagger comment mark
  rewritten (Reset id branch target) = Reset id branch target
  rewritten (Pass id line) = Pass id line

  abbrev pub rewritten_all : List PlainEvent → List PlainEvent
  rewritten_all events = map rewritten events
