-- Events of other kinds.
use Rattle.std.proofs.Common.{◌≡◌, ℕ, List, Option}
use Rattle.plain_model.specs.declared.operation.FileOp.{FileOp}
use Rattle.plain_model.specs.declared.person.Signed.{Signed}
use Rattle.plain_model.specs.declared.event.PlainEvent.{PlainEvent}
use Rattle.plain_model.specs.declared.event.PlainEvent.TheVariants.{Commit, Tag, Reset}
use Rattle.plain_model.specs.Paths.{Bytes}

-- it is no commit, no tag, no reset
abbrev pub NoCommit : PlainEvent → Type 0
NoCommit e =
    (id mark : ℕ) (branch : Bytes) (author committer : Signed) (encoding : Option Bytes) (comment : Bytes) (parents : List ℕ)
    (ops : List FileOp) (aliases : List ℕ)
    → e ≡ Commit id mark branch author committer encoding comment parents ops aliases → ⊥

abbrev pub NoTag : PlainEvent → Type 0
NoTag e =
    (id : ℕ) (name : Bytes) (target : ℕ) (tagger : Option Signed) (comment : Bytes) (mark : Option ℕ)
    → e ≡ Tag id name target tagger comment mark → ⊥

abbrev pub NoReset : PlainEvent → Type 0
NoReset e = (id : ℕ) (branch : Bytes) (target : Option ℕ) → e ≡ Reset id branch target → ⊥
