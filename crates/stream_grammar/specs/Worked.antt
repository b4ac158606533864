-- What worked texts are made of.
use Rattle.std.specs.Prelude.{ℕ, false, List, [], ◌∷◌, ◌++◌, codes, None, flat_map}
use Rattle.plain_model.specs.declared.event.PlainEvent.{PlainEvent}
use Rattle.plain_model.specs.declared.event.PlainEvent.TheVariants as plain
use Rattle.plain_model.specs.declared.operation.FileOp.{FileOp}
use Rattle.plain_model.specs.declared.person.Signed.{Signed}
use Rattle.plain_model.specs.Paths.{Bytes}

-- a text of lines
abbrev pub lines : List Bytes → Bytes
lines = flat_map (λ line. line ++ 10 ∷ [])

-- who has made all commits here
abbrev pub ann : Signed
ann = record {
  person = record { name = codes "Ann"; email = codes "a@b" };
  when = record { seconds = 1; minus = false; offset = 0 };
}

-- the first lines of a commit on the branch `b`, without a mark
abbrev pub commit_on_b : List Bytes
commit_on_b = codes "commit refs/heads/b" ∷ codes "committer Ann <a@b> 1 +0000" ∷ codes "data 0" ∷ []

-- the commit that such lines and some operations make
abbrev pub of_ann : ℕ → ℕ → List ℕ → List FileOp → PlainEvent
of_ann id mark parents ops = plain.Commit id mark (codes "refs/heads/b") ann ann None [] parents ops []
