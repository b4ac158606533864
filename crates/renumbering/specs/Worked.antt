-- A worked history whose marks aren't in order, and what renumbering makes of it.
use Rattle.std.specs.Prelude.{ℕ, List, [], ◌∷◌, Some, None, codes, false}
use Rattle.plain_model.specs.declared.operation.Content.TheVariants.{Blob as OfBlob}
use Rattle.plain_model.specs.declared.operation.FileOp.{FileOp}
use Rattle.plain_model.specs.declared.operation.FileOp.TheVariants.{Modify}
use Rattle.plain_model.specs.declared.operation.Mode.TheVariants.{Plain}
use Rattle.plain_model.specs.declared.person.Signed.{Signed}
use Rattle.plain_model.specs.Paths.{Bytes}
use Rattle.plain_model.specs.declared.event.PlainEvent.{PlainEvent}
use Rattle.plain_model.specs.declared.event.PlainEvent.TheVariants.{Blob, Commit, Tag, Reset, Pass}

abbrev pub ann : Signed
ann = record { person = record { name = codes "Ann"; email = codes "a@x" }; when = record { seconds = 100; minus = false; offset = 0 } }

-- a commit of Ann's
abbrev pub commit : ℕ → ℕ → List ℕ → List ℕ → List FileOp → PlainEvent
commit id mark aliases parents ops = Commit id mark (codes "main") ann ann None (codes "why") parents ops aliases

-- an operation that puts a plain file
abbrev pub put_in : ℕ → Bytes → FileOp
put_in blob path = Modify Plain (OfBlob blob) path

-- with these marks, in the order of the list: two blobs, a root that names both and has an alias, a line that is passed
-- through, two tags of the root of which the second has a mark, a child, and a reset to it
abbrev pub with_the_marks : ℕ → ℕ → ℕ → ℕ → ℕ → ℕ → List PlainEvent
with_the_marks one two root alias tag child =
    Blob 1 one (codes "x")
    ∷ Blob 2 two (codes "y")
    ∷ commit 3 root (alias ∷ []) [] (put_in 1 (codes "f") ∷ put_in 2 (codes "g") ∷ [])
    ∷ Pass 4 (codes "checkpoint")
    ∷ Tag 5 (codes "v1") 3 None (codes "first") None
    ∷ Tag 6 (codes "v2") 3 None (codes "second") (Some tag)
    ∷ commit 7 child [] (3 ∷ []) []
    ∷ Reset 8 (codes "side") (Some 7)
    ∷ []

-- the marks fall, with gaps
abbrev pub falling : List PlainEvent
falling = with_the_marks 40 30 20 15 10 5

-- the marks are 1, 2, 3, ..
abbrev pub counted : List PlainEvent
counted = with_the_marks 1 2 3 4 5 6
