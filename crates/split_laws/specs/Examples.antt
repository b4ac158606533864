-- Small histories, and what a split leaves of them, written out.
use Rattle.std.specs.Prelude.{ℕ, ◌+◌, ◌*◌, List, [], ◌∷◌, codes, None}
use Rattle.plain_model.specs.declared.operation.FileOp.{FileOp}
use Rattle.plain_model.specs.declared.event.PlainEvent.{PlainEvent}
use Rattle.plain_model.specs.declared.event.PlainEvent.TheVariants.{Blob, Commit}
use Rattle.plain_model.specs.Paths.{Bytes}
use Rattle.history_laws.specs.Examples.{master, put, someone_at}

-- a commit of an id and a mark, its comment and its time those of a mark
abbrev pub commit_as : ℕ → ℕ → ℕ → List ℕ → List FileOp → PlainEvent
commit_as id mark named parents ops = Commit id mark master (someone_at (100 * named)) (someone_at (100 * named)) None (99 ∷ (48 + named) ∷ []) parents ops []

-- ---- split

-- a blob, and a commit that puts it at a file and at another path
abbrev pub two_put_at : Bytes → ℕ → List PlainEvent
two_put_at path mark =
    Blob 1 1 (codes "1")
    ∷ commit_as 2 mark 2 [] (put 1 (codes "f") ∷ put 1 path ∷ [])
    ∷ []

-- two commits, each of which puts it at one
abbrev pub one_by_one_at : Bytes → List PlainEvent
one_by_one_at path =
    Blob 1 1 (codes "1")
    ∷ commit_as 2 2 2 [] (put 1 (codes "f") ∷ [])
    ∷ commit_as 3 3 2 (2 ∷ []) (put 1 path ∷ [])
    ∷ []

-- the same with two files, and with a file in a folder
abbrev pub two_put : ℕ → List PlainEvent
two_put mark = two_put_at (codes "g") mark

abbrev pub put_one_by_one : List PlainEvent
put_one_by_one = one_by_one_at (codes "g")
