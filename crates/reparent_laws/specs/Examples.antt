-- Small histories, and what a change of one commit leaves of them, written out.
use Rattle.std.specs.Prelude.{ℕ, ◌+◌, ◌*◌, List, [], ◌∷◌, codes, None}
use Rattle.plain_model.specs.declared.id.AnyId.{AnyId}
use Rattle.plain_model.specs.declared.id.AnyId.TheVariants as any
use Rattle.plain_model.specs.declared.operation.FileOp.{FileOp}
use Rattle.plain_model.specs.declared.operation.FileOp.TheVariants.{Rename, DeleteAll}
use Rattle.plain_model.specs.declared.event.PlainEvent.{PlainEvent}
use Rattle.plain_model.specs.declared.event.PlainEvent.TheVariants.{Blob, Commit}
use Rattle.plain_model.specs.Paths.{Bytes}
use Rattle.history_laws.specs.Examples.{master, put, someone_at}

-- a commit whose mark is its id, below 10, at so many hundred seconds and with the comment `c` and its mark
abbrev pub commit_on : Bytes → ℕ → List ℕ → List FileOp → PlainEvent
commit_on branch id parents ops =
    Commit id id branch (someone_at (100 * id)) (someone_at (100 * id)) None (99 ∷ (48 + id) ∷ []) parents ops []

-- the commits with these ids
abbrev pub commits : List ℕ → List AnyId
commits [] = []
commits (c ∷ cs) = any.Commit c ∷ commits cs

-- ---- a side branch

-- two commits, then one on another branch, and one more
abbrev pub forked : List ℕ → List FileOp → List ℕ → List FileOp → List PlainEvent
forked side_parents side_ops parents ops =
    Blob 1 1 (codes "1")
    ∷ commit_on master 2 [] (put 1 (codes "f") ∷ [])
    ∷ commit_on master 3 (2 ∷ []) (put 1 (codes "g") ∷ [])
    ∷ commit_on (codes "refs/heads/side") 4 side_parents side_ops
    ∷ commit_on master 5 parents ops
    ∷ []

-- the one on the other branch is a root, and the last one has these parents and operations
abbrev pub beside : List ℕ → List FileOp → List PlainEvent
beside parents ops = forked [] (put 1 (codes "k") ∷ []) parents ops

-- a line of three, and the root beside it
abbrev pub two_roots : List PlainEvent
two_roots = beside (3 ∷ []) (put 1 (codes "h") ∷ [])

-- the last commit has the other root as one parent more
abbrev pub merged : List PlainEvent
merged = beside (3 ∷ 4 ∷ []) (put 1 (codes "h") ∷ [])

-- the other root has a parent, and begins without files
abbrev pub root_merged : List PlainEvent
root_merged = forked (3 ∷ []) (DeleteAll ∷ put 1 (codes "k") ∷ []) (3 ∷ []) (put 1 (codes "h") ∷ [])

-- the other root comes after the last commit, which is its parent, and has the tree that it had
abbrev pub root_last : List PlainEvent
root_last =
    Blob 1 1 (codes "1")
    ∷ commit_on master 2 [] (put 1 (codes "f") ∷ [])
    ∷ commit_on master 3 (2 ∷ []) (put 1 (codes "g") ∷ [])
    ∷ commit_on master 5 (3 ∷ []) (put 1 (codes "h") ∷ [])
    ∷ commit_on (codes "refs/heads/side") 4 (5 ∷ []) (DeleteAll ∷ put 1 (codes "k") ∷ [])
    ∷ []

-- the tree of the third commit, and what the last one puts
abbrev pub all_puts : List FileOp
all_puts = DeleteAll ∷ put 1 (codes "f") ∷ put 1 (codes "g") ∷ put 1 (codes "h") ∷ []

-- the last commit is on the other root, with the tree that it had
abbrev pub moved : List PlainEvent
moved = beside (4 ∷ []) all_puts

-- it is a root itself, with that tree
abbrev pub alone : List PlainEvent
alone = beside [] all_puts

-- it is where it was, with the operations that it got
abbrev pub moved_back : List PlainEvent
moved_back = beside (3 ∷ []) all_puts

-- ---- single operations

-- two commits in a line, the second with these operations
abbrev pub two_with : List FileOp → List PlainEvent
two_with ops =
    Blob 1 1 (codes "1")
    ∷ commit_on master 2 [] (put 1 (codes "f") ∷ [])
    ∷ commit_on master 3 (2 ∷ []) ops
    ∷ []

abbrev pub one_put : List PlainEvent
one_put = two_with (put 1 (codes "g") ∷ [])

-- a rename comes last
abbrev pub put_and_renamed : List PlainEvent
put_and_renamed = two_with (put 1 (codes "g") ∷ Rename (codes "f") (codes "h") ∷ [])

-- ---- blobs

-- a commit that puts one blob, and another blob
abbrev pub blob_last : List PlainEvent
blob_last =
    Blob 1 1 (codes "1")
    ∷ commit_on master 2 [] (put 1 (codes "f") ∷ [])
    ∷ Blob 3 3 (codes "3")
    ∷ []

-- the commit puts both
abbrev pub both_put : List PlainEvent
both_put =
    Blob 1 1 (codes "1")
    ∷ Blob 3 3 (codes "3")
    ∷ commit_on master 2 [] (put 1 (codes "f") ∷ put 3 (codes "g") ∷ [])
    ∷ []

-- the first blob is gone
abbrev pub first_gone : List PlainEvent
first_gone =
    Blob 3 3 (codes "3")
    ∷ commit_on master 2 [] (put 3 (codes "g") ∷ [])
    ∷ []
