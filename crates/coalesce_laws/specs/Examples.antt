-- Small histories, and what a coalescing leaves of them, written out.
use Rattle.std.specs.Prelude.{ℕ, List, [], ◌∷◌, codes}
use Rattle.plain_model.specs.declared.operation.FileOp.{FileOp}
use Rattle.plain_model.specs.declared.operation.FileOp.TheVariants.{Delete}
use Rattle.plain_model.specs.declared.event.PlainEvent.{PlainEvent}
use Rattle.plain_model.specs.declared.event.PlainEvent.TheVariants.{Blob}
use Rattle.plain_model.specs.Paths.{Bytes}
use Rattle.history_laws.specs.Examples.{master, put}
use Rattle.squash_laws.specs.Examples.{commit_on, side, tag}

-- commits with the comment `w`, on a branch and on master, with the mark as id, at so many hundred seconds
abbrev pub same_on : Bytes → ℕ → List ℕ → List FileOp → PlainEvent
same_on branch mark parents ops = commit_on branch mark mark (codes "w") parents ops

abbrev pub same : ℕ → List ℕ → List FileOp → PlainEvent
same mark parents ops = same_on master mark parents ops

-- ---- two commits

-- the second of three commits has the comment of the first one
abbrev pub repeated : List PlainEvent
repeated =
    Blob 1 1 (codes "1")
    ∷ same 2 [] (put 1 (codes "f") ∷ [])
    ∷ same 3 (2 ∷ []) (put 1 (codes "g") ∷ [])
    ∷ commit_on master 4 4 (codes "v") (3 ∷ []) (Delete (codes "f") ∷ [])
    ∷ []

-- the two are one
abbrev pub repeated_once : List PlainEvent
repeated_once =
    Blob 1 1 (codes "1")
    ∷ same 3 [] (put 1 (codes "f") ∷ put 1 (codes "g") ∷ [])
    ∷ commit_on master 4 4 (codes "v") (3 ∷ []) (Delete (codes "f") ∷ [])
    ∷ []

-- ---- a chain of three

-- a hundred seconds between each commit and the next, and a tag of the first one
abbrev pub three : List PlainEvent
three =
    Blob 1 1 (codes "1")
    ∷ same 2 [] (put 1 (codes "f") ∷ [])
    ∷ tag 5 5 2
    ∷ same 3 (2 ∷ []) (put 1 (codes "g") ∷ [])
    ∷ same 4 (3 ∷ []) (Delete (codes "f") ∷ [])
    ∷ []

-- the last one has all operations, oldest first; the tag goes to it, and so comes after it
abbrev pub three_once : List PlainEvent
three_once =
    Blob 1 1 (codes "1")
    ∷ same 4 [] (put 1 (codes "f") ∷ put 1 (codes "g") ∷ Delete (codes "f") ∷ [])
    ∷ tag 5 5 4
    ∷ []

-- the last two alone are one
abbrev pub last_two_once : List PlainEvent
last_two_once =
    Blob 1 1 (codes "1")
    ∷ same 2 [] (put 1 (codes "f") ∷ [])
    ∷ tag 5 5 2
    ∷ same 4 (2 ∷ []) (put 1 (codes "g") ∷ Delete (codes "f") ∷ [])
    ∷ []

-- ---- dates that go back

-- a hundred seconds between the second and the third, two hundred between the first and the second
abbrev pub dates_back : List PlainEvent
dates_back =
    Blob 1 1 (codes "1")
    ∷ same 2 [] (put 1 (codes "f") ∷ [])
    ∷ same 4 (2 ∷ []) (put 1 (codes "g") ∷ [])
    ∷ same 3 (4 ∷ []) (Delete (codes "f") ∷ [])
    ∷ []

-- the second goes into the third, which is a hundred seconds from the first
abbrev pub dates_back_once : List PlainEvent
dates_back_once =
    Blob 1 1 (codes "1")
    ∷ same 2 [] (put 1 (codes "f") ∷ [])
    ∷ same 3 (2 ∷ []) (put 1 (codes "g") ∷ Delete (codes "f") ∷ [])
    ∷ []

abbrev pub dates_back_twice : List PlainEvent
dates_back_twice =
    Blob 1 1 (codes "1")
    ∷ same 3 [] (put 1 (codes "f") ∷ put 1 (codes "g") ∷ Delete (codes "f") ∷ [])
    ∷ []

-- ---- commits that aren't joined

-- two children of a commit, all with one comment; the second child has a child on another branch
abbrev pub forked : List PlainEvent
forked =
    Blob 1 1 (codes "1")
    ∷ same 2 [] (put 1 (codes "f") ∷ [])
    ∷ same 3 (2 ∷ []) (put 1 (codes "g") ∷ [])
    ∷ same 4 (2 ∷ []) (put 1 (codes "h") ∷ [])
    ∷ same_on side 5 (4 ∷ []) (Delete (codes "f") ∷ [])
    ∷ []

-- a merge of two roots, with their comment
abbrev pub merged : List PlainEvent
merged =
    Blob 1 1 (codes "1")
    ∷ same 2 [] (put 1 (codes "f") ∷ [])
    ∷ same 3 [] (put 1 (codes "g") ∷ [])
    ∷ same 4 (2 ∷ 3 ∷ []) (put 1 (codes "h") ∷ [])
    ∷ []
