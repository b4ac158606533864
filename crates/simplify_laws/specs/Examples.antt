-- Small histories, and what a simplifying leaves of them, written out.
use Rattle.std.specs.Prelude.{List, [], ◌∷◌, codes}
use Rattle.plain_model.specs.declared.id.AnyId.{AnyId}
use Rattle.plain_model.specs.declared.id.AnyId.TheVariants as any
use Rattle.plain_model.specs.declared.operation.FileOp.{FileOp}
use Rattle.plain_model.specs.declared.operation.FileOp.TheVariants.{Copy, Delete, DeleteAll, Rename}
use Rattle.plain_model.specs.declared.event.PlainEvent.{PlainEvent}
use Rattle.plain_model.specs.declared.event.PlainEvent.TheVariants.{Blob}
use Rattle.history_laws.specs.Examples.{commit, put}

-- the commit with the id 3
abbrev pub third : List AnyId
third = any.Commit 3 ∷ []

-- ---- a file that is put twice

abbrev pub put_twice : List PlainEvent
put_twice =
    Blob 1 1 (codes "1")
    ∷ commit 3 3 300 (codes "w") [] (put 1 (codes "f") ∷ put 1 (codes "g") ∷ put 1 (codes "f") ∷ [])
    ∷ commit 4 4 400 (codes "v") (3 ∷ []) (Delete (codes "f") ∷ [])
    ∷ []

-- the last time alone
abbrev pub put_last : List PlainEvent
put_last =
    Blob 1 1 (codes "1")
    ∷ commit 3 3 300 (codes "w") [] (put 1 (codes "g") ∷ put 1 (codes "f") ∷ [])
    ∷ commit 4 4 400 (codes "v") (3 ∷ []) (Delete (codes "f") ∷ [])
    ∷ []

-- ---- two blobs at a file

-- two blobs, and a commit with these operations after one that puts the first blob at f
abbrev pub two_blobs : List FileOp → List PlainEvent
two_blobs ops =
    Blob 1 1 (codes "1")
    ∷ Blob 5 5 (codes "5")
    ∷ commit 2 2 200 (codes "c2") [] (put 1 (codes "f") ∷ [])
    ∷ commit 3 3 300 (codes "c3") (2 ∷ []) ops
    ∷ []

-- the second one comes to g, and is deleted twice and put over
abbrev pub put_over : List FileOp
put_over = put 5 (codes "g") ∷ Delete (codes "g") ∷ Delete (codes "g") ∷ put 1 (codes "g") ∷ []

-- without the second blob
abbrev pub one_blob : List PlainEvent
one_blob =
    Blob 1 1 (codes "1")
    ∷ commit 2 2 200 (codes "c2") [] (put 1 (codes "f") ∷ [])
    ∷ commit 3 3 300 (codes "c3") (2 ∷ []) (put 1 (codes "g") ∷ [])
    ∷ []

-- a rename between the two puts takes the first one away
abbrev pub renamed_between : List FileOp
renamed_between = put 5 (codes "g") ∷ Rename (codes "g") (codes "h") ∷ put 1 (codes "g") ∷ []

-- a deletion of a folder, and a file that is put below it
abbrev pub put_below : List FileOp
put_below = Delete (codes "d") ∷ put 5 (codes "d/g") ∷ []

-- a file that is put below another one takes that away, and goes again
abbrev pub put_and_deleted : List FileOp
put_and_deleted = put 5 (codes "f/g") ∷ Delete (codes "f/g") ∷ []

-- all files go twice, with a copy before the first time and a put before the second, and one file comes
abbrev pub begun_anew : List FileOp
begun_anew = Copy (codes "f") (codes "k") ∷ DeleteAll ∷ put 1 (codes "h") ∷ DeleteAll ∷ put 5 (codes "g") ∷ []

abbrev pub anew_at_once : List FileOp
anew_at_once = DeleteAll ∷ put 5 (codes "g") ∷ []

-- ---- room

-- a folder gives way to a file of its name, and another file comes in between
abbrev pub folder_goes : List FileOp
folder_goes = Delete (codes "d") ∷ put 1 (codes "e") ∷ put 1 (codes "d") ∷ []

-- the other file comes while the folder is there
abbrev pub folder_goes_last : List FileOp
folder_goes_last = put 1 (codes "e") ∷ put 1 (codes "d") ∷ []

-- a commit with these operations after one with two files in the folder
abbrev pub foldered : List FileOp → List PlainEvent
foldered ops =
    Blob 1 1 (codes "1")
    ∷ commit 2 2 200 (codes "c2") [] (put 1 (codes "d/a") ∷ put 1 (codes "d/b") ∷ [])
    ∷ commit 3 3 300 (codes "c3") (2 ∷ []) ops
    ∷ []
