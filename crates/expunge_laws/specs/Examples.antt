-- Small histories, and what an expunge leaves of them, written out.
use Rattle.std.specs.Prelude.{Bool, List, [], ◌∷◌, codes, bytes_eq, None, Some}
use Rattle.plain_model.specs.declared.operation.FileOp.TheVariants.{Delete, Copy, Rename, DeleteAll}
use Rattle.plain_model.specs.declared.event.PlainEvent.{PlainEvent}
use Rattle.plain_model.specs.declared.event.PlainEvent.TheVariants.{Blob, Commit, Reset}
use Rattle.plain_model.specs.Paths.{Bytes}
use Rattle.history_laws.specs.Examples.{put, someone_at}
use Rattle.squash_laws.specs.Examples.{commit, commit_on, named, side, tag}

-- this path alone
abbrev pub only : Bytes → Bytes → Bool
only path p = bytes_eq path p

-- ---- a file at a path that is matched, and then at another

-- the file `secret` is renamed, and another one takes its name
abbrev pub carried_out : List PlainEvent
carried_out =
    Blob 1 1 (codes "1")
    ∷ Blob 2 2 (codes "2")
    ∷ Blob 3 3 (codes "3")
    ∷ commit 4 4 [] (put 1 (codes "secret") ∷ put 2 (codes "keep") ∷ [])
    ∷ commit 5 5 (4 ∷ []) (Rename (codes "secret") (codes "public") ∷ [])
    ∷ commit 6 6 (5 ∷ []) (Rename (codes "keep") (codes "secret") ∷ put 3 (codes "z") ∷ [])
    ∷ []

-- what the first rename carried out is put, and what the second one took is deleted
abbrev pub without_secret : List PlainEvent
without_secret =
    Blob 1 1 (codes "1")
    ∷ Blob 2 2 (codes "2")
    ∷ Blob 3 3 (codes "3")
    ∷ commit 4 4 [] (put 2 (codes "keep") ∷ [])
    ∷ commit 5 5 (4 ∷ []) (put 1 (codes "public") ∷ [])
    ∷ commit 6 6 (5 ∷ []) (Delete (codes "keep") ∷ put 3 (codes "z") ∷ [])
    ∷ []

-- the blob of `z` goes with it
abbrev pub without_both : List PlainEvent
without_both =
    Blob 1 1 (codes "1")
    ∷ Blob 2 2 (codes "2")
    ∷ commit 4 4 [] (put 2 (codes "keep") ∷ [])
    ∷ commit 5 5 (4 ∷ []) (put 1 (codes "public") ∷ [])
    ∷ commit 6 6 (5 ∷ []) (Delete (codes "keep") ∷ [])
    ∷ []

-- ---- a commit in the middle is emptied

abbrev pub middle : List PlainEvent
middle =
    Blob 1 1 (codes "1")
    ∷ Blob 2 2 (codes "2")
    ∷ commit 3 3 [] (put 1 (codes "a") ∷ [])
    ∷ commit 4 4 (3 ∷ []) (put 2 (codes "s") ∷ [])
    ∷ commit 5 5 (4 ∷ []) (put 1 (codes "b") ∷ [])
    ∷ tag 6 6 4
    ∷ []

-- its tag goes to its child
abbrev pub without_middle : List PlainEvent
without_middle =
    Blob 1 1 (codes "1")
    ∷ commit 3 3 [] (put 1 (codes "a") ∷ [])
    ∷ commit 5 5 (3 ∷ []) (put 1 (codes "b") ∷ [])
    ∷ tag 6 6 5
    ∷ []

-- ---- a root before a merge is emptied

abbrev pub two_roots : List PlainEvent
two_roots =
    Blob 1 1 (codes "1")
    ∷ Blob 2 2 (codes "2")
    ∷ commit 3 3 [] (put 1 (codes "s") ∷ [])
    ∷ commit_on side 4 4 (named 4) [] (put 2 (codes "g") ∷ [])
    ∷ commit 5 5 (3 ∷ 4 ∷ []) (put 2 (codes "h") ∷ [])
    ∷ []

-- the merge begins without files
abbrev pub without_root : List PlainEvent
without_root =
    Blob 2 2 (codes "2")
    ∷ commit_on side 4 4 (named 4) [] (put 2 (codes "g") ∷ [])
    ∷ commit 5 5 (4 ∷ []) (DeleteAll ∷ put 2 (codes "h") ∷ [])
    ∷ []

-- ---- folders and copies

-- a file gives way to one in a folder of its name, which gives way to a file again
abbrev pub folder_over_file : List PlainEvent
folder_over_file =
    Blob 1 1 (codes "1")
    ∷ commit 2 2 [] (put 1 (codes "a") ∷ put 1 (codes "k") ∷ [])
    ∷ commit 3 3 (2 ∷ []) (put 1 (codes "a/s") ∷ [])
    ∷ commit 4 4 (3 ∷ []) (Copy (codes "k") (codes "a") ∷ [])
    ∷ []

-- the first file goes, though nothing comes in its place
abbrev pub folder_left_out : List PlainEvent
folder_left_out =
    Blob 1 1 (codes "1")
    ∷ commit 2 2 [] (put 1 (codes "a") ∷ put 1 (codes "k") ∷ [])
    ∷ commit 3 3 (2 ∷ []) (Delete (codes "a") ∷ [])
    ∷ commit 4 4 (3 ∷ []) (Copy (codes "k") (codes "a") ∷ [])
    ∷ []

-- a folder is copied with a file `d/s` in it, and then deleted
abbrev pub copied : List PlainEvent
copied =
    Blob 1 1 (codes "1")
    ∷ commit 2 2 [] (put 1 (codes "d/k") ∷ put 1 (codes "d/s") ∷ [])
    ∷ commit 3 3 (2 ∷ []) (Copy (codes "d") (codes "e") ∷ [])
    ∷ commit 4 4 (3 ∷ []) (Delete (codes "d") ∷ [])
    ∷ []

-- the copy of the file stays, at its other path
abbrev pub copied_out : List PlainEvent
copied_out =
    Blob 1 1 (codes "1")
    ∷ commit 2 2 [] (put 1 (codes "d/k") ∷ [])
    ∷ commit 3 3 (2 ∷ []) (put 1 (codes "e/k") ∷ put 1 (codes "e/s") ∷ [])
    ∷ commit 4 4 (3 ∷ []) (Delete (codes "d") ∷ [])
    ∷ []

-- ---- merges, and commits that did nothing

-- a merge that puts one file, after a commit that does nothing
abbrev pub merged : List PlainEvent
merged =
    Blob 1 1 (codes "1")
    ∷ commit 2 2 [] []
    ∷ commit_on side 3 3 (named 3) [] (put 1 (codes "g") ∷ [])
    ∷ commit 4 4 (2 ∷ 3 ∷ []) (put 1 (codes "s") ∷ [])
    ∷ []

-- both stay
abbrev pub still_merged : List PlainEvent
still_merged =
    Blob 1 1 (codes "1")
    ∷ commit 2 2 [] []
    ∷ commit_on side 3 3 (named 3) [] (put 1 (codes "g") ∷ [])
    ∷ commit 4 4 (2 ∷ 3 ∷ []) []
    ∷ []

-- ---- a branch of one commit

-- a root with an alias on a branch of its own, with a tag and a reset
abbrev pub beside : List PlainEvent
beside =
    Blob 1 1 (codes "1")
    ∷ commit 2 2 [] (put 1 (codes "g") ∷ [])
    ∷ Commit 3 3 side (someone_at 300) (someone_at 300) None (codes "c3") [] (put 1 (codes "s") ∷ []) (7 ∷ [])
    ∷ tag 4 4 3
    ∷ Reset 5 side (Some 3)
    ∷ []

-- nothing of the branch is left
abbrev pub not_beside : List PlainEvent
not_beside = Blob 1 1 (codes "1") ∷ commit 2 2 [] (put 1 (codes "g") ∷ []) ∷ []
