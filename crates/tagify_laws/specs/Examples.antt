-- Small histories, and what a `tagify` leaves of them, written out.
use Rattle.std.specs.Prelude.{ℕ, ◌*◌, ◌+◌, List, [], ◌∷◌, ◌++◌, codes, Some, None}
use Rattle.plain_model.specs.declared.operation.FileOp.TheVariants.{Delete}
use Rattle.plain_model.specs.declared.event.PlainEvent.{PlainEvent}
use Rattle.plain_model.specs.declared.event.PlainEvent.TheVariants.{Blob, Tag, Reset}
use Rattle.history_laws.specs.Examples.{put, someone_at}
use Rattle.squash_laws.specs.Examples.{commit, commit_on, named, side, tag}

-- the tag that a commit of a mark below 10 becomes, under an id, on a commit
abbrev pub empty_tag : ℕ → ℕ → ℕ → PlainEvent
empty_tag id mark target =
    Tag id (codes "emptycommit-" ++ (48 + mark) ∷ []) target (Some (someone_at (100 * mark))) (named mark) None

-- ---- a commit in the middle does nothing

abbrev pub idle_middle : List PlainEvent
idle_middle =
    Blob 1 1 (codes "1")
    ∷ commit 2 2 [] (put 1 (codes "f") ∷ [])
    ∷ commit 3 3 (2 ∷ []) []
    ∷ commit 4 4 (3 ∷ []) (Delete (codes "f") ∷ [])
    ∷ []

-- its tag is in its place
abbrev pub middle_tagged : List PlainEvent
middle_tagged =
    Blob 1 1 (codes "1")
    ∷ commit 2 2 [] (put 1 (codes "f") ∷ [])
    ∷ empty_tag 5 3 2
    ∷ commit 4 4 (2 ∷ []) (Delete (codes "f") ∷ [])
    ∷ []

-- the same history, whose last commit has lost its operation
abbrev pub idle_last : List PlainEvent
idle_last =
    Blob 1 1 (codes "1")
    ∷ commit 2 2 [] (put 1 (codes "f") ∷ [])
    ∷ empty_tag 5 3 2
    ∷ commit 4 4 (2 ∷ []) []
    ∷ []

abbrev pub both_tagged : List PlainEvent
both_tagged =
    Blob 1 1 (codes "1")
    ∷ commit 2 2 [] (put 1 (codes "f") ∷ [])
    ∷ empty_tag 5 3 2
    ∷ empty_tag 6 4 2
    ∷ []

-- ---- a line of them, with all that can be on one

-- a root that does nothing, two commits that do nothing, a tag, a reset and a fork on the second one, and a merge of
-- the fork that does nothing either
abbrev pub idle_line : List PlainEvent
idle_line =
    commit 1 1 [] []
    ∷ commit 2 2 (1 ∷ []) []
    ∷ commit 3 3 (2 ∷ []) []
    ∷ tag 4 4 3
    ∷ Reset 5 side (Some 3)
    ∷ Blob 6 5 (codes "1")
    ∷ commit 7 6 (3 ∷ []) (put 6 (codes "f") ∷ [])
    ∷ commit_on side 8 7 (named 7) (3 ∷ []) (put 6 (codes "g") ∷ [])
    ∷ commit 9 8 (7 ∷ 8 ∷ []) []
    ∷ []

-- the root and the merge stay, and all else is on the root
abbrev pub line_tagged : List PlainEvent
line_tagged =
    commit 1 1 [] []
    ∷ empty_tag 10 2 1
    ∷ empty_tag 11 3 1
    ∷ tag 4 4 1
    ∷ Reset 5 side (Some 1)
    ∷ Blob 6 5 (codes "1")
    ∷ commit 7 6 (1 ∷ []) (put 6 (codes "f") ∷ [])
    ∷ commit_on side 8 7 (named 7) (1 ∷ []) (put 6 (codes "g") ∷ [])
    ∷ commit 9 8 (7 ∷ 8 ∷ []) []
    ∷ []

-- ---- a merge whose parents become one

abbrev pub idle_sides : List PlainEvent
idle_sides =
    commit 1 1 [] []
    ∷ commit 2 2 (1 ∷ []) []
    ∷ commit_on side 3 3 (named 3) (1 ∷ []) []
    ∷ commit 4 4 (2 ∷ 3 ∷ []) []
    ∷ []

abbrev pub sides_tagged : List PlainEvent
sides_tagged =
    commit 1 1 [] []
    ∷ empty_tag 5 2 1
    ∷ empty_tag 6 3 1
    ∷ commit 4 4 (1 ∷ []) []
    ∷ []

-- ---- a name that is taken

-- two commits that do nothing, and a tag that has the name of the second one, though it will move
abbrev pub name_taken : List PlainEvent
name_taken =
    commit 1 1 [] []
    ∷ commit 2 2 (1 ∷ []) []
    ∷ commit 3 3 (2 ∷ []) []
    ∷ Tag 4 (codes "emptycommit-3") 3 None [] None
    ∷ []
