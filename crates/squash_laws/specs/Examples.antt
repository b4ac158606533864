-- Small histories, and what a squash leaves of them or why it is refused, written out.
use Rattle.std.specs.Prelude.{ℕ, ◌+◌, ◌*◌, List, [], ◌∷◌, ◌++◌, codes, None, Some}
use Rattle.plain_model.specs.declared.id.AnyId.{AnyId}
use Rattle.plain_model.specs.declared.id.AnyId.TheVariants as any
use Rattle.plain_model.specs.declared.operation.FileOp.{FileOp}
use Rattle.plain_model.specs.declared.operation.FileOp.TheVariants.{Delete, Rename, DeleteAll}
use Rattle.plain_model.specs.declared.event.PlainEvent.{PlainEvent}
use Rattle.plain_model.specs.declared.event.PlainEvent.TheVariants.{Blob, Commit, Tag, Reset, Pass}
use Rattle.plain_model.specs.Paths.{Bytes}
use Rattle.history_laws.specs.Examples.{master, put, someone_at}
use Rattle.plain_model.specs.declared.policy.Lean.TheVariants as lean
use Rattle.plain_model.specs.declared.policy.Push.TheVariants as push
use Rattle.plain_model.specs.declared.policy.Policy.{Policy}

-- ---- words

-- a commit of a mark below 10, at so many hundred seconds
abbrev pub commit_on : Bytes → ℕ → ℕ → Bytes → List ℕ → List FileOp → PlainEvent
commit_on branch id mark comment parents ops =
    Commit id mark branch (someone_at (100 * mark)) (someone_at (100 * mark)) None comment parents ops []

-- the comment `c` and the mark
abbrev pub named : ℕ → Bytes
named mark = 99 ∷ (48 + mark) ∷ []

-- two of them joined
abbrev pub two_named : ℕ → ℕ → Bytes
two_named one other = named one ++ 10 ∷ named other

abbrev pub side : Bytes
side = codes "refs/heads/side"

abbrev pub commit : ℕ → ℕ → List ℕ → List FileOp → PlainEvent
commit id mark parents ops = commit_on master id mark (named mark) parents ops

-- a tag of a commit, with the id and the mark of the tag
abbrev pub tag : ℕ → ℕ → ℕ → PlainEvent
tag id mark target = Tag id (codes "v1") target None (codes "t") (Some mark)

abbrev pub forward_how : Policy
forward_how = record { push = push.Forward; tags = lean.Forward }

abbrev pub tags_back_how : Policy
tags_back_how = record { push = push.Forward; tags = lean.Back }

abbrev pub back_how : Policy
back_how = record { push = push.Back; tags = lean.Forward }

-- the commits with these ids
abbrev pub commits : List ℕ → List AnyId
commits [] = []
commits (c ∷ cs) = any.Commit c ∷ commits cs

-- ---- a fork

-- two children of a commit, and a child of one of them
abbrev pub fork : List PlainEvent
fork =
    Blob 1 1 (codes "1")
    ∷ commit 2 2 [] (put 1 (codes "f") ∷ [])
    ∷ commit 3 3 (2 ∷ []) (put 1 (codes "g") ∷ [])
    ∷ commit 4 4 (3 ∷ []) (Delete (codes "f") ∷ [])
    ∷ commit 5 5 (3 ∷ []) (put 1 (codes "h") ∷ [])
    ∷ commit 6 6 (5 ∷ []) (Delete (codes "g") ∷ [])
    ∷ []

-- without the commit before the fork: both children have what it did
abbrev pub fork_without_3 : List PlainEvent
fork_without_3 =
    Blob 1 1 (codes "1")
    ∷ commit 2 2 [] (put 1 (codes "f") ∷ [])
    ∷ commit_on master 4 4 (two_named 3 4) (2 ∷ []) (put 1 (codes "g") ∷ Delete (codes "f") ∷ [])
    ∷ commit_on master 5 5 (two_named 3 5) (2 ∷ []) (put 1 (codes "g") ∷ put 1 (codes "h") ∷ [])
    ∷ commit 6 6 (5 ∷ []) (Delete (codes "g") ∷ [])
    ∷ []

-- its last commit pushed back
abbrev pub fork_6_back : List PlainEvent
fork_6_back =
    Blob 1 1 (codes "1")
    ∷ commit 2 2 [] (put 1 (codes "f") ∷ [])
    ∷ commit 3 3 (2 ∷ []) (put 1 (codes "g") ∷ [])
    ∷ commit 4 4 (3 ∷ []) (Delete (codes "f") ∷ [])
    ∷ commit_on master 5 5 (two_named 5 6) (3 ∷ []) (put 1 (codes "h") ∷ Delete (codes "g") ∷ [])
    ∷ []

-- ---- a merge of two roots

abbrev pub two_roots : List PlainEvent
two_roots =
    Blob 1 1 (codes "1")
    ∷ Blob 2 5 (codes "5")
    ∷ commit 3 2 [] (put 1 (codes "f") ∷ [])
    ∷ commit_on side 4 3 (named 3) [] (put 2 (codes "g") ∷ [])
    ∷ commit 5 4 (3 ∷ 4 ∷ []) (put 1 (codes "h") ∷ [])
    ∷ commit 6 6 (5 ∷ []) (Delete (codes "f") ∷ [])
    ∷ []

-- without the first root: the merge begins without files
abbrev pub without_one_root : List PlainEvent
without_one_root =
    Blob 1 1 (codes "1")
    ∷ Blob 2 5 (codes "5")
    ∷ commit_on side 4 3 (named 3) [] (put 2 (codes "g") ∷ [])
    ∷ commit_on master 5 4 (two_named 2 4) (4 ∷ []) (DeleteAll ∷ put 1 (codes "f") ∷ put 1 (codes "h") ∷ [])
    ∷ commit 6 6 (5 ∷ []) (Delete (codes "f") ∷ [])
    ∷ []

-- without both: the merge is a root, and the blob of the second one is swept
abbrev pub without_both_roots : List PlainEvent
without_both_roots =
    Blob 1 1 (codes "1")
    ∷ commit_on master 5 4 (two_named 2 4) [] (put 1 (codes "f") ∷ put 1 (codes "h") ∷ [])
    ∷ commit 6 6 (5 ∷ []) (Delete (codes "f") ∷ [])
    ∷ []

-- ---- a rename

-- the last commit renames what the one before it put in
abbrev pub renamed : List PlainEvent
renamed =
    Blob 1 1 (codes "1")
    ∷ commit 2 2 [] (put 1 (codes "f") ∷ [])
    ∷ commit 3 3 (2 ∷ []) (put 1 (codes "g") ∷ [])
    ∷ commit 4 4 (3 ∷ []) (Rename (codes "g") (codes "h") ∷ [])
    ∷ []

-- ---- a tag

-- a line of three commits, and a tag of one of them
abbrev pub tagged : ℕ → List PlainEvent
tagged target =
    commit 1 1 [] []
    ∷ commit 2 2 (1 ∷ []) []
    ∷ commit 3 3 (2 ∷ []) []
    ∷ tag 4 4 target
    ∷ []

-- without the first, the middle or the last commit, with the tag of one that stays
abbrev pub without_first : ℕ → List PlainEvent
without_first target = commit_on master 2 2 (two_named 1 2) [] [] ∷ commit 3 3 (2 ∷ []) [] ∷ tag 4 4 target ∷ []

abbrev pub without_middle : ℕ → List PlainEvent
without_middle target = commit 1 1 [] [] ∷ commit_on master 3 3 (two_named 2 3) (1 ∷ []) [] ∷ tag 4 4 target ∷ []

abbrev pub without_last : ℕ → List PlainEvent
without_last target = commit 1 1 [] [] ∷ commit 2 2 (1 ∷ []) [] ∷ tag 4 4 target ∷ []

-- ---- each kind of event

-- a fork that is merged again, between a reset that removes a branch, one that sets a branch, a tag and a passed line
abbrev pub each_kind : List PlainEvent
each_kind =
    Blob 1 1 (codes "hello")
    ∷ Reset 2 master None
    ∷ commit 3 2 [] (put 1 (codes "README") ∷ [])
    ∷ Blob 4 3 (codes "lib")
    ∷ commit_on side 5 4 (named 4) (3 ∷ []) (put 4 (codes "lib.c") ∷ [])
    ∷ commit 6 5 (3 ∷ []) (put 1 (codes "sub") ∷ [])
    ∷ commit 7 6 (6 ∷ 5 ∷ []) (put 4 (codes "lib.c") ∷ [])
    ∷ Reset 8 (codes "refs/tags/light") (Some 7)
    ∷ tag 9 9 7
    ∷ Pass 10 (codes "checkpoint")
    ∷ []
