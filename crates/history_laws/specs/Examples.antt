-- Small histories, their trees, and what is written of them, written out.
use Rattle.std.specs.Prelude.{ℕ, false, List, [], ◌∷◌, flat_map, codes, Option, Some, None}
use Rattle.plain_model.specs.declared.operation.Mode.TheVariants.{Plain}
use Rattle.plain_model.specs.declared.operation.Content.TheVariants.{Blob as OfBlob}
use Rattle.plain_model.specs.declared.operation.FileOp.{FileOp}
use Rattle.plain_model.specs.declared.operation.FileOp.TheVariants.{Modify, Copy, Rename}
use Rattle.plain_model.specs.declared.person.Signed.{Signed}
use Rattle.plain_model.specs.declared.event.PlainEvent.{PlainEvent}
use Rattle.plain_model.specs.declared.event.PlainEvent.TheVariants.{Blob, Commit, Reset}
use Rattle.plain_model.specs.Paths.{Bytes}
use Rattle.plain_model.specs.Trees.{Tree}
use Rattle.plain_model.specs.Text.{line}

-- ---- words

-- each line ended
abbrev pub lines : List Bytes → Bytes
lines each = flat_map line each

abbrev pub master : Bytes
master = codes "refs/heads/master"

-- A <a@x>, so many seconds after the beginning of 1970
abbrev pub someone_at : ℕ → Signed
someone_at seconds = record {
  person = record { name = codes "A"; email = codes "a@x" };
  when = record { seconds = seconds; minus = false; offset = 0 };
}

-- a commit on master
abbrev pub commit : ℕ → ℕ → ℕ → Bytes → List ℕ → List FileOp → PlainEvent
commit id mark seconds comment parents ops = Commit id mark master (someone_at seconds) (someone_at seconds) None comment parents ops []

-- the blob with the id comes to a path
abbrev pub put : ℕ → Bytes → FileOp
put blob path = Modify Plain (OfBlob blob) path

-- ---- a file where a folder was

-- a blob, and three commits with these operations
abbrev pub in_turn : FileOp → FileOp → FileOp → List PlainEvent
in_turn first second third =
    Blob 1 1 (codes "1")
    ∷ commit 2 2 200 (codes "c2") [] (first ∷ [])
    ∷ commit 3 3 300 (codes "c3") (2 ∷ []) (second ∷ [])
    ∷ commit 4 4 400 (codes "c4") (3 ∷ []) (third ∷ [])
    ∷ []

-- a file, a file in a folder of that name, and the first file again
abbrev pub put_in_turn : List PlainEvent
put_in_turn = in_turn (put 1 (codes "a")) (put 1 (codes "a/b")) (put 1 (codes "a"))

-- the same by a rename and a copy
abbrev pub moved_in_turn : List PlainEvent
moved_in_turn = in_turn (put 1 (codes "a")) (Rename (codes "a") (codes "a/b")) (Copy (codes "a/b") (codes "a"))

-- the tree with the blob at one path
abbrev pub only : Bytes → Option Tree
only path = Some ((path, record { mode = Plain; content = OfBlob 1 }) ∷ [])

-- the three trees: of what was in the way nothing is left
abbrev pub file_folder_file : List (Option Tree)
file_folder_file = only (codes "a") ∷ only (codes "a/b") ∷ only (codes "a") ∷ []

-- ---- a second root on a branch

-- two commits, the branch removed, and a root on it
abbrev pub reset_before_root : List PlainEvent
reset_before_root =
    commit 1 2 200 (codes "c2") [] []
    ∷ commit 2 3 300 (codes "c3") (1 ∷ []) []
    ∷ Reset 3 master None
    ∷ commit 4 4 400 (codes "c4") [] []
    ∷ []

-- the same, but the branch isn't removed
abbrev pub root_on_a_tip : List PlainEvent
root_on_a_tip =
    commit 1 2 200 (codes "c2") [] []
    ∷ commit 2 3 300 (codes "c3") (1 ∷ []) []
    ∷ commit 4 4 400 (codes "c4") [] []
    ∷ []

-- how both are written: one `reset` before the root, so that it is read as a root again
abbrev pub second_root_written : Bytes
second_root_written = lines (
    codes "commit refs/heads/master"
    ∷ codes "mark :2"
    ∷ codes "author A <a@x> 200 +0000"
    ∷ codes "committer A <a@x> 200 +0000"
    ∷ codes "data 2"
    ∷ codes "c2"
    ∷ []
    ∷ codes "commit refs/heads/master"
    ∷ codes "mark :3"
    ∷ codes "author A <a@x> 300 +0000"
    ∷ codes "committer A <a@x> 300 +0000"
    ∷ codes "data 2"
    ∷ codes "c3"
    ∷ codes "from :2"
    ∷ []
    ∷ codes "reset refs/heads/master"
    ∷ codes "commit refs/heads/master"
    ∷ codes "mark :4"
    ∷ codes "author A <a@x> 400 +0000"
    ∷ codes "committer A <a@x> 400 +0000"
    ∷ codes "data 2"
    ∷ codes "c4"
    ∷ []
    ∷ [])
