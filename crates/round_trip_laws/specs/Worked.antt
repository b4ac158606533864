-- Worked histories, and what is written of them, by hand.
use Rattle.std.specs.Prelude.{true, List, [], ◌∷◌, codes, Some, None}
use Rattle.plain_model.specs.declared.event.PlainEvent.{PlainEvent}
use Rattle.plain_model.specs.declared.event.PlainEvent.TheVariants.{Blob, Commit, Tag, Reset, Pass}
use Rattle.plain_model.specs.declared.operation.Content.TheVariants.{Blob as OfBlob, Object}
use Rattle.plain_model.specs.declared.operation.FileOp.TheVariants.{Modify, Delete, Copy, Rename, DeleteAll}
use Rattle.plain_model.specs.declared.operation.Mode.TheVariants.{Plain, Link, Gitlink}
use Rattle.plain_model.specs.declared.person.Signed.{Signed}
use Rattle.plain_model.specs.Paths.{Bytes}
use Rattle.stream_grammar.specs.Worked.{ann, of_ann}

abbrev pub bob : Signed
bob = record {
  person = record { name = []; email = codes "b@c" };
  when = record { seconds = 20; minus = true; offset = 130 };
}

abbrev pub an_object : Bytes
an_object = codes "0123456789abcdef0123456789abcdef01234567"

-- Two branches and their merge, two aliases of one commit, and a tag with a mark. A path begins with a quote, one has an LF, and one a space.
abbrev pub two_branches : List PlainEvent
two_branches =
    Pass 1 (codes "feature done")
    ∷ Blob 2 1 (codes "hi")
    ∷ Commit 3 2 (codes "refs/heads/a") ann ann None (codes "first") []
    (Modify Plain (OfBlob 2) (codes "a b") ∷ Modify Link (OfBlob 2) (codes "\"x") ∷ []) []
    ∷ Reset 4 (codes "refs/heads/b") (Some 3)
    ∷ Commit 5 3 (codes "refs/heads/b") bob ann (Some (codes "latin1")) [] (3 ∷ [])
    (Rename (codes "a b") (codes "c") ∷ Copy (codes "\"x") (codes "d\ne") ∷ []) (10 ∷ 9 ∷ [])
    ∷ Commit 6 4 (codes "refs/heads/a") ann bob None (codes "both\n") (3 ∷ 5 ∷ [])
    (DeleteAll ∷ Modify Gitlink (Object an_object) (codes "lib") ∷ Delete (codes "c") ∷ []) []
    ∷ Reset 7 (codes "refs/heads/b") None
    ∷ Tag 8 (codes "v1") 6 (Some bob) (codes "one") (Some 7)
    ∷ Tag 9 (codes "v2") 3 None [] None
    ∷ []

-- the lines that are written of it
abbrev pub two_branches_lines : List Bytes
two_branches_lines =
    codes "feature done"
    ∷ codes "blob"
    ∷ codes "mark :1"
    ∷ codes "data 2"
    ∷ codes "hi"
    ∷ codes "commit refs/heads/a"
    ∷ codes "mark :2"
    ∷ codes "author Ann <a@b> 1 +0000"
    ∷ codes "committer Ann <a@b> 1 +0000"
    ∷ codes "data 5"
    ∷ codes "first"
    ∷ codes "M 100644 :1 a b"
    ∷ codes "M 120000 :1 \"\\\"x\""
    ∷ []
    ∷ codes "reset refs/heads/b"
    ∷ codes "from :2"
    ∷ codes "commit refs/heads/b"
    ∷ codes "mark :3"
    ∷ codes "author <b@c> 20 -0130"
    ∷ codes "committer Ann <a@b> 1 +0000"
    ∷ codes "encoding latin1"
    ∷ codes "data 0"
    ∷ []
    ∷ codes "from :2"
    ∷ codes "R \"a b\" c"
    ∷ codes "C \"\\\"x\" \"d\\ne\""
    ∷ []
    ∷ codes "alias"
    ∷ codes "mark :10"
    ∷ codes "to :3"
    ∷ codes "alias"
    ∷ codes "mark :9"
    ∷ codes "to :3"
    ∷ codes "commit refs/heads/a"
    ∷ codes "mark :4"
    ∷ codes "author Ann <a@b> 1 +0000"
    ∷ codes "committer <b@c> 20 -0130"
    ∷ codes "data 5"
    ∷ codes "both"
    ∷ []
    ∷ codes "from :2"
    ∷ codes "merge :3"
    ∷ codes "deleteall"
    ∷ codes "M 160000 0123456789abcdef0123456789abcdef01234567 lib"
    ∷ codes "D c"
    ∷ []
    ∷ codes "reset refs/heads/b"
    ∷ codes "tag v1"
    ∷ codes "mark :7"
    ∷ codes "from :4"
    ∷ codes "tagger <b@c> 20 -0130"
    ∷ codes "data 3"
    ∷ codes "one"
    ∷ codes "tag v2"
    ∷ codes "from :2"
    ∷ codes "data 0"
    ∷ []
    ∷ codes "done"
    ∷ []
