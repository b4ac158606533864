-- Worked histories with their lists: an export of a small repository, one of rarer events, and one with stamps that are
-- shared. (own)
use Rattle.std.specs.Prelude.{◌≡◌, ℕ, List, [], ◌∷◌, ◌++◌, map, Some, None, codes, false}
use Rattle.plain_model.specs.declared.id.AnyId.{AnyId}
use Rattle.plain_model.specs.declared.id.AnyId.TheVariants as any
use Rattle.plain_model.specs.declared.operation.Mode.TheVariants.{Plain, Executable, Gitlink}
use Rattle.plain_model.specs.declared.operation.Content.TheVariants.{Blob as OfBlob, Object}
use Rattle.plain_model.specs.declared.operation.FileOp.{FileOp}
use Rattle.plain_model.specs.declared.operation.FileOp.TheVariants.{Modify, Delete}
use Rattle.plain_model.specs.declared.person.Signed.{Signed}
use Rattle.plain_model.specs.declared.event.PlainEvent.{PlainEvent}
use Rattle.plain_model.specs.declared.event.PlainEvent.TheVariants.{Blob, Commit, Tag, Reset, Pass}
use Rattle.plain_model.specs.Lookups.{id_of}
use Rattle.plain_model.specs.Paths.{Bytes}
use Rattle.listing.specs.Listings.{index_text, list_text, names_text}
use Rattle.listing.specs.Stamps.{stamp_text}
use Rattle.listing.specs.Summaries.{resolve_text, summary_text}
use Rattle.listing.specs.TreeListings.{manifest_text}

-- Ann, at so many seconds
abbrev pub by_ann : ℕ → Signed
by_ann seconds = record {
  person = record { name = codes "Ann"; email = codes "ann@example.com" };
  when = record { seconds = seconds; minus = false; offset = 200 };
}

abbrev pub master : Bytes
master = codes "refs/heads/master"

-- ---- the export

-- a commit by Ann
abbrev pub commit : ℕ → ℕ → Bytes → ℕ → Bytes → List ℕ → FileOp → PlainEvent
commit id mark branch seconds comment parents op =
    Commit id mark branch (by_ann seconds) (by_ann seconds) None comment parents (op ∷ []) []

abbrev pub put_file : ℕ → Bytes → FileOp
put_file blob path = Modify Plain (OfBlob blob) path

abbrev pub put_link : FileOp
put_link = Modify Gitlink (Object (codes "0123456789abcdef0123456789abcdef01234567")) (codes "sub")

-- two branches that are merged, a light tag, and one with a comment
unfoldable pub exported : List PlainEvent
exported =
    Blob 1 1 (codes "hello\n")
    ∷ Reset 2 master None
    ∷ commit 3 2 master 1306281600 (codes "first\n") [] (put_file 1 (codes "README"))
    ∷ Blob 4 3 (codes "lib\n")
    ∷ commit 5 4 (codes "refs/heads/topic") 1306282200 (codes "topic\n") (3 ∷ []) (put_file 4 (codes "lib.c"))
    ∷ commit 6 5 master 1306282800 (codes "second\n") (3 ∷ []) put_link
    ∷ commit 7 6 master 1306283400 (codes "merge\n") (6 ∷ 5 ∷ []) (put_file 4 (codes "lib.c"))
    ∷ Reset 8 (codes "refs/tags/light") (Some 7)
    ∷ Tag 9 (codes "v1.0") 7 (Some (by_ann 1306284000)) (codes "release\n") None
    ∷ []

pub record ExportedLists : Type 0 where
  pub list : list_text exported (map id_of exported) ≡
      codes "     3 2011-05-25T00:00:00Z :2 first\n"
      ++ codes "     5 2011-05-25T00:10:00Z :4 topic\n"
      ++ codes "     6 2011-05-25T00:20:00Z :5 second\n"
      ++ codes "     7 2011-05-25T00:30:00Z :6 merge\n"
      ++ codes "     9 2011-05-25T00:40:00Z v1.0 release\n"
  pub index : index_text exported (map id_of exported) ≡
      codes "     1 blob :1\n"
      ++ codes "     2 reset - refs/heads/master\n"
      ++ codes "     3 commit :2 refs/heads/master\n"
      ++ codes "     4 blob :3\n"
      ++ codes "     5 commit :4 refs/heads/topic\n"
      ++ codes "     6 commit :5 refs/heads/master\n"
      ++ codes "     7 commit :6 refs/heads/master\n"
      ++ codes "     8 reset :6 refs/tags/light\n"
      ++ codes "     9 tag :6 v1.0\n"
  pub names : names_text exported ≡
      codes "branch refs/heads/master :6\n"
      ++ codes "branch refs/heads/topic :4\n"
      ++ codes "branch refs/tags/light :6\n"
      ++ codes "tag v1.0 :6\n"
  pub stamp : stamp_text exported (map id_of exported) ≡
      codes "2011-05-25T00:00:00Z!ann@example.com\n"
      ++ codes "2011-05-25T00:10:00Z!ann@example.com\n"
      ++ codes "2011-05-25T00:20:00Z!ann@example.com\n"
      ++ codes "2011-05-25T00:30:00Z!ann@example.com\n"
  pub resolve : resolve_text exported (any.Commit 5 ∷ any.Blob 1 ∷ []) ≡ codes "5 1\n"
  pub nothing_resolved : resolve_text exported [] ≡ codes "\n"
  pub summary : summary_text (codes "git") exported ≡
      codes "git: 9 events, 2 blobs, 4 commits, 1 tags, 2 resets, 0 passthroughs\n"
  pub manifest : manifest_text exported (any.Commit 5 ∷ any.Blob 4 ∷ any.Commit 7 ∷ []) ≡
      codes "commit :4\n"
      ++ codes "100644 :1 README\n"
      ++ codes "100644 :3 lib.c\n"
      ++ codes "commit :6\n"
      ++ codes "100644 :1 README\n"
      ++ codes "100644 :3 lib.c\n"
      ++ codes "160000 0123456789abcdef0123456789abcdef01234567 sub\n"

-- ---- rarer events

-- a commit by Ann that another day was committed
abbrev pub plain_commit : ℕ → ℕ → Bytes → ℕ → Bytes → List ℕ → List ℕ → PlainEvent
plain_commit id mark branch seconds comment parents aliases = Commit id mark branch (by_ann 5) (by_ann seconds) None comment parents [] aliases

-- a line that is passed through; comments without an LF, empty and of two lines; an alias, and a tag that has a mark,
-- neither of which is shown; a tag without a tagger; a branch that is taken away again, and one that is before
-- another that is older
unfoldable pub rarer : List PlainEvent
rarer =
    Pass 1 (codes "progress half")
    ∷ plain_commit 2 70 (codes "main") 86400 (codes "no end") [] []
    ∷ plain_commit 3 8 (codes "main") 3 [] (2 ∷ []) (9 ∷ [])
    ∷ Tag 4 (codes "v1") 2 None [] None
    ∷ Tag 5 (codes "a") 3 (Some (by_ann 0)) (codes "two\nlines") (Some 80)
    ∷ Reset 6 (codes "side") (Some 2)
    ∷ Reset 7 (codes "side") None
    ∷ Reset 8 (codes "Old") (Some 2)
    ∷ []

-- out of order, one of them twice, and one that isn't there
abbrev pub chosen : List AnyId
chosen = any.Tag 5 ∷ any.Commit 2 ∷ any.Commit 9 ∷ any.Reset 7 ∷ any.Tag 5 ∷ []

pub record RarerLists : Type 0 where
  pub list : list_text rarer (map id_of rarer) ≡
      codes "     2 1970-01-02T00:00:00Z :70 no end\n"
      ++ codes "     3 1970-01-01T00:00:03Z :8 \n"
      ++ codes "     4 - v1 \n"
      ++ codes "     5 1970-01-01T00:00:00Z a two\n"
  pub index : index_text rarer (map id_of rarer) ≡
      codes "     1 passthrough progress half\n"
      ++ codes "     2 commit :70 main\n"
      ++ codes "     3 commit :8 main\n"
      ++ codes "     4 tag :70 v1\n"
      ++ codes "     5 tag :8 a\n"
      ++ codes "     6 reset :70 side\n"
      ++ codes "     7 reset - side\n"
      ++ codes "     8 reset :70 Old\n"
  pub names : names_text rarer ≡
      codes "branch Old :70\n"
      ++ codes "branch main :8\n"
      ++ codes "tag v1 :70\n"
      ++ codes "tag a :8\n"
  pub chosen_list : list_text rarer chosen ≡
      codes "     5 1970-01-01T00:00:00Z a two\n"
      ++ codes "     2 1970-01-02T00:00:00Z :70 no end\n"
      ++ codes "     5 1970-01-01T00:00:00Z a two\n"
  pub chosen_index : index_text rarer chosen ≡
      codes "     5 tag :8 a\n"
      ++ codes "     2 commit :70 main\n"
      ++ codes "     7 reset - side\n"
      ++ codes "     5 tag :8 a\n"
  pub summary : summary_text (codes "r") rarer ≡
      codes "r: 8 events, 0 blobs, 2 commits, 2 tags, 3 resets, 1 passthroughs\n"
  pub resolve : resolve_text rarer chosen ≡ codes "5 2 7 5\n"

-- ---- stamps that are shared

-- a person known by an email, at so many seconds
abbrev pub by : Bytes → ℕ → Signed
by email seconds = record {
  person = record { name = []; email = email };
  when = record { seconds = seconds; minus = false; offset = 0 };
}

abbrev pub commit_by : ℕ → Bytes → ℕ → List ℕ → FileOp → PlainEvent
commit_by id email seconds parents op = Commit id id master (by email 5) (by email seconds) None [] parents (op ∷ []) []

abbrev pub ann : Bytes
ann = codes "ann@x"

abbrev pub bob : Bytes
bob = codes "bob@x"

-- two commits in one second by one person, two in one second by two; a path that is written in quotes, and one with a
-- space
unfoldable pub shared : List PlainEvent
shared =
    Blob 1 1 (codes "1")
    ∷ commit_by 2 ann 150 [] (put_file 1 (codes "\"q"))
    ∷ commit_by 3 bob 200 (2 ∷ []) put_link
    ∷ commit_by 4 bob 150 (3 ∷ []) (Modify Executable (OfBlob 1) (codes "a b"))
    ∷ commit_by 5 bob 200 (4 ∷ []) (Delete (codes "sub"))
    ∷ []

pub record SharedLists : Type 0 where
  pub stamp : stamp_text shared (map id_of shared) ≡
      codes "1970-01-01T00:02:30Z!ann@x\n"
      ++ codes "1970-01-01T00:03:20Z!bob@x#1\n"
      ++ codes "1970-01-01T00:02:30Z!bob@x\n"
      ++ codes "1970-01-01T00:03:20Z!bob@x#2\n"
  -- the number counts all commits of the history, and not those that are chosen
  pub last_stamp : stamp_text shared (any.Commit 5 ∷ []) ≡ codes "1970-01-01T00:03:20Z!bob@x#2\n"
  pub manifest : manifest_text shared (any.Commit 5 ∷ any.Commit 4 ∷ any.Commit 9 ∷ []) ≡
      codes "commit :5\n"
      ++ codes "100644 :1 \"\\\"q\"\n"
      ++ codes "100755 :1 a b\n"
      ++ codes "commit :4\n"
      ++ codes "100644 :1 \"\\\"q\"\n"
      ++ codes "100755 :1 a b\n"
      ++ codes "160000 0123456789abcdef0123456789abcdef01234567 sub\n"
