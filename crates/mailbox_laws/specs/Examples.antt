-- Worked boxes. (own)
use Rattle.std.specs.Prelude.{◌≡◌, ℕ, true, false, List, [], ◌∷◌, ◌++◌, None, Ok, Err, codes}
use Rattle.plain_model.specs.declared.fault.Fault.TheVariants as fault
use Rattle.plain_model.specs.declared.id.AnyId.TheVariants as any
use Rattle.plain_model.specs.declared.operation.Content.TheVariants.{Blob as OfBlob}
use Rattle.plain_model.specs.declared.operation.FileOp.TheVariants.{Delete, Modify}
use Rattle.plain_model.specs.declared.operation.Mode.TheVariants.{Plain}
use Rattle.plain_model.specs.declared.person.Signed.{Signed}
use Rattle.plain_model.specs.declared.event.PlainEvent.{PlainEvent}
use Rattle.plain_model.specs.declared.event.PlainEvent.TheVariants.{Blob, Commit, Tag}
use Rattle.plain_model.specs.Paths.{Bytes}
use Rattle.listing.specs.Examples.{exported}
use Rattle.mailbox_laws.specs.Boxes.{rule}
use Rattle.mailbox_laws.specs.Landing.{land_of}
use Rattle.mailbox_laws.specs.Written.{box_of}

-- the line of 78 hyphens
abbrev pub ruled : Bytes
ruled = codes "------------------------------------------------------------------------------\n"

-- ---- two commits and a tag

abbrev pub by : Bytes → Bytes → ℕ → Signed
by name email seconds = record {
  person = record { name = name; email = email };
  when = record { seconds = seconds; minus = false; offset = 0 };
}

abbrev pub by_a : ℕ → Signed
by_a seconds = by (codes "A") (codes "a@x") seconds

-- the root, with a committer and a comment
abbrev pub root : Signed → Bytes → PlainEvent
root committer comment =
    Commit 2 2 (codes "refs/heads/master") (by_a 100) committer None comment [] (Modify Plain (OfBlob 1) (codes "f") ∷ []) []

-- a blob, the root, its child by this author, and a tag
abbrev pub after_root : Signed → Bytes → Signed → List PlainEvent
after_root committer comment author =
    Blob 1 1 (codes "one") ∷ root committer comment
    ∷ Commit 3 3 (codes "refs/heads/master") author (by_a 200) None (codes "c2") (2 ∷ []) (Delete (codes "f") ∷ []) (9 ∷ [])
    ∷ Tag 4 (codes "v1") 3 None (codes "first") None
    ∷ []

unfoldable pub two_commits : List PlainEvent
two_commits = after_root (by_a 100) (codes "c1") (by_a 200)

-- ---- what is written

pub record WrittenBoxes : Type 0 where
  pub commit : box_of two_commits (any.Commit 2 ∷ []) ≡
      ruled ++ codes "Event-Number: 2\nEvent-Mark: :2\nBranch: refs/heads/master\nAuthor: A <a@x>\nAuthor-Date: 100 +0000\n"
      ++ codes "Committer: A <a@x>\nCommitter-Date: 100 +0000\nCheck-Text: c1\n\nc1\n"
  pub child : box_of two_commits (any.Blob 1 ∷ any.Commit 3 ∷ any.Commit 7 ∷ []) ≡
      ruled ++ codes "Event-Number: 3\nEvent-Mark: :3\nBranch: refs/heads/master\nParents: :2\nAuthor: A <a@x>\nAuthor-Date: 200 +0000\n"
      ++ codes "Committer: A <a@x>\nCommitter-Date: 200 +0000\nCheck-Text: c2\n\nc2\n"
  pub tag : box_of exported (any.Tag 9 ∷ []) ≡
      ruled ++ codes "Event-Number: 9\nTag-Name: v1.0\nTarget: :6\nTagger: Ann <ann@example.com>\nTagger-Date: 1306284000 +0200\n"
      ++ codes "Check-Text: release\n\nrelease\n\n"
  pub again : land_of exported (box_of exported (any.Tag 9 ∷ [])) ≡ Ok exported

-- ---- what lands

-- a message that changes a committer, and a comment
abbrev pub better : Bytes
better = ruled ++ codes "Event-Mark: :2\nCheck-Text: c1\nCommitter: B <b@x>\n\nbetter"

-- a message without a body, and then one for the same commit by its alias; the second gives the date alone
abbrev pub twice : Bytes
twice = ruled ++ codes "Event-Mark: :3\nAuthor: B <b@x>\n\n" ++ ruled ++ codes "Event-Mark: :9\nAuthor-Date: 7 -0130\nX-Any: thing\n\nc2\n"

-- a comment with lines of hyphens
abbrev pub with_rules : Bytes
with_rules = ruled ++ codes "Event-Mark: :2\n\n>" ++ ruled ++ codes ">>" ++ ruled ++ codes ">\nend\n\n"

-- a tagger for a tag that has none is passed over, and so is a committer
abbrev pub for_tag : Bytes
for_tag = ruled ++ codes "Tag-Name: v1\nTagger: B <b@x>\nCommitter: B <b@x>\nTag-Name: v1\n\nfirst\n"

pub record LandedBoxes : Type 0 where
  pub empty : land_of two_commits [] ≡ Ok two_commits
  pub better : land_of two_commits better ≡ Ok (after_root (by (codes "B") (codes "b@x") 100) (codes "better") (by_a 200))
  pub rules : land_of two_commits with_rules ≡ Ok (after_root (by_a 100) (ruled ++ codes ">" ++ ruled ++ codes ">\nend\n") (by_a 200))
  pub twice : land_of two_commits twice ≡ Ok (after_root (by_a 100) (codes "c1") (record {
    person = record { name = codes "B"; email = codes "b@x" };
    when = record { seconds = 7; minus = true; offset = 130 };
  }))
  pub tag : land_of two_commits for_tag ≡ Ok two_commits

-- ---- faults

pub record FaultyBoxes : Type 0 where
  pub no_rule : land_of two_commits (codes "x\n") ≡ Err (fault.BadMessage 1)
  pub empty_line : land_of two_commits (codes "\n") ≡ Err (fault.BadMessage 1)
  -- 78 hyphens and a CR
  pub carriage_return : land_of two_commits (rule ++ codes "\r\n") ≡ Err (fault.BadMessage 1)
  pub neither : land_of two_commits (ruled ++ codes "\nx\n") ≡ Err (fault.BadMessage 1)
  pub both : land_of two_commits (ruled ++ codes "Event-Mark: :2\nTag-Name: v1\n\nx\n") ≡ Err (fault.BadMessage 1)
  pub no_colon : land_of two_commits (ruled ++ codes "Event-Mark: :2\nAuthor:x\n\nx\n") ≡ Err (fault.BadMessage 3)
  pub no_name : land_of two_commits (ruled ++ codes ": x\nEvent-Mark: :2\n\nx\n") ≡ Err (fault.BadMessage 2)
  pub ended : land_of two_commits (ruled ++ codes "Event-Mark: :2\n") ≡ Err (fault.BadMessage 3)
  pub nameless : land_of two_commits (ruled ++ codes "Event-Mark: :2\nAuthor:  <a@x>\n\nx\n") ≡ Err (fault.BadMessage 3)
  pub late : land_of two_commits (ruled ++ codes "Event-Mark: :2\nAuthor-Date: 250000000001 +0000\n\nx\n") ≡ Err (fault.BadMessage 3)
  pub blob : land_of two_commits (ruled ++ codes "Event-Mark: :1\n\nx\n") ≡ Err (fault.NoSuchTarget 2)
  pub no_mark : land_of two_commits (ruled ++ codes "Event-Mark: 2\n\nx\n") ≡ Err (fault.NoSuchTarget 2)
  pub no_tag : land_of two_commits (ruled ++ codes "Tag-Name: v2\n\nx\n") ≡ Err (fault.NoSuchTarget 2)
  pub check : land_of two_commits (ruled ++ codes "Event-Mark: :3\n\nx\n" ++ ruled ++ codes "Event-Mark: :2\nCheck-Text: zz\n\nx\n") ≡ Err (fault.CheckText 7)
  -- of a name that is given twice the last line counts alone
  pub last : land_of two_commits (ruled ++ codes "Event-Mark: :1\nEvent-Mark: :2\nAuthor: x\nAuthor: A <a@x>\n\nc1\n") ≡ Ok two_commits

-- ---- tags of one name

abbrev pub two_tags : Bytes → List PlainEvent
two_tags comment = root (by_a 100) (codes "c1") ∷ Tag 3 (codes "v") 2 None comment None ∷ Tag 4 (codes "v") 2 None (codes "ab") None ∷ []

pub record TagsOfOneName : Type 0 where
  -- the message of the second lands on the first, if that begins so
  pub lands : land_of (two_tags (codes "abc")) (box_of (two_tags (codes "abc")) (any.Tag 4 ∷ [])) ≡ Ok (two_tags (codes "ab"))
  pub refused : land_of (two_tags (codes "x")) (box_of (two_tags (codes "x")) (any.Tag 4 ∷ [])) ≡ Err (fault.CheckText 5)
