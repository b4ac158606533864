-- What a history shows: its commits with their trees, and where its branches are.
use Rattle.std.specs.Prelude.{ℕ, not, ◌==◌, List, [], ◌∷◌, map, Option, Some, None, option_map, bytes_eq, if◌then◌else◌}
use Rattle.plain_model.specs.declared.operation.Mode.{Mode}
use Rattle.plain_model.specs.declared.operation.Content.{Content}
use Rattle.plain_model.specs.declared.operation.Content.TheVariants.{Blob as OfBlob, Object}
use Rattle.plain_model.specs.declared.operation.Entry.{Entry}
use Rattle.plain_model.specs.declared.person.Signed.{Signed}
use Rattle.plain_model.specs.declared.event.PlainEvent.{PlainEvent}
use Rattle.plain_model.specs.declared.event.PlainEvent.TheVariants.{Blob, Commit, Tag, Reset, Pass}
use Rattle.plain_model.specs.Paths.{Bytes}
use Rattle.plain_model.specs.Trees.{TreeOf, put, where_path}
use Rattle.plain_model.specs.Histories.{tree}

-- a blob's bytes in place of its id
pub data ShownContent : Type 0 where
  ShownBytes : Bytes → ShownContent
  ShownObject : Bytes → ShownContent

pub record Shown : Type 0 where
  pub mode : Mode
  pub content : ShownContent

abbrev pub blob_bytes : List PlainEvent → ℕ → Bytes
blob_bytes [] b = []
blob_bytes (Blob id mark bytes ∷ events) b = if id == b then bytes else blob_bytes events b
blob_bytes (Commit id mark branch author committer encoding comment parents ops aliases ∷ events) b = blob_bytes events b
blob_bytes (Tag id name target tagger comment mark ∷ events) b = blob_bytes events b
blob_bytes (Reset id branch target ∷ events) b = blob_bytes events b
blob_bytes (Pass id line ∷ events) b = blob_bytes events b

abbrev pub shown_content : List PlainEvent → Content → ShownContent
shown_content events (OfBlob b) = ShownBytes (blob_bytes events b)
shown_content events (Object digits) = ShownObject digits

abbrev pub shown : List PlainEvent → Entry → Shown
shown events e = record { mode = e.mode; content = shown_content events e.content }

-- each entry changed, at its path
abbrev pub map_tree : {X Y : Type 0} → (X → Y) → TreeOf X → TreeOf Y
map_tree f [] = []
map_tree f (e ∷ es) = (e.0, f e.1) ∷ map_tree f es

abbrev pub shown_tree : List PlainEvent → ℕ → Option (TreeOf Shown)
shown_tree events c = option_map (map_tree (shown events)) (tree events c)

abbrev pub commit_mark : List PlainEvent → ℕ → ℕ
commit_mark [] c = 0
commit_mark (Commit id mark branch author committer encoding comment parents ops aliases ∷ events) c = if id == c then mark else commit_mark events c
commit_mark (Blob id mark bytes ∷ events) c = commit_mark events c
commit_mark (Tag id name target tagger comment mark ∷ events) c = commit_mark events c
commit_mark (Reset id branch target ∷ events) c = commit_mark events c
commit_mark (Pass id line ∷ events) c = commit_mark events c

-- the branches after the events, from where they were before
abbrev pub refs_after : TreeOf ℕ → List PlainEvent → TreeOf ℕ
refs_after tips [] = tips
refs_after tips (Commit id mark branch author committer encoding comment parents ops aliases ∷ events) = refs_after (put branch id tips) events
refs_after tips (Reset id branch (Some c) ∷ events) = refs_after (put branch c tips) events
refs_after tips (Reset id branch None ∷ events) = refs_after (where_path (λ b. not (bytes_eq branch b)) tips) events
refs_after tips (Blob id mark bytes ∷ events) = refs_after tips events
refs_after tips (Tag id name target tagger comment mark ∷ events) = refs_after tips events
refs_after tips (Pass id line ∷ events) = refs_after tips events

-- each branch with the commit on which it is
abbrev pub refs : List PlainEvent → TreeOf ℕ
refs events = refs_after [] events

pub record ShownCommit : Type 0 where
  pub mark : ℕ
  pub branch : Bytes
  pub author : Signed
  pub committer : Signed
  pub encoding : Option Bytes
  pub comment : Bytes
  pub parents : List ℕ
  pub tree : Option (TreeOf Shown)
  pub aliases : List ℕ

pub record ShownTag : Type 0 where
  pub name : Bytes
  pub target : ℕ
  pub tagger : Option Signed
  pub comment : Bytes
  pub mark : Option ℕ

pub record Snapshot : Type 0 where
  pub commits : List ShownCommit
  pub tags : List ShownTag
  pub refs : TreeOf ℕ

-- the commits of a part of a history
abbrev pub shown_commits : List PlainEvent → List PlainEvent → List ShownCommit
shown_commits whole [] = []
shown_commits whole (Commit id mark branch author committer encoding comment parents ops aliases ∷ events) =
    record {
      mark = mark;
      branch = branch;
      author = author;
      committer = committer;
      encoding = encoding;
      comment = comment;
      parents = map (commit_mark whole) parents;
      tree = shown_tree whole id;
      aliases = aliases;
    } ∷ shown_commits whole events
shown_commits whole (Blob id mark bytes ∷ events) = shown_commits whole events
shown_commits whole (Tag id name target tagger comment mark ∷ events) = shown_commits whole events
shown_commits whole (Reset id branch target ∷ events) = shown_commits whole events
shown_commits whole (Pass id line ∷ events) = shown_commits whole events

abbrev pub shown_tags : List PlainEvent → List PlainEvent → List ShownTag
shown_tags whole [] = []
shown_tags whole (Tag id name target tagger comment mark ∷ events) =
    record { name = name; target = commit_mark whole target; tagger = tagger; comment = comment; mark = mark } ∷ shown_tags whole events
shown_tags whole (Commit id mark branch author committer encoding comment parents ops aliases ∷ events) = shown_tags whole events
shown_tags whole (Blob id mark bytes ∷ events) = shown_tags whole events
shown_tags whole (Reset id branch target ∷ events) = shown_tags whole events
shown_tags whole (Pass id line ∷ events) = shown_tags whole events

abbrev pub snapshot : List PlainEvent → Snapshot
snapshot events = record {
  commits = shown_commits events events;
  tags = shown_tags events events;
  refs = map_tree (commit_mark events) (refs events);
}
