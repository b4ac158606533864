-- What worked texts and their snapshots are made of.
use Rattle.std.specs.Prelude.{◌≡◌, ℕ, false, List, [], ◌∷◌, ◌++◌, codes, None, Some, option_map, replicate}
use Rattle.plain_model.specs.declared.operation.Mode.TheVariants.{Plain}
use Rattle.plain_model.specs.declared.person.Signed.{Signed}
use Rattle.plain_model.specs.Paths.{Bytes}
use Rattle.plain_model.specs.Trees.{TreeOf}
use Rattle.plain_model.specs.Snapshots.{Shown, ShownCommit, Snapshot, snapshot}
use Rattle.plain_model.specs.Snapshots.ShownContent.{ShownBytes}
use Rattle.stream_grammar.specs.Lines.{history_in}
use Rattle.stream_grammar.specs.Worked.{ann}
use Rattle.replay_laws.specs.Replay.{replay_in}

-- the replay of a text shows this, and so does its history
abbrev pub BothShow : Bytes → Snapshot → Type 0
BothShow text shown = (replay_in text ≡ Some shown) × (option_map snapshot (history_in text) ≡ Some shown)

-- a plain file with these bytes
abbrev pub file : Bytes → Shown
file bytes = record { mode = Plain; content = ShownBytes bytes }

abbrev pub an_object : Bytes
an_object = codes "0123456789abcdef0123456789abcdef01234567"

-- another person than ann
abbrev pub bob : Signed
bob = record {
  person = record { name = codes "Bob"; email = codes "b@b" };
  when = record { seconds = 2; minus = false; offset = 0 };
}

-- a commit of ann's without a comment
abbrev pub by_ann : ℕ → Bytes → List ℕ → TreeOf Shown → ShownCommit
by_ann mark branch parents files = record {
  mark = mark;
  branch = branch;
  author = ann;
  committer = ann;
  encoding = None;
  comment = [];
  parents = parents;
  tree = Some files;
  aliases = [];
}

abbrev pub branch_a : Bytes
branch_a = codes "a"

abbrev pub branch_b : Bytes
branch_b = codes "b"

-- the first lines of a commit of ann's, with the line of a mark or without
abbrev pub marked_commit : Bytes → Bytes → List Bytes
marked_commit branch mark = (codes "commit " ++ branch) ∷ mark ∷ codes "committer Ann <a@b> 1 +0000" ∷ codes "data 0" ∷ []

abbrev pub commit_on : Bytes → List Bytes
commit_on branch = (codes "commit " ++ branch) ∷ codes "committer Ann <a@b> 1 +0000" ∷ codes "data 0" ∷ []

-- a commit of one file on the branch a, and what is shown of it
abbrev pub first_commit : List Bytes
first_commit = marked_commit branch_a (codes "mark :1") ++ [] ∷ codes "M 644 inline f" ∷ codes "data 1" ∷ codes "x" ∷ []

abbrev pub first_shown : ShownCommit
first_shown = by_ann 1 branch_a [] ((codes "f", file (codes "x")) ∷ [])

-- the longest path that may be written
abbrev pub long_path : Bytes
long_path = replicate 4096 97

-- a commit of which an operation was refused
abbrev pub without_files : ShownCommit → ShownCommit
without_files c = record c { tree = None }
