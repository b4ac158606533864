-- A replay of a stream by plain maps: from marks to bytes of blobs, from numbers of commits to all their files, from
-- branches to the commits on which they are. It knows no history, no ids in operations and no trees but what a change
-- does to one (git-fast-import, "Input format": `mark`, `from`, `merge`, `reset`, `filemodify` and the other changes of
-- files). Which line may be where is the form of a stream, and not reported again here.
use Rattle.std.specs.Prelude.{ℕ, zero, suc, ◌+◌, ◌==◌, false, not, max, List, [], ◌∷◌, ◌++◌, map, Option, Some, None, Result, Ok, Err, codes, bytes_eq, option_map, option_and_then, option_to_list, unwrap_or, if◌then◌else◌}
use Rattle.std.specs.List.{list_any}
use Rattle.plain_model.specs.declared.fault.Why.{Why}
use Rattle.plain_model.specs.declared.operation.Mode.{Mode}
use Rattle.plain_model.specs.declared.person.Signed.{Signed}
use Rattle.plain_model.specs.declared.raw.RawContent.TheVariants.{Marked, Object, Inline}
use Rattle.plain_model.specs.declared.raw.RawOp.{RawOp}
use Rattle.plain_model.specs.declared.raw.RawOp.TheVariants.{Modify, Delete, Copy, Rename, DeleteAll}
use Rattle.plain_model.specs.Fields.{◌>>=◌, mark_in, name_in, person_in, op_in}
use Rattle.plain_model.specs.Parts.{begins}
use Rattle.plain_model.specs.Paths.{Bytes}
use Rattle.plain_model.specs.Trees.{TreeOf, Refusal, Change, at, put, where_path, change}
use Rattle.plain_model.specs.Trees.Change.{Put, Remove, CopyTo, MoveTo, Clear}
use Rattle.plain_model.specs.Snapshots.{Shown, ShownContent, ShownCommit, ShownTag, Snapshot, map_tree}
use Rattle.plain_model.specs.Snapshots.ShownContent.{ShownBytes, ShownObject}
use Rattle.line_automaton.specs.Machine.{Next, Automaton, Outcome, outcome, all}
use Rattle.line_automaton.specs.Machine.Next.{More}
use Rattle.line_automaton.specs.Machine.Outcome.{Reads, Refuses, Misses}
use Rattle.stream_grammar.specs.declared.lines.Expected.TheVariants as expected
use Rattle.stream_grammar.specs.declared.lines.Standing.{Standing}
use Rattle.stream_grammar.specs.declared.lines.Word.{Word}
use Rattle.stream_grammar.specs.declared.lines.Word.TheVariants as word
use Rattle.stream_grammar.specs.Lines.{text_of, word_of, is_comment, after_word, next_of, must_go_on, is_inline_expected}

-- ---- the maps

-- A commit with its number. Its parents are numbers, a mark that it doesn't have is 0, and its tree is all its files.
pub record Numbered : Type 0 where
  pub number : ℕ
  pub commit : ShownCommit

-- Events have the numbers from 1, in the order in which they end.
pub record Replayed : Type 0 where
  -- how many events have ended
  pub count : ℕ
  -- the bytes of each blob by its mark, which is 0 if it has none; no line names that
  pub blobs : List (ℕ × Bytes)
  pub commits : List Numbered
  -- each with the number of its commit
  pub tags : List ShownTag
  -- each branch with the number of the commit on which it is
  pub tips : TreeOf ℕ
  -- each further mark of a commit with the number of the commit, in the order in which they came
  pub aliases : List (ℕ × ℕ)
  -- the numbers of the blobs and commits without a mark, in order
  pub unmarked : List ℕ
  pub greatest : ℕ

abbrev pub nothing_replayed : Replayed
nothing_replayed = record { count = 0; blobs = []; commits = []; tags = []; tips = []; aliases = []; unmarked = []; greatest = 0 }

-- what a mark or a number finds; of several the first
abbrev pub bytes_marked : List (ℕ × Bytes) → ℕ → Option Bytes
bytes_marked [] mark = None
bytes_marked (b ∷ blobs) mark = if b.0 == mark then Some b.1 else bytes_marked blobs mark

abbrev pub number_marked : List Numbered → ℕ → Option ℕ
number_marked [] mark = None
number_marked (c ∷ commits) mark = if c.commit.mark == mark then Some c.number else number_marked commits mark

abbrev pub further_marked : List (ℕ × ℕ) → ℕ → Option ℕ
further_marked [] mark = None
further_marked (a ∷ aliases) mark = if a.0 == mark then Some a.1 else further_marked aliases mark

abbrev pub commit_numbered : List Numbered → ℕ → Option Numbered
commit_numbered [] n = None
commit_numbered (c ∷ commits) n = if c.number == n then Some c else commit_numbered commits n

-- all files of a commit, unless one of its operations was refused
abbrev pub files_of : List Numbered → ℕ → Option (TreeOf Shown)
files_of commits n = option_and_then (λ c. c.commit.tree) (commit_numbered commits n)

-- ---- the event that is being read

-- A commit so far: the numbers of its parents, its files, and the operation that waits for its bytes, which are on the
-- lines after it.
pub record CommitSoFar : Type 0 where
  pub branch : Bytes
  pub mark : ℕ
  pub author : Option Signed
  pub committer : Option Signed
  pub encoding : Option Bytes
  pub comment : Bytes
  pub parents : List ℕ
  pub files : Option (TreeOf Shown)
  pub waiting : Option (Mode × Bytes)

-- no event; or a blob with its mark, a commit, a tag with its name, commit, tagger and mark, a reset of a branch, or a
-- further mark of a commit
pub data Reading : Type 0 where
  NoEvent : Reading
  InBlob : ℕ → Reading
  InCommit : CommitSoFar → Reading
  InTag : Bytes → ℕ → Option Signed → Option ℕ → Reading
  InReset : Bytes → Option ℕ → Reading
  InAlias : ℕ → Reading

pub record Replaying : Type 0 where
  pub standing : Standing
  pub replayed : Replayed
  pub reading : Reading

-- ---- the end of an event

-- an event without a mark
abbrev pub with_one_more : Replayed → Replayed
with_one_more r = record r { count = r.count + 1 }

-- the next event is among them, if its mark is 0
abbrev pub unmarked_with : Replayed → ℕ → List ℕ
unmarked_with r mark = if mark == 0 then r.unmarked ++ (r.count + 1) ∷ [] else r.unmarked

abbrev pub with_blob : Replayed → ℕ → Bytes → Replayed
with_blob r mark bytes = record r {
  count = r.count + 1;
  blobs = r.blobs ++ (mark, bytes) ∷ [];
  unmarked = unmarked_with r mark;
  greatest = max r.greatest mark;
}

-- the committer stands for an author that isn't there
abbrev pub ended_commit : CommitSoFar → Signed → ShownCommit
ended_commit c committer = record {
  mark = c.mark;
  branch = c.branch;
  author = unwrap_or c.author committer;
  committer = committer;
  encoding = c.encoding;
  comment = c.comment;
  parents = c.parents;
  tree = c.files;
  aliases = [];
}

-- a commit is its branch's tip from then on
abbrev pub with_commit : Replayed → CommitSoFar → Option Signed → Replayed
with_commit r c None = r
with_commit r c (Some committer) = record r {
  count = r.count + 1;
  commits = r.commits ++ record { number = r.count + 1; commit = ended_commit c committer } ∷ [];
  tips = put c.branch (r.count + 1) r.tips;
  unmarked = unmarked_with r c.mark;
  greatest = max r.greatest c.mark;
}

abbrev pub with_tag : Replayed → ShownTag → Replayed
with_tag r tag = record r { count = r.count + 1; tags = r.tags ++ tag ∷ []; greatest = max r.greatest (unwrap_or tag.mark 0) }

-- a commit has one mark more
abbrev pub with_alias : Replayed → ℕ → ℕ → Replayed
with_alias r mark commit = record r { aliases = r.aliases ++ (mark, commit) ∷ []; greatest = max r.greatest mark }

-- a reset without a commit removes the branch
abbrev pub with_reset : Replayed → Bytes → Option ℕ → Replayed
with_reset r branch None = record r { count = r.count + 1; tips = where_path (λ b. not (bytes_eq branch b)) r.tips }
with_reset r branch (Some commit) = record r { count = r.count + 1; tips = put branch commit r.tips }

-- a commit or a reset ends when the next event begins, or the stream ends; all others have ended before
abbrev pub ended : Replayed → Reading → Replayed
ended r NoEvent = r
ended r (InBlob mark) = r
ended r (InCommit c) = with_commit r c c.committer
ended r (InTag name target tagger mark) = r
ended r (InReset branch target) = with_reset r branch target
ended r (InAlias mark) = r

-- ---- changes of files

-- the files, unless the change was refused
abbrev pub if_kept : Result (TreeOf Shown) Refusal → Option (TreeOf Shown)
if_kept (Ok files) = Some files
if_kept (Err refusal) = None

-- a commit has no files from a refused operation on
abbrev pub changed_files : Change Shown → Option (TreeOf Shown) → Option (TreeOf Shown)
changed_files c files = option_and_then (λ tree. if_kept (change c tree)) files

abbrev pub with_change : Change Shown → CommitSoFar → CommitSoFar
with_change change c = record c { files = changed_files change c.files }

abbrev pub entry : Mode → ShownContent → Shown
entry mode content = record { mode = mode; content = content }

-- an operation on the files of a commit; one with `inline` waits for its bytes
abbrev pub with_op : List (ℕ × Bytes) → RawOp → CommitSoFar → CommitSoFar
with_op blobs (Modify mode (Marked mark) path) c = elim (bytes_marked blobs mark) [
  | None ↦ c
  | Some bytes ↦ with_change (Put (entry mode (ShownBytes bytes)) path) c
]
with_op blobs (Modify mode (Object digits) path) c = with_change (Put (entry mode (ShownObject digits)) path) c
with_op blobs (Modify mode Inline path) c = record c { waiting = Some (mode, path) }
with_op blobs (Delete path) c = with_change (Remove path) c
with_op blobs (Copy source target) c = with_change (CopyTo source target) c
with_op blobs (Rename source target) c = with_change (MoveTo source target) c
with_op blobs DeleteAll c = with_change Clear c

-- the bytes are there for which an operation waits
abbrev pub with_inline : Bytes → CommitSoFar → CommitSoFar
with_inline bytes c = elim c.waiting [
  | None ↦ c
  | Some w ↦ with_change (Put (entry w.0 (ShownBytes bytes)) w.1) (record c { waiting = None })
]

-- ---- parents

-- the number of the commit that has the mark, as its own or as a further one
abbrev pub number_with : Replayed → ℕ → Option ℕ
number_with r mark = elim (number_marked r.commits mark) [
  | Some commit ↦ Some commit
  | None ↦ further_marked r.aliases mark
]

-- the number of the commit that a reference names: by one of its marks, or as the tip of a branch
abbrev pub commit_named : Replayed → Bytes → Option ℕ
commit_named r text =
    if begins (codes ":") text then elim (mark_in text) [ Ok mark ↦ number_with r mark | Err why ↦ None ]
    else at r.tips text

-- what a commit begins with: the files of its first parent, or no files
abbrev pub first_files : Replayed → List ℕ → Option (TreeOf Shown)
first_files r [] = Some []
first_files r (p ∷ parents) = files_of r.commits p

-- without `from` a commit goes on from its branch's tip
abbrev pub commit_on : Replayed → Bytes → CommitSoFar
commit_on r branch =
    let parents = option_to_list (at r.tips branch) in
    record {
      branch = branch;
      mark = 0;
      author = None;
      committer = None;
      encoding = None;
      comment = [];
      parents = parents;
      files = first_files r parents;
      waiting = None;
    }

-- the commit that `from` names: a commit's one parent, what a tag is of, or where a branch is put
abbrev pub with_from : Replayed → ℕ → Reading → Reading
with_from r commit (InCommit c) = InCommit (record c { parents = commit ∷ []; files = files_of r.commits commit })
with_from r commit (InTag name target tagger mark) = InTag name commit tagger mark
with_from r commit (InReset branch target) = InReset branch (Some commit)
with_from r commit reading = reading

-- A further parent, if it isn't one already. Where there is no first one, the files begin empty all the same; but
-- after a refused operation there are none.
abbrev pub with_merge : Replayed → ℕ → List ℕ → CommitSoFar → CommitSoFar
with_merge r commit [] c = record c { parents = commit ∷ []; files = option_map (λ files. []) (files_of r.commits commit) }
with_merge r commit (p ∷ ps) c = if list_any (λ q. q == commit) (p ∷ ps) then c else record c { parents = (p ∷ ps) ++ commit ∷ [] }

-- ---- lines

abbrev pub with_mark : ℕ → Reading → Reading
with_mark mark (InBlob m) = InBlob mark
with_mark mark (InCommit c) = InCommit (record c { mark = mark })
with_mark mark (InTag name target tagger m) = InTag name target tagger (Some mark)
with_mark mark (InAlias m) = InAlias mark
with_mark mark reading = reading

-- a change of the commit that is being read
abbrev pub in_commit : (CommitSoFar → CommitSoFar) → Reading → Reading
in_commit f (InCommit c) = InCommit (f c)
in_commit f reading = reading

abbrev pub with_tagger : Signed → Reading → Reading
with_tagger who (InTag name target tagger mark) = InTag name target (Some who) mark
with_tagger who reading = reading

-- the next event begins
abbrev pub begun : Replaying → (Replayed → Reading) → Replaying
begun t reading = let r = ended t.replayed t.reading in record t { replayed = r; reading = reading r }

-- an event of one line
abbrev pub passed : Replaying → Replaying
passed t = record t { replayed = with_one_more (ended t.replayed t.reading); reading = NoEvent }

-- the event that is being read is changed
abbrev pub changed : Replaying → (Reading → Reading) → Replaying
changed t f = record t { reading = f t.reading }

-- a field that can't be read leaves the replay as it was
abbrev pub if_read : {A : Type 0} → Replaying → Result A Why → (A → Replaying) → Replaying
if_read t (Ok x) f = f x
if_read t (Err why) f = t

-- so does a reference to nothing
abbrev pub if_named : Replaying → Option ℕ → (ℕ → Replaying) → Replaying
if_named t (Some commit) f = f commit
if_named t None f = t

-- the further mark that is being read is the commit's, once it is known
abbrev pub aliased : Replaying → ℕ → Replaying
aliased t commit = elim t.reading [
  | InAlias zero ↦ t
  | InAlias (suc m) ↦ record t { replayed = with_alias t.replayed (suc m) commit; reading = NoEvent }
  | NoEvent ↦ t
  | InBlob mark ↦ t
  | InCommit c ↦ t
  | InTag name target tagger mark ↦ t
  | InReset branch target ↦ t
]

abbrev pub after_operation : Bytes → Replaying → Replaying
after_operation line t = if_read t (op_in line) (λ op. changed t (in_commit (with_op t.replayed.blobs op)))

-- what a line makes of a replay, whatever may follow it
abbrev pub after_line : Word → Bytes → Replaying → Replaying
after_line word.Blob line t = begun t (λ r. InBlob 0)
after_line word.Commit line t = if_read t (name_in (text_of line)) (λ branch. begun t (λ r. InCommit (commit_on r branch)))
after_line word.Tag line t = if_read t (name_in (text_of line)) (λ name. begun t (λ r. InTag name 0 None None))
after_line word.Reset line t = if_read t (name_in (text_of line)) (λ branch. begun t (λ r. InReset branch None))
after_line word.Mark line t = if_read t (mark_in (text_of line)) (λ mark. changed t (with_mark mark))
after_line word.Author line t = if_read t (person_in (text_of line)) (λ who. changed t (in_commit (λ c. record c { author = Some who })))
after_line word.Committer line t = if_read t (person_in (text_of line)) (λ who. changed t (in_commit (λ c. record c { committer = Some who })))
after_line word.Encoding line t = changed t (in_commit (λ c. record c { encoding = Some (text_of line) }))
after_line word.Tagger line t = if_read t (person_in (text_of line)) (λ who. changed t (with_tagger who))
after_line word.From line t = if_named t (commit_named t.replayed (text_of line)) (λ commit. changed t (with_from t.replayed commit))
after_line word.Merge line t = if_named t (commit_named t.replayed (text_of line)) (λ commit. changed t (in_commit (λ c. with_merge t.replayed commit c.parents c)))
after_line word.Operation line t = after_operation line t
after_line word.InlineOperation line t = after_operation line t
after_line word.Pass line t = passed t
after_line word.FeatureDone line t = passed t
after_line word.Alias line t = begun t (λ r. InAlias 0)
after_line word.To line t = if_named t (commit_named t.replayed (text_of line)) (aliased t)
after_line word.Empty line t = t
after_line word.Oid line t = t
after_line word.Data line t = t
after_line word.Done line t = t
after_line word.LeftOut line t = t
after_line word.Other line t = t

-- the bytes after a line: a blob's bytes, a tag's comment, the bytes of an operation, or a commit's comment
abbrev pub after_data : Bytes → Replaying → Replaying
after_data bytes t = elim t.reading [
  | NoEvent ↦ t
  | InBlob mark ↦ record t { replayed = with_blob t.replayed mark bytes; reading = NoEvent }
  | InCommit c ↦
      if is_inline_expected t.standing.expected then record t { replayed = with_blob t.replayed 0 bytes; reading = InCommit (with_inline bytes c) }
      else record t { reading = InCommit (record c { comment = bytes }) }
  | InTag name target tagger mark ↦
      record t { replayed = with_tag t.replayed (record { name = name; target = target; tagger = tagger; comment = bytes; mark = mark }); reading = NoEvent }
  | InReset branch target ↦ t
  | InAlias mark ↦ t
]

-- ---- the replay as an automaton

abbrev pub word_step : Replaying → Bytes → Word → Result (Replaying × Next) Why
word_step t line w =
    after_word t.standing w >>= λ standing.
    next_of w line >>= λ next.
    Ok (record (after_line w line t) { standing = standing }, next)

abbrev pub replaying : Automaton Replaying Why
replaying = record {
  start = record { standing = record { expected = expected.Event; wants_done = false }; replayed = nothing_replayed; reading = NoEvent };
  step = λ judge t line. if is_comment line then Ok (t, More) else word_step t line (word_of line);
  arrived = λ t bytes. after_data bytes t;
  is_expected = λ t. must_go_on t.standing;
}

-- ---- what a replay shows

-- the mark of a number among those without one: the next above n, in order
abbrev pub mark_among : ℕ → List ℕ → ℕ → ℕ
mark_among n [] number = 0
mark_among n (u ∷ unmarked) number = if u == number then n + 1 else mark_among (n + 1) unmarked number

-- its own mark, or else its next one above the greatest
abbrev pub final_mark : Replayed → Numbered → ℕ
final_mark r c = if c.commit.mark == 0 then mark_among r.greatest r.unmarked c.number else c.commit.mark

-- the mark of the commit with a number, 0 if there is none
abbrev pub mark_of_number : Replayed → ℕ → ℕ
mark_of_number r n = elim (commit_numbered r.commits n) [ None ↦ 0 | Some c ↦ final_mark r c ]

-- the further marks of the commit with a number
abbrev pub marks_for : ℕ → List (ℕ × ℕ) → List ℕ
marks_for number [] = []
marks_for number (a ∷ aliases) = if a.1 == number then a.0 ∷ marks_for number aliases else marks_for number aliases

abbrev pub shown_commit : Replayed → Numbered → ShownCommit
shown_commit r c = record c.commit { mark = final_mark r c; parents = map (mark_of_number r) c.commit.parents; aliases = marks_for c.number r.aliases }

abbrev pub shown_tag : Replayed → ShownTag → ShownTag
shown_tag r tag = record tag { target = mark_of_number r tag.target }

-- commits, tags and tips, with marks for numbers
abbrev pub shown_of : Replayed → Snapshot
shown_of r = record {
  commits = map (shown_commit r) r.commits;
  tags = map (shown_tag r) r.tags;
  refs = map_tree (mark_of_number r) r.tips;
}

abbrev pub replay_read : Outcome Replaying Why → Option Snapshot
replay_read (Reads t) = Some (shown_of (ended t.replayed t.reading))
replay_read (Refuses n why) = None
replay_read (Misses n) = None

-- what the replay of a text shows, if it is a stream in its form
abbrev pub replay_in : Bytes → Option Snapshot
replay_in bytes = replay_read (outcome replaying all bytes)
