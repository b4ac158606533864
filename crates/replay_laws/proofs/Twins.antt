-- The states of the grammar and of the replay that go together, and what ends, begins and lands in both alike.
use Rattle.std.proofs.Common.{◌≡◌, ℕ, ◌+◌, ◌<◌, ◌≤◌, Bool, true, false, cond, List, [], ◌∷◌, ◌++◌, length, refl, sym, ap, subst, ◌∙◌, Option, Some, None, arith, eq-eqb, max}
use Rattle.std.specs.Prelude.{◌==◌, not, bytes_eq, unwrap_or}
use Rattle.plain_model.specs.declared.operation.Mode.{Mode}
use Rattle.plain_model.specs.declared.operation.Content.TheVariants.{Blob as OfBlob, Object}
use Rattle.plain_model.specs.declared.operation.FileOp.{FileOp}
use Rattle.plain_model.specs.declared.operation.FileOp.TheVariants.{Modify, Delete, Copy, Rename, DeleteAll}
use Rattle.plain_model.specs.declared.person.Signed.{Signed}
use Rattle.plain_model.specs.declared.event.PlainEvent.{PlainEvent}
use Rattle.plain_model.specs.declared.event.PlainEvent.TheVariants as plain
use Rattle.plain_model.specs.Paths.{Bytes}
use Rattle.plain_model.specs.Trees.{TreeOf, put, where_path}
use Rattle.plain_model.specs.Trees.Change.{Put}
use Rattle.plain_model.specs.Lookups.{greatest_mark}
use Rattle.plain_model.specs.Snapshots.{Shown, blob_bytes, shown_tree, refs}
use Rattle.plain_model.specs.Snapshots.ShownContent.{ShownBytes}
use Rattle.stream_grammar.specs.declared.lines.Expected.{Expected}
use Rattle.stream_grammar.specs.declared.lines.Expected.TheVariants as expected
use Rattle.stream_grammar.specs.declared.lines.Standing.{Standing}
use Rattle.stream_grammar.specs.Known.{Known, OpenCommit, Open, alias_marks, closed, closed_commit, with_data, with_event, next_id}
use Rattle.stream_grammar.specs.Known.Open.{Nothing, ABlob, ACommit, ATag, AReset, AnAlias}
use Rattle.stream_grammar.specs.Lines.{is_inline_expected}
use Rattle.history_laws.proofs.Lists.{all_join}
use Rattle.std.proofs.lemmas.List.{append-nil}
use Rattle.replay_laws.specs.Replay.{Replayed, CommitSoFar, Reading, Replaying, unmarked_with, with_blob, with_tag, with_reset, with_commit as put_commit, ended, changed_files, with_inline, entry, after_data}
use Rattle.replay_laws.specs.Replay.Reading.{NoEvent, InBlob, InCommit, InTag, InReset, InAlias}
use Rattle.replay_laws.proofs.InStep.{Place}
use Rattle.replay_laws.proofs.InStep.Place.{AtLine, AtBlock, AtEnd}
use Rattle.replay_laws.proofs.Placed.{seen_of, seen_with, with_further, greatest_turned, marked_blobs, commits_seen, tags_seen, unmarked_in, bytes_new}
use Rattle.replay_laws.proofs.SoFar.{AllBelow, IsRead, IsSoFar, read_more, blobs_of, all_up, files_now, files_more, files_kept, length_more, seen_more, new_tree}
use Rattle.replay_laws.proofs.Standings.{is_before}

-- ---- what goes together

-- the commit that is being read, with its files, and what waits for bytes
abbrev pub commit_so_far : OpenCommit → Option (TreeOf Shown) → Option (Mode × Bytes) → CommitSoFar
commit_so_far c files waiting = record {
  branch = c.branch;
  mark = c.mark;
  author = c.author;
  committer = c.committer;
  encoding = c.encoding;
  comment = c.comment;
  parents = c.parents;
  files = files;
  waiting = waiting;
}

abbrev pub reading_of : Open → Option (TreeOf Shown) → Option (Mode × Bytes) → Reading
reading_of Nothing files waiting = NoEvent
reading_of (ABlob mark) files waiting = InBlob mark
reading_of (ACommit c) files waiting = InCommit (commit_so_far c files waiting)
reading_of (ATag name target tagger mark) files waiting = InTag name target tagger mark
reading_of (AReset branch target) files waiting = InReset branch target
reading_of (AnAlias mark) files waiting = InAlias mark

-- where an operation may wait for its bytes: before the line of its data, and after it
abbrev pub Waits : Place → Expected → Type 0
Waits AtLine d = d ≡ expected.InlineData
Waits AtBlock d = d ≡ expected.CommitOperation
Waits AtEnd d = ⊥

-- the files are those after the operations but the one that waits
abbrev pub HasFiles : Place → Expected → List PlainEvent → List FileOp → List ℕ → Option (TreeOf Shown) → Option (Mode × Bytes) → Type 0
HasFiles p d events ops parents files None = (files ≡ files_now events ops parents) × AllBelow (length events + 1) (blobs_of ops)
HasFiles p d events ops parents files (Some w) =
    Waits p d × (before : List FileOp) × (ops ≡ before ++ Modify w.0 (OfBlob (next_id events)) w.1 ∷ [])
    × (files ≡ files_now events before parents) × AllBelow (length events + 1) (blobs_of before)

pub record CommitGoes (p : Place) (d : Expected) (events : List PlainEvent) (ops : List FileOp) (earlier : List ℕ) (tree : Option (TreeOf Shown)) (waiting : Option (Mode × Bytes)) : Type 0 where
  pub below : AllBelow (length events + 1) earlier
  pub first : is_before d ≡ true → ops ≡ []
  pub has_files : HasFiles p d events ops earlier tree waiting

abbrev pub Goes : Place → Expected → List PlainEvent → Open → Option (TreeOf Shown) → Option (Mode × Bytes) → Type 0
Goes p d events Nothing files waiting = Unit {0}
Goes p d events (ABlob mark) files waiting = Unit {0}
Goes p d events (ACommit c) files waiting = CommitGoes p d events c.ops c.parents files waiting
Goes p d events (ATag name target tagger mark) files waiting = Unit {0}
Goes p d events (AnAlias mark) files waiting = Unit {0}
Goes p d events (AReset branch None) files waiting = Unit {0}
Goes p d events (AReset branch (Some c)) files waiting = c < length events + 1

-- the replay has become what goes with what is known
abbrev pub Became : Place → Standing → Known → Replaying → Type 0
Became p standing k t =
    (files : Option (TreeOf Shown)) × (waiting : Option (Mode × Bytes)) × (t.replayed ≡ seen_with k.events k.aliases) × (t.reading ≡ reading_of k.current files waiting)
    × IsRead k.events k.aliases × Goes p standing.expected k.events k.current files waiting

-- ---- where nothing waits

abbrev Settled : Place → Expected → List PlainEvent → Open → Option (TreeOf Shown) → Option (Mode × Bytes) → Type 0
Settled p d events current files waiting = (reading_of current files waiting ≡ reading_of current files None) × Goes p d events current files None

pub settled : (p : Place) (d : Expected) (events : List PlainEvent) (current : Open) (files : Option (TreeOf Shown)) (waiting : Option (Mode × Bytes)) → (Waits p d → ⊥) → Goes p d events current files waiting → Settled p d events current files waiting
settled p d events Nothing files waiting n g = (refl, tt)
settled p d events (ABlob mark) files waiting n g = (refl, tt)
settled p d events (ACommit c) files None n g = (refl, g)
settled p d events (ACommit c) files (Some w) n g = absurd (n g.has_files.0)
settled p d events (ATag name target tagger mark) files waiting n g = (refl, tt)
settled p d events (AnAlias mark) files waiting n g = (refl, tt)
settled p d events (AReset branch None) files waiting n g = (refl, tt)
settled p d events (AReset branch (Some c)) files waiting n g = (refl, g)

-- ---- one more event of each kind

max_0 : (n : ℕ) → max n 0 ≡ n
max_0 n = omega arith

-- an event that is only counted, and whatever it does to tips and tags
module _ (events : List PlainEvent) (s : IsSoFar events) where
  unmarked_same : unmarked_in events ++ [] ≡ unmarked_in events
  unmarked_same = append-nil (unmarked_in events)

  pub pass_more : (line : Bytes) → seen_of (with_event events (plain.Pass (next_id events) line)) ≡ record (seen_of events) { count = length events + 1 }
  pass_more line = seen_more events s (plain.Pass (next_id events) line) refl ∙ (λ i. record {
    count = length events + 1;
    blobs = append-nil (marked_blobs events) i;
    commits = append-nil (commits_seen events events) i;
    tags = append-nil (tags_seen events) i;
    tips = refs events;
    aliases = [];
    unmarked = unmarked_same i;
    greatest = max_0 (greatest_mark events) i;
  })

  reset_more : (branch : Bytes) (target : Option ℕ) → seen_of (with_event events (plain.Reset (next_id events) branch target)) ≡ with_reset (seen_of events) branch target
  reset_more branch None = seen_more events s (plain.Reset (next_id events) branch None) refl ∙ (λ i. record {
    count = length events + 1;
    blobs = append-nil (marked_blobs events) i;
    commits = append-nil (commits_seen events events) i;
    tags = append-nil (tags_seen events) i;
    tips = where_path (λ b. not (bytes_eq branch b)) (refs events);
    aliases = [];
    unmarked = unmarked_same i;
    greatest = max_0 (greatest_mark events) i;
  })
  reset_more branch (Some c) = seen_more events s (plain.Reset (next_id events) branch (Some c)) refl ∙ (λ i. record {
    count = length events + 1;
    blobs = append-nil (marked_blobs events) i;
    commits = append-nil (commits_seen events events) i;
    tags = append-nil (tags_seen events) i;
    tips = put branch c (refs events);
    aliases = [];
    unmarked = unmarked_same i;
    greatest = max_0 (greatest_mark events) i;
  })

  tag_more : (name : Bytes) (target : ℕ) (tagger : Option Signed) (comment : Bytes) (mark : Option ℕ)
      → seen_of (with_event events (plain.Tag (next_id events) name target tagger comment mark)) ≡ with_tag (seen_of events) (record { name = name; target = target; tagger = tagger; comment = comment; mark = mark })
  tag_more name target tagger comment mark = seen_more events s (plain.Tag (next_id events) name target tagger comment mark) refl ∙ (λ i. record {
    count = length events + 1;
    blobs = append-nil (marked_blobs events) i;
    commits = append-nil (commits_seen events events) i;
    tags = tags_seen events ++ record { name = name; target = target; tagger = tagger; comment = comment; mark = mark } ∷ [];
    tips = refs events;
    aliases = [];
    unmarked = unmarked_same i;
    greatest = max (greatest_mark events) (unwrap_or mark 0);
  })

  -- one number more where there is no mark
  unmarked_more : (mark : ℕ) → unmarked_in events ++ (cond (mark == 0) (next_id events ∷ []) [] ++ []) ≡ unmarked_with (seen_of events) mark
  unmarked_more mark = go (mark == 0)
    where
      go : (b : Bool) → unmarked_in events ++ (cond b (next_id events ∷ []) [] ++ []) ≡ cond b (unmarked_in events ++ (length events + 1) ∷ []) (unmarked_in events)
      go true = refl
      go false = unmarked_same

  pub blob_more : (mark : ℕ) (bytes : Bytes) → seen_of (with_event events (plain.Blob (next_id events) mark bytes)) ≡ with_blob (seen_of events) mark bytes
  blob_more mark bytes = seen_more events s (plain.Blob (next_id events) mark bytes) refl ∙ (λ i. record {
    count = length events + 1;
    blobs = marked_blobs events ++ (mark, bytes) ∷ [];
    commits = append-nil (commits_seen events events) i;
    tags = append-nil (tags_seen events) i;
    tips = refs events;
    aliases = [];
    unmarked = unmarked_more mark i;
    greatest = max (greatest_mark events) mark;
  })

  module _ (c : OpenCommit) (files : Option (TreeOf Shown)) (g : HasFiles AtLine expected.Event events c.ops c.parents files None) (committer : Signed) where
    abbrev that_commit : PlainEvent
    that_commit = plain.Commit (next_id events) c.mark c.branch (unwrap_or c.author committer) committer c.encoding c.comment c.parents c.ops []

    its_tree : shown_tree (with_event events that_commit) (next_id events) ≡ files
    its_tree = new_tree events s (next_id events) c.mark c.branch (unwrap_or c.author committer) committer c.encoding c.comment c.parents c.ops refl g.1 ∙ sym g.0

    commit_more : seen_of (with_event events that_commit) ≡ put_commit (seen_of events) (commit_so_far c files None) (Some committer)
    commit_more = seen_more events s that_commit refl ∙ (λ i. record {
      count = length events + 1;
      blobs = append-nil (marked_blobs events) i;
      commits = commits_seen events events ++ record {
        number = length events + 1;
        commit = record {
          mark = c.mark;
          branch = c.branch;
          author = unwrap_or c.author committer;
          committer = committer;
          encoding = c.encoding;
          comment = c.comment;
          parents = c.parents;
          tree = its_tree i;
          aliases = [];
        };
      } ∷ [];
      tags = append-nil (tags_seen events) i;
      tips = put c.branch (length events + 1) (refs events);
      aliases = [];
      unmarked = unmarked_more c.mark i;
      greatest = max (greatest_mark events) c.mark;
    })

-- the same with aliases
module _ (events : List PlainEvent) (aliases : List (ℕ × ℕ)) (s : IsSoFar events) where
  abbrev all_marks : List ℕ
  all_marks = alias_marks aliases

  pub pass_with : (line : Bytes) → seen_with (with_event events (plain.Pass (next_id events) line)) aliases ≡ record (seen_with events aliases) { count = length events + 1 }
  pass_with line = ap (with_further aliases) (pass_more events s line)

  reset_with : (branch : Bytes) (target : Option ℕ) → seen_with (with_event events (plain.Reset (next_id events) branch target)) aliases ≡ with_reset (seen_with events aliases) branch target
  reset_with branch None = ap (with_further aliases) (reset_more events s branch None)
  reset_with branch (Some c) = ap (with_further aliases) (reset_more events s branch (Some c))

  tag_with : (name : Bytes) (target : ℕ) (tagger : Option Signed) (comment : Bytes) (mark : Option ℕ)
      → seen_with (with_event events (plain.Tag (next_id events) name target tagger comment mark)) aliases
      ≡ with_tag (seen_with events aliases) (record { name = name; target = target; tagger = tagger; comment = comment; mark = mark })
  tag_with name target tagger comment mark =
      ap (with_further aliases) (tag_more events s name target tagger comment mark)
      ∙ ap (λ n. record (with_tag (seen_with events aliases) (record { name = name; target = target; tagger = tagger; comment = comment; mark = mark })) { greatest = n })
      (greatest_turned (greatest_mark events) (unwrap_or mark 0) all_marks)

  pub blob_with : (mark : ℕ) (bytes : Bytes) → seen_with (with_event events (plain.Blob (next_id events) mark bytes)) aliases ≡ with_blob (seen_with events aliases) mark bytes
  blob_with mark bytes =
      ap (with_further aliases) (blob_more events s mark bytes)
      ∙ ap (λ n. record (with_blob (seen_with events aliases) mark bytes) { greatest = n }) (greatest_turned (greatest_mark events) mark all_marks)

  commit_with : (c : OpenCommit) (files : Option (TreeOf Shown)) (g : HasFiles AtLine expected.Event events c.ops c.parents files None) (committer : Signed)
      → seen_with (with_event events (that_commit events s c files g committer)) aliases ≡ put_commit (seen_with events aliases) (commit_so_far c files None) (Some committer)
  commit_with c files g committer =
      ap (with_further aliases) (commit_more events s c files g committer)
      ∙ ap (λ n. record (put_commit (seen_with events aliases) (commit_so_far c files None) (Some committer)) { greatest = n }) (greatest_turned (greatest_mark events) c.mark all_marks)

-- ---- the end of an event

abbrev pub EndsAlike : Known → Replayed → Type 0
EndsAlike k r = (r ≡ seen_with (closed k) k.aliases) × IsRead (closed k) k.aliases

commit_ends : (events : List PlainEvent) (aliases : List (ℕ × ℕ)) → IsRead events aliases → (c : OpenCommit) (files : Option (TreeOf Shown)) → AllBelow (length events + 1) c.parents → HasFiles AtLine expected.Event events c.ops c.parents files None
    → (o : Option Signed) → (put_commit (seen_with events aliases) (commit_so_far c files None) o ≡ seen_with (closed_commit events c o) aliases) × IsRead (closed_commit events c o) aliases
commit_ends events aliases s c files b g None = (refl, s)
commit_ends events aliases s c files b g (Some committer) = (
  sym (commit_with events aliases s.so_far c files g committer),
  read_more events s.so_far (that_commit events s.so_far c files g committer) refl aliases s.named (b, g.1, refl),
)

-- where nothing waits, the event that is being read ends in both alike
pub ends_alike : (p : Place) (d : Expected) (k : Known) (files : Option (TreeOf Shown)) → IsRead k.events k.aliases → Goes p d k.events k.current files None → EndsAlike k (ended (seen_with k.events k.aliases) (reading_of k.current files None))
ends_alike p d k files s g = go k.current g
  where
    go : (o : Open) → Goes p d k.events o files None → EndsAlike (record k { current = o }) (ended (seen_with k.events k.aliases) (reading_of o files None))
    go Nothing h = (refl, s)
    go (ABlob mark) h = (refl, s)
    go (ACommit c) h = commit_ends k.events k.aliases s c files h.below h.has_files c.committer
    go (ATag name target tagger mark) h = (refl, s)
    go (AnAlias mark) h = (refl, s)
    go (AReset branch None) h = (sym (reset_with k.events k.aliases s.so_far branch None), read_more k.events s.so_far (plain.Reset (next_id k.events) branch None) refl k.aliases s.named tt)
    go (AReset branch (Some c)) h = (sym (reset_with k.events k.aliases s.so_far branch (Some c)), read_more k.events s.so_far (plain.Reset (next_id k.events) branch (Some c)) refl k.aliases s.named h)

-- ---- a block

-- the blobs of two lists of operations
pub blobs_append : (a b : List FileOp) → blobs_of (a ++ b) ≡ blobs_of a ++ blobs_of b
blobs_append [] b = refl
blobs_append (Modify mode (OfBlob x) path ∷ a) b = ap (λ (l : List ℕ). x ∷ l) (blobs_append a b)
blobs_append (Modify mode (Object digits) path ∷ a) b = blobs_append a b
blobs_append (Delete path ∷ a) b = blobs_append a b
blobs_append (Copy source target ∷ a) b = blobs_append a b
blobs_append (Rename source target ∷ a) b = blobs_append a b
blobs_append (DeleteAll ∷ a) b = blobs_append a b

-- the blobs of one operation more
pub blobs_more : (n : ℕ) (ops : List FileOp) (op : FileOp) → AllBelow n (blobs_of ops) → AllBelow n (blobs_of (op ∷ [])) → AllBelow n (blobs_of (ops ++ op ∷ []))
blobs_more n ops op a b = subst (AllBelow n) (sym (blobs_append ops (op ∷ []))) (all_join (λ x. x < n) (blobs_of ops) (blobs_of (op ∷ [])) a b)

module _ (standing : Standing) (events : List PlainEvent) (aliases : List (ℕ × ℕ)) (r : IsRead events aliases) (bytes : Bytes) where
  abbrev s : IsSoFar events
  s = r.so_far

  abbrev the_blob : PlainEvent
  the_blob = plain.Blob (next_id events) 0 bytes

  abbrev with_it : List PlainEvent
  with_it = with_event events the_blob

  up : length events + 1 ≤ length with_it + 1
  up = omega (arith, length_more events s the_blob refl)

  -- the operation that waits has its bytes
  has_bytes : blob_bytes with_it (next_id events) ≡ bytes
  has_bytes = bytes_new 1 events (the_blob ∷ []) (next_id events) s.placed (omega arith) ∙ own (next_id events == next_id events) (eq-eqb (next_id events) (next_id events) refl)
    where
      own : (b : Bool) → b ≡ true → cond b bytes [] ≡ bytes
      own true h = refl
      own false h = absurd cc

  inline_arrives : (c : OpenCommit) (files : Option (TreeOf Shown)) (waiting : Option (Mode × Bytes)) → CommitGoes AtBlock standing.expected events c.ops c.parents files waiting
      → (new : Option (TreeOf Shown)) × (with_inline bytes (commit_so_far c files waiting) ≡ commit_so_far c new None) × CommitGoes AtLine standing.expected with_it c.ops c.parents new None
  inline_arrives c files None g = (
    files,
    refl,
    record {
      below = all_up (length events + 1) (length with_it + 1) up c.parents g.below;
      first = g.first;
      has_files = (g.has_files.0 ∙ sym (files_kept events s the_blob refl c.ops c.parents g.has_files.1 g.below), all_up (length events + 1) (length with_it + 1) up (blobs_of c.ops) g.has_files.1);
    },
  )
  inline_arrives c files (Some w) g =
      let h = g.has_files in
      let before = h.1 in
      let op = Modify w.0 (OfBlob (next_id events)) w.1 in
      let known = h.4 in (
        changed_files (Put (entry w.0 (ShownBytes bytes)) w.1) files,
        refl,
        record {
          below = all_up (length events + 1) (length with_it + 1) up c.parents g.below;
          first = g.first;
          has_files = (
            ap (λ x. changed_files (Put (entry w.0 (ShownBytes x)) w.1) files) (sym has_bytes)
                ∙ ap (changed_files (Put (entry w.0 (ShownBytes (blob_bytes with_it (next_id events)))) w.1)) (h.3 ∙ sym (files_kept events s the_blob refl before c.parents known g.below))
                ∙ sym (files_more with_it before op c.parents)
                ∙ ap (λ (ops : List FileOp). files_now with_it ops c.parents) (sym h.2),
            subst (λ (ops : List FileOp). AllBelow (length with_it + 1) (blobs_of ops)) (sym h.2)
                (blobs_more (length with_it + 1) before op (all_up (length events + 1) (length with_it + 1) up (blobs_of before) known) (omega (arith, length_more events s the_blob refl), tt)),
          );
        },
      )

  -- a comment leaves the rest of a commit as it was
  comment_arrives : (c : OpenCommit) (files : Option (TreeOf Shown)) (waiting : Option (Mode × Bytes)) → is_inline_expected standing.expected ≡ false → CommitGoes AtBlock standing.expected events c.ops c.parents files waiting → CommitGoes AtLine standing.expected events c.ops c.parents files waiting
  comment_arrives c files None i g = record { below = g.below; first = g.first; has_files = g.has_files }
  comment_arrives c files (Some w) i g =
      let at_operation : is_inline_expected expected.CommitOperation ≡ false = ap is_inline_expected (sym g.has_files.0) ∙ i in
      absurd cc

  -- a block lands in both alike
  pub arrives : (current : Open) (files : Option (TreeOf Shown)) (waiting : Option (Mode × Bytes)) → Goes AtBlock standing.expected events current files waiting
      → Became AtLine standing (with_data (is_inline_expected standing.expected) bytes (record { events = events; current = current; aliases = aliases }))
      (after_data bytes (record { standing = standing; replayed = seen_with events aliases; reading = reading_of current files waiting }))
  arrives Nothing files waiting g = (files, waiting, refl, refl, r, tt)
  arrives (AnAlias mark) files waiting g = (files, waiting, refl, refl, r, tt)
  arrives (ABlob mark) files waiting g = (files, waiting, sym (blob_with events aliases s mark bytes), refl, read_more events s (plain.Blob (next_id events) mark bytes) refl aliases r.named tt, tt)
  arrives (ATag name target tagger mark) files waiting g = (files, waiting, sym (tag_with events aliases s name target tagger bytes mark), refl, read_more events s (plain.Tag (next_id events) name target tagger bytes mark) refl aliases r.named tt, tt)
  arrives (AReset branch None) files waiting g = (files, waiting, refl, refl, r, tt)
  arrives (AReset branch (Some c)) files waiting g = (files, waiting, refl, refl, r, g)
  arrives (ACommit c) files waiting g = go (is_inline_expected standing.expected) refl
    where
      go : (b : Bool) → is_inline_expected standing.expected ≡ b
          → Became AtLine standing (cond b (record { events = with_it; current = ACommit c; aliases = aliases }) (record { events = events; current = ACommit (record c { comment = bytes }); aliases = aliases }))
          (cond b (record { standing = standing; replayed = with_blob (seen_with events aliases) 0 bytes; reading = InCommit (with_inline bytes (commit_so_far c files waiting)) })
          (record { standing = standing; replayed = seen_with events aliases; reading = InCommit (record (commit_so_far c files waiting) { comment = bytes }) }))
      go true i = let x = inline_arrives c files waiting g in (x.0, None, sym (blob_with events aliases s 0 bytes), ap (λ q. InCommit q) x.1, read_more events s the_blob refl aliases r.named tt, x.2)
      go false i = (files, waiting, refl, refl, r, comment_arrives c files waiting i g)
