-- The lines of a stream: which may follow which, and what each means (git-fast-import, "Input format"; the kinds of
-- defects and what is left out: own).
use Rattle.std.specs.Prelude.{◌≡◌, ◌⊎◌, ℕ, zero, suc, ◌&&◌, ◌||◌, not, Bool, true, false, List, [], ◌∷◌, ◌++◌, Option, Some, None, Result, Ok, Err, codes, bytes_eq, is_some, option_to_list, if◌then◌else◌}
use Rattle.plain_model.specs.declared.fault.Why.{Why}
use Rattle.plain_model.specs.declared.fault.Why.TheVariants.{UnknownLine, MissingLine, RepeatedMark, LeftOut, Truncated}
use Rattle.plain_model.specs.declared.person.Signed.{Signed}
use Rattle.plain_model.specs.declared.event.PlainEvent.{PlainEvent}
use Rattle.plain_model.specs.declared.event.PlainEvent.TheVariants as plain
use Rattle.plain_model.specs.Fields.{◌>>=◌, Extent, first_word, after_space, mark_in, name_in, person_in, extent_in, is_left_out_word}
use Rattle.plain_model.specs.Fields.Extent.{Counted, Delimited}
use Rattle.plain_model.specs.Parts.{begins}
use Rattle.plain_model.specs.Paths.{Bytes}
use Rattle.plain_model.specs.Snapshots.{refs}
use Rattle.plain_model.specs.Trees.{at}
use Rattle.line_automaton.specs.Machine.{Next, Automaton, Outcome, outcome, all, Stops, EndsEarly}
use Rattle.line_automaton.specs.Machine.Next.{More, Block, Until, Over}
use Rattle.line_automaton.specs.Machine.Outcome.{Reads, Refuses, Misses}
use Rattle.stream_grammar.specs.declared.lines.Expected.{Expected}
use Rattle.stream_grammar.specs.declared.lines.Expected.TheVariants as expected
use Rattle.stream_grammar.specs.declared.lines.Follow.{Follow}
use Rattle.stream_grammar.specs.declared.lines.Follow.TheVariants.{Goes, Missing, Finished}
use Rattle.stream_grammar.specs.declared.lines.Standing.{Standing}
use Rattle.stream_grammar.specs.declared.lines.Word.{Word}
use Rattle.stream_grammar.specs.declared.lines.Word.TheVariants as word
use Rattle.stream_grammar.specs.Known.{Known, OpenCommit, Open, closed, with_data, with_event, next_id, ensure, is_known_mark, ref_in, op_after, with_parent, history_of}
use Rattle.stream_grammar.specs.Known.Open.{Nothing, ABlob, ACommit, ATag, AReset, AnAlias}

-- ---- words

-- what is after the first space, empty if there is none
abbrev pub text_of : Bytes → Bytes
text_of line = elim (after_space line) [ None ↦ [] | Some text ↦ text ]

-- an operation whose content is `inline`
abbrev pub is_inline : Bytes → Bool
is_inline line = bytes_eq (first_word (text_of (text_of line))) (codes "inline")

abbrev pub is_operation : Bytes → Bool
is_operation word = bytes_eq word (codes "M") || bytes_eq word (codes "D") || bytes_eq word (codes "C") || bytes_eq word (codes "R")

-- a keyword that has any text after it
abbrev pub has_text : Bytes → Bytes → Bool
has_text keyword line = bytes_eq (first_word line) keyword && is_some (after_space line)

-- a line of no event and no field of one
abbrev pub other_word : Bytes → Word
other_word line =
    let first = first_word line in
    if bytes_eq first (codes "M") && is_inline line then word.InlineOperation else
    if is_operation first || bytes_eq line (codes "deleteall") then word.Operation else
    if bytes_eq line (codes "feature done") then word.FeatureDone else
    if has_text (codes "progress") line || has_text (codes "feature") line || has_text (codes "option") line || bytes_eq line (codes "checkpoint") then word.Pass else
    if bytes_eq line (codes "done") then word.Done else
    if is_left_out_word first then word.LeftOut else word.Other

-- a line that begins no event
abbrev pub field_word : Bytes → Word
field_word line =
    let first = first_word line in
    if bytes_eq first (codes "author") then word.Author else
    if bytes_eq first (codes "committer") then word.Committer else
    if has_text (codes "encoding") line then word.Encoding else
    if bytes_eq first (codes "data") then word.Data else
    if bytes_eq first (codes "from") then word.From else
    if bytes_eq first (codes "merge") then word.Merge else
    if bytes_eq first (codes "tagger") then word.Tagger else
    if bytes_eq line (codes "alias") then word.Alias else
    if bytes_eq first (codes "to") then word.To else other_word line

abbrev pub word_of : Bytes → Word
word_of line =
    let first = first_word line in
    if bytes_eq line [] then word.Empty else
    if bytes_eq line (codes "blob") then word.Blob else
    if bytes_eq first (codes "commit") then word.Commit else
    if bytes_eq first (codes "tag") then word.Tag else
    if bytes_eq first (codes "reset") then word.Reset else
    if bytes_eq first (codes "mark") then word.Mark else
    if has_text (codes "original-oid") line then word.Oid else field_word line

abbrev pub is_comment : Bytes → Bool
is_comment line = begins (codes "#") line

-- ---- what may follow

abbrev pub follows : Expected → Word → Follow
follows expected.Event w = Finished
follows expected.BlobMark word.Mark = Goes expected.BlobOid
follows expected.BlobMark word.Oid = Goes expected.BlobData
follows expected.BlobMark word.Data = Goes expected.Event
follows expected.BlobMark w = Missing
follows expected.BlobOid word.Oid = Goes expected.BlobData
follows expected.BlobOid word.Data = Goes expected.Event
follows expected.BlobOid w = Missing
follows expected.BlobData word.Data = Goes expected.Event
follows expected.BlobData w = Missing
follows expected.CommitMark word.Mark = Goes expected.CommitOid
follows expected.CommitMark word.Oid = Goes expected.CommitAuthor
follows expected.CommitMark word.Author = Goes expected.CommitCommitter
follows expected.CommitMark word.Committer = Goes expected.CommitEncoding
follows expected.CommitMark w = Missing
follows expected.CommitOid word.Oid = Goes expected.CommitAuthor
follows expected.CommitOid word.Author = Goes expected.CommitCommitter
follows expected.CommitOid word.Committer = Goes expected.CommitEncoding
follows expected.CommitOid w = Missing
follows expected.CommitAuthor word.Author = Goes expected.CommitCommitter
follows expected.CommitAuthor word.Committer = Goes expected.CommitEncoding
follows expected.CommitAuthor w = Missing
follows expected.CommitCommitter word.Committer = Goes expected.CommitEncoding
follows expected.CommitCommitter w = Missing
follows expected.CommitEncoding word.Encoding = Goes expected.CommitData
follows expected.CommitEncoding word.Data = Goes expected.CommitFrom
follows expected.CommitEncoding w = Missing
follows expected.CommitData word.Data = Goes expected.CommitFrom
follows expected.CommitData w = Missing
follows expected.CommitFrom word.From = Goes expected.CommitMerge
follows expected.CommitFrom word.Merge = Goes expected.CommitMerge
follows expected.CommitFrom word.Operation = Goes expected.CommitOperation
follows expected.CommitFrom word.InlineOperation = Goes expected.InlineData
follows expected.CommitFrom w = Finished
follows expected.CommitMerge word.Merge = Goes expected.CommitMerge
follows expected.CommitMerge word.Operation = Goes expected.CommitOperation
follows expected.CommitMerge word.InlineOperation = Goes expected.InlineData
follows expected.CommitMerge w = Finished
follows expected.CommitOperation word.Operation = Goes expected.CommitOperation
follows expected.CommitOperation word.InlineOperation = Goes expected.InlineData
follows expected.CommitOperation w = Finished
follows expected.InlineData word.Data = Goes expected.CommitOperation
follows expected.InlineData w = Missing
follows expected.TagMark word.Mark = Goes expected.TagFrom
follows expected.TagMark word.From = Goes expected.TagOid
follows expected.TagMark w = Missing
follows expected.TagFrom word.From = Goes expected.TagOid
follows expected.TagFrom w = Missing
follows expected.TagOid word.Oid = Goes expected.TagTagger
follows expected.TagOid word.Tagger = Goes expected.TagData
follows expected.TagOid word.Data = Goes expected.Event
follows expected.TagOid w = Missing
follows expected.TagTagger word.Tagger = Goes expected.TagData
follows expected.TagTagger word.Data = Goes expected.Event
follows expected.TagTagger w = Missing
follows expected.TagData word.Data = Goes expected.Event
follows expected.TagData w = Missing
follows expected.ResetFrom word.From = Goes expected.ResetEnd
follows expected.ResetFrom w = Finished
follows expected.ResetEnd w = Finished
follows expected.AliasMark word.Mark = Goes expected.AliasTo
follows expected.AliasMark w = Missing
follows expected.AliasTo word.To = Goes expected.Event
follows expected.AliasTo w = Missing

-- the event can't end here
abbrev pub is_required : Expected → Bool
is_required expected.Event = false
is_required expected.CommitFrom = false
is_required expected.CommitMerge = false
is_required expected.CommitOperation = false
is_required expected.ResetFrom = false
is_required expected.ResetEnd = false
is_required _ = true

-- a stream can't end here: in an event that misses a line, or where `done` was promised
abbrev pub must_go_on : Standing → Bool
must_go_on s = is_required s.expected || s.wants_done

-- ---- the meaning of a line

abbrev pub begun_with : Known → Open → Known
begun_with k event = record k { events = closed k; current = event }

-- a commit on a branch begins after the branch's tip, if there is one
abbrev pub commit_on : Known → Bytes → Open
commit_on k branch = ACommit (record {
  branch = branch;
  mark = 0;
  author = None;
  committer = None;
  encoding = None;
  comment = [];
  parents = option_to_list (at (refs (closed k)) branch);
  ops = [];
})

abbrev pub with_mark : ℕ → Open → Open
with_mark mark (ABlob m) = ABlob mark
with_mark mark (ACommit c) = ACommit (record c { mark = mark })
with_mark mark (ATag name target tagger m) = ATag name target tagger (Some mark)
with_mark mark (AnAlias m) = AnAlias mark
with_mark mark Nothing = Nothing
with_mark mark (AReset branch target) = AReset branch target

-- the same with a change of the commit
abbrev pub with_commit : (OpenCommit → OpenCommit) → Open → Open
with_commit change (ACommit c) = ACommit (change c)
with_commit change event = event

-- the commit that `from` names
abbrev pub with_from : ℕ → Open → Open
with_from commit (ACommit c) = ACommit (record c { parents = commit ∷ [] })
with_from commit (ATag name target tagger mark) = ATag name commit tagger mark
with_from commit (AReset branch target) = AReset branch (Some commit)
with_from commit event = event

abbrev pub with_tagger : Signed → Open → Open
with_tagger who (ATag name target tagger mark) = ATag name target (Some who) mark
with_tagger who event = event

abbrev pub with_operation : Known → Bytes → Result Known Why
with_operation k line = elim k.current [
  | ACommit c ↦ op_after k.events c line >>= λ op. Ok (record k { current = ACommit (record c { ops = c.ops ++ op ∷ [] }) })
  | Nothing ↦ Ok k
  | ABlob mark ↦ Ok k
  | ATag name target tagger mark ↦ Ok k
  | AReset branch target ↦ Ok k
  | AnAlias mark ↦ Ok k
]

-- a feature that is left out: marks from a file, and dates in another form than raw
abbrev pub is_left_out_feature : Bytes → Bool
is_left_out_feature line =
    begins (codes "feature import-marks") line
    || begins (codes "feature date-format=") line && not (bytes_eq line (codes "feature date-format=raw"))

abbrev pub passed : Known → Bytes → Known
passed k line = record k { events = with_event (closed k) (plain.Pass (next_id (closed k)) line); current = Nothing }

abbrev pub changed : Known → (Open → Open) → Known
changed k change = record k { current = change k.current }

-- the alias that is being read names the commit, and is there once it has its mark
abbrev pub aliased : ℕ → Known → Known
aliased commit k = elim k.current [
  | AnAlias zero ↦ k
  | AnAlias (suc m) ↦ record k { current = Nothing; aliases = k.aliases ++ (suc m, commit) ∷ [] }
  | Nothing ↦ k
  | ABlob mark ↦ k
  | ACommit c ↦ k
  | ATag name target tagger mark ↦ k
  | AReset branch target ↦ k
]

-- what is known after a line, whose fields are judged from left to right
abbrev pub judged : Word → Bytes → Known → Result Known Why
judged word.Blob line k = Ok (begun_with k (ABlob 0))
judged word.Commit line k = name_in (text_of line) >>= λ branch. Ok (begun_with k (commit_on k branch))
judged word.Tag line k = name_in (text_of line) >>= λ name. Ok (begun_with k (ATag name 0 None None))
judged word.Reset line k = name_in (text_of line) >>= λ branch. Ok (begun_with k (AReset branch None))
judged word.Mark line k =
    mark_in (text_of line) >>= λ mark.
    ensure (not (is_known_mark k mark)) RepeatedMark >>= λ new.
    Ok (changed k (with_mark mark))
judged word.Author line k = person_in (text_of line) >>= λ who. Ok (changed k (with_commit (λ c. record c { author = Some who })))
judged word.Committer line k = person_in (text_of line) >>= λ who. Ok (changed k (with_commit (λ c. record c { committer = Some who })))
judged word.Encoding line k = Ok (changed k (with_commit (λ c. record c { encoding = Some (text_of line) })))
judged word.Tagger line k = person_in (text_of line) >>= λ who. Ok (changed k (with_tagger who))
judged word.From line k = ref_in k.events k.aliases (text_of line) >>= λ commit. Ok (changed k (with_from commit))
judged word.Merge line k = ref_in k.events k.aliases (text_of line) >>= λ commit. Ok (changed k (with_commit (with_parent commit)))
judged word.Operation line k = with_operation k line
judged word.InlineOperation line k = with_operation k line
judged word.Pass line k = ensure (not (is_left_out_feature line)) LeftOut >>= λ kept. Ok (passed k line)
judged word.FeatureDone line k = Ok (passed k line)
judged word.Alias line k = Ok (begun_with k (AnAlias 0))
judged word.To line k = ref_in k.events k.aliases (text_of line) >>= λ commit. Ok (aliased commit k)
judged word.Empty line k = Ok k
judged word.Oid line k = Ok k
judged word.Data line k = Ok k
judged word.Done line k = Ok k
judged word.LeftOut line k = Ok k
judged word.Other line k = Ok k

-- ---- the form of a stream

-- where a stream is after a line between events
abbrev pub begun_by : Standing → Word → Result Standing Why
begun_by s word.Blob = Ok (record s { expected = expected.BlobMark })
begun_by s word.Commit = Ok (record s { expected = expected.CommitMark })
begun_by s word.Tag = Ok (record s { expected = expected.TagMark })
begun_by s word.Reset = Ok (record s { expected = expected.ResetFrom })
begun_by s word.Alias = Ok (record s { expected = expected.AliasMark })
begun_by s word.Pass = Ok (record s { expected = expected.Event })
begun_by s word.FeatureDone = Ok (record { expected = expected.Event; wants_done = true })
begun_by s word.Done = Ok (record { expected = expected.Event; wants_done = false })
begun_by s word.Empty = Ok (record s { expected = expected.Event })
begun_by s w = Err UnknownLine

abbrev pub gone_on : Standing → Word → Follow → Result Standing Why
gone_on s w (Goes expected) = Ok (record s { expected = expected })
gone_on s w Missing = Err MissingLine
gone_on s w Finished = begun_by s w

-- where a stream is after a line of such a word; a word that is left out is so wherever a line is expected
abbrev pub after_word : Standing → Word → Result Standing Why
after_word s word.LeftOut = Err LeftOut
after_word s w = gone_on s w (follows s.expected w)

-- how far the block after a data line goes; the delimiter is after `data <<`
abbrev pub next_by : Extent → Next
next_by (Counted n) = Block n
next_by (Delimited delimiter) = Until 7

-- what follows a line
abbrev pub next_of : Word → Bytes → Result Next Why
next_of word.Data line = extent_in line >>= λ extent. Ok (next_by extent)
next_of word.Done line = Ok Over
next_of w line = Ok More

-- ---- the grammar as an automaton

-- What was read so far: where the stream is, the lines and blocks as they are spelled, the last first, and what is
-- known of the events.
pub record State : Type 0 where
  pub standing : Standing
  pub spelled : List Bytes
  pub known : Known

abbrev pub looked_at : Bool → Word → Bytes → Known → Result Known Why
looked_at judge w line k = if judge then judged w line k else Ok k

-- the state after a line, and what follows it
abbrev pub read_on : State → Bytes → Standing → Next → Known → Result (State × Next) Why
read_on s line standing next known = Ok (record { standing = standing; spelled = line ∷ s.spelled; known = known }, next)

-- a line that is no comment: it may be there, what follows it is known, and then its fields are looked at
abbrev pub word_step : Bool → State → Bytes → Word → Result (State × Next) Why
word_step judge s line w =
    after_word s.standing w >>= λ standing.
    next_of w line >>= λ next.
    looked_at judge w line s.known >>= λ known.
    read_on s line standing next known

-- a comment may be wherever a line is expected
abbrev pub line_step : Bool → State → Bytes → Result (State × Next) Why
line_step judge s line = if is_comment line then Ok (s, More) else word_step judge s line (word_of line)

-- the bytes after an operation's line, and not a comment, where the commit's operations have begun
abbrev pub is_inline_expected : Expected → Bool
is_inline_expected expected.CommitOperation = true
is_inline_expected _ = false

abbrev pub data_arrived : State → Bytes → State
data_arrived s bytes = record s { spelled = bytes ∷ s.spelled; known = with_data (is_inline_expected s.standing.expected) bytes s.known }

abbrev pub nothing_known : Known
nothing_known = record { events = []; current = Nothing; aliases = [] }

abbrev pub stream : Automaton State Why
stream = record {
  start = record { standing = record { expected = expected.Event; wants_done = false }; spelled = []; known = nothing_known };
  step = line_step;
  arrived = data_arrived;
  is_expected = λ s. must_go_on s.standing;
}

-- the same standing and lines, whatever is known of the events
abbrev pub AreSpelledAlike : State → State → Type 0
AreSpelledAlike s t = (s.standing ≡ t.standing) × (s.spelled ≡ t.spelled)

-- ---- the history of a text

abbrev pub history_read : Outcome State Why → Option (List PlainEvent)
history_read (Reads s) = Some (history_of s.known)
history_read (Refuses n why) = None
history_read (Misses n) = None

-- the history that a text gives, if it is a stream
abbrev pub history_in : Bytes → Option (List PlainEvent)
history_in bytes = history_read (outcome stream all bytes)

-- ---- the first defect of a text

-- the line and the kind of the defect, if there is one; what ends too early is truncated
abbrev pub defect_of : Outcome State Why → Option (ℕ × Why)
defect_of (Reads s) = None
defect_of (Refuses n why) = Some (n, why)
defect_of (Misses n) = Some (n, Truncated)

abbrev pub defect_in : Bytes → Option (ℕ × Why)
defect_in bytes = defect_of (outcome stream all bytes)

-- the same by other texts: the text stops there, or it ends early
abbrev pub IsFirstDefect : Bytes → ℕ → Why → Type 0
IsFirstDefect bytes n why = Stops stream bytes n why ⊎ (why ≡ Truncated) × EndsEarly stream bytes n
