-- The limits of a stream that is read, and what a stream gives: its history, or why there is none. (own)
use Rattle.std.specs.Prelude.{ℕ, ◌+◌, ◌==◌, nat_lt, List, [], ◌∷◌, length, Option, Some, None, Result, Ok, Err, if◌then◌else◌}
use Rattle.plain_model.specs.declared.event.PlainEvent.{PlainEvent}
use Rattle.plain_model.specs.declared.event.PlainEvent.TheVariants as plain
use Rattle.plain_model.specs.declared.fault.Fault.{Fault}
use Rattle.plain_model.specs.declared.fault.Fault.TheVariants as fault
use Rattle.plain_model.specs.declared.fault.Which.{Which}
use Rattle.plain_model.specs.declared.fault.Which.TheVariants.{Commands, LineBytes, Events, Operations, Parents, Aliases, PathBytes, Paths, NameBytes}
use Rattle.plain_model.specs.declared.fault.Why.{Why}
use Rattle.plain_model.specs.declared.fault.Why.TheVariants.{Truncated}
use Rattle.plain_model.specs.declared.operation.FileOp.{FileOp}
use Rattle.plain_model.specs.declared.limit.TheConstants.{MAX_ALIASES, MAX_COMMANDS, MAX_LINE_BYTES, MAX_NAME_BYTES, MAX_EVENTS, MAX_OPERATIONS, MAX_PARENTS, MAX_PATH_BYTES, MAX_PATHS, MAX_MARK}
use Rattle.plain_model.specs.Histories.{begun, folded, tree}
use Rattle.plain_model.specs.Paths.{Bytes}
use Rattle.plain_model.specs.Trees.{Tree, Refusal, apply}
use Rattle.plain_model.specs.Trees.Refusal.{MissingSource, PathBytes as LongPath, Paths as ManyPaths}
use Rattle.history_laws.specs.Counts.{ops_in}
use Rattle.line_automaton.specs.Limits.{Cause, limited}
use Rattle.line_automaton.specs.Limits.Cause.{Defect, Exceeds}
use Rattle.line_automaton.specs.Machine.{Automaton, Outcome, outcome, all}
use Rattle.line_automaton.specs.Machine.Outcome.{Reads, Refuses, Misses}
use Rattle.stream_grammar.specs.declared.lines.Word.{Word}
use Rattle.stream_grammar.specs.declared.lines.Word.TheVariants as word
use Rattle.stream_grammar.specs.Known.{Known, Open, closed, greatest_read, history_of}
use Rattle.stream_grammar.specs.Known.Open.{Nothing, ABlob, ACommit, ATag, AReset, AnAlias}
use Rattle.stream_grammar.specs.Lines.{State, stream, word_of, is_comment, judged}

-- ---- what is counted

-- the event that is being read is one; an alias is none
abbrev pub open_count : Open → ℕ
open_count Nothing = 0
open_count (ABlob mark) = 1
open_count (ACommit c) = 1
open_count (ATag name target tagger mark) = 1
open_count (AReset branch target) = 1
open_count (AnAlias mark) = 0

abbrev pub event_count : Known → ℕ
event_count k = length k.events + open_count k.current

abbrev pub open_ops : Open → ℕ
open_ops (ACommit c) = length c.ops
open_ops Nothing = 0
open_ops (ABlob mark) = 0
open_ops (ATag name target tagger mark) = 0
open_ops (AReset branch target) = 0
open_ops (AnAlias mark) = 0

abbrev pub op_count : Known → ℕ
op_count k = ops_in k.events + open_ops k.current

abbrev pub open_parents : Open → ℕ
open_parents (ACommit c) = length c.parents
open_parents Nothing = 0
open_parents (ABlob mark) = 0
open_parents (ATag name target tagger mark) = 0
open_parents (AReset branch target) = 0
open_parents (AnAlias mark) = 0

-- the alias that is being read is one
abbrev pub open_aliases : Open → ℕ
open_aliases (AnAlias mark) = 1
open_aliases Nothing = 0
open_aliases (ABlob mark) = 0
open_aliases (ACommit c) = 0
open_aliases (ATag name target tagger mark) = 0
open_aliases (AReset branch target) = 0

abbrev pub known_aliases : Known → ℕ
known_aliases k = length k.aliases + open_aliases k.current

-- ---- which limit a line passes

abbrev pub limit_if : ℕ → ℕ → Which → Option Which → Option Which
limit_if most count which other = if nat_lt most count then Some which else other

-- a source that isn't there is a defect, and no limit
abbrev pub limit_of_refusal : Refusal → Option Which
limit_of_refusal MissingSource = None
limit_of_refusal LongPath = Some PathBytes
limit_of_refusal ManyPaths = Some Paths

abbrev pub limit_of_tree : Result Tree Refusal → Option Which
limit_of_tree (Ok t) = None
limit_of_tree (Err r) = limit_of_refusal r

abbrev pub limit_on : FileOp → Option Tree → Option Which
limit_on op None = None
limit_on op (Some t) = limit_of_tree (apply op t)

-- the limit that the last of some operations passes, on the tree that those before it have left
abbrev pub last_limit : List FileOp → Option Tree → Option Which
last_limit [] t = None
last_limit (op ∷ []) t = limit_on op t
last_limit (op ∷ other ∷ ops) t = last_limit (other ∷ ops) (folded (op ∷ []) t)

-- the same of a commit that is being read, whose operations begin on the tree of its first parent
abbrev pub tree_limit : Known → Option Which
tree_limit k = elim k.current [
  | ACommit c ↦ last_limit c.ops (begun (tree k.events) c.parents)
  | Nothing ↦ None
  | ABlob mark ↦ None
  | ATag name target tagger mark ↦ None
  | AReset branch target ↦ None
  | AnAlias mark ↦ None
]

-- the first of these limits: events with so many more, operations, and paths in the commit's tree
abbrev pub op_limit : ℕ → Known → Option Which
op_limit more k = limit_if MAX_EVENTS (event_count k + more) Events (limit_if MAX_OPERATIONS (op_count k) Operations (tree_limit k))

-- The limit that a line of this word passes, after which so much is known. An event counts at its first line, the blob of
-- bytes that follow an operation and the operation at the operation's line, a parent and the `deleteall` that is put in at
-- the line of a merge.
abbrev pub limit_at : Word → Known → Option Which
limit_at word.Blob k = limit_if MAX_EVENTS (event_count k) Events None
limit_at word.Commit k = limit_if MAX_EVENTS (event_count k) Events None
limit_at word.Tag k = limit_if MAX_EVENTS (event_count k) Events None
limit_at word.Reset k = limit_if MAX_EVENTS (event_count k) Events None
limit_at word.Pass k = limit_if MAX_EVENTS (event_count k) Events None
limit_at word.FeatureDone k = limit_if MAX_EVENTS (event_count k) Events None
limit_at word.Operation k = op_limit 0 k
limit_at word.InlineOperation k = op_limit 1 k
limit_at word.Merge k = limit_if MAX_OPERATIONS (op_count k) Operations (limit_if MAX_PARENTS (open_parents k.current) Parents None)
limit_at word.Alias k = limit_if MAX_ALIASES (known_aliases k) Aliases None
limit_at word.Empty k = None
limit_at word.Mark k = None
limit_at word.Oid k = None
limit_at word.Author k = None
limit_at word.Committer k = None
limit_at word.Encoding k = None
limit_at word.Data k = None
limit_at word.From k = None
limit_at word.Tagger k = None
limit_at word.To k = None
limit_at word.Done k = None
limit_at word.LeftOut k = None
limit_at word.Other k = None

-- the same of a line and the state after it; a comment passes none
abbrev pub exceeded : Bytes → State → Option Which
exceeded line s = if is_comment line then None else limit_at (word_of line) s.known

-- the grammar within its limits; at one line a defect comes first
abbrev pub stream_within : Automaton State (Cause Why Which)
stream_within = limited stream exceeded

-- what is known after a line, unless it passes a limit
abbrev pub within_limit : Option Which → Known → Result Known (Cause Why Which)
within_limit None k = Ok k
within_limit (Some which) k = Err (Exceeds which)

abbrev pub after_judged : Word → Result Known Why → Result Known (Cause Why Which)
after_judged w (Err why) = Err (Defect why)
after_judged w (Ok k) = within_limit (limit_at w k) k

-- what is known after a line: its fields are judged from left to right, and then the limits
abbrev pub judged_within : Word → Bytes → Known → Result Known (Cause Why Which)
judged_within w line k = after_judged w (judged w line k)

-- ---- what a stream gives

-- the number of a limit
abbrev pub limit_number : Which → ℕ
limit_number Events = MAX_EVENTS
limit_number Operations = MAX_OPERATIONS
limit_number Parents = MAX_PARENTS
limit_number PathBytes = MAX_PATH_BYTES
limit_number Paths = MAX_PATHS
limit_number Aliases = MAX_ALIASES
limit_number NameBytes = MAX_NAME_BYTES
limit_number Commands = MAX_COMMANDS
limit_number LineBytes = MAX_LINE_BYTES

-- 1 where there is no mark, else 0
abbrev pub want_of : ℕ → ℕ
want_of mark = if mark == 0 then 1 else 0

-- 1 for a blob or a commit without a mark, else 0
abbrev pub own_want : PlainEvent → ℕ
own_want (plain.Blob id mark bytes) = want_of mark
own_want (plain.Commit id mark branch author committer encoding comment parents ops aliases) = want_of mark
own_want (plain.Tag id name target tagger comment mark) = 0
own_want (plain.Reset id branch target) = 0
own_want (plain.Pass id line) = 0

-- how many blobs and commits have no mark
abbrev pub unmarked_count : List PlainEvent → ℕ
unmarked_count [] = 0
unmarked_count (e ∷ events) = own_want e + unmarked_count events

-- the greatest mark, once each blob and commit has one
abbrev pub last_mark : Known → ℕ
last_mark k = greatest_read k + unmarked_count (closed k)

-- what was read, unless more marks are wanted than there are
abbrev pub unless_spent : Known → Result (List PlainEvent) Fault
unless_spent k = if nat_lt MAX_MARK (last_mark k) then Err fault.MarksSpent else Ok (history_of k)

abbrev pub fault_of : ℕ → Cause Why Which → Fault
fault_of n (Defect why) = fault.BadStream n why
fault_of n (Exceeds which) = fault.Limit which (limit_number which)

abbrev pub known_given : Outcome State (Cause Why Which) → Result Known Fault
known_given (Reads s) = Ok s.known
known_given (Refuses n cause) = Err (fault_of n cause)
known_given (Misses n) = Err (fault.BadStream n Truncated)

-- What is known after all lines of a text, or the first line that has a defect or passes a limit, or the end that comes
-- too early.
abbrev pub known_in : Bytes → Result Known Fault
known_in bytes = known_given (outcome stream_within all bytes)

abbrev pub if_known : Result Known Fault → Result (List PlainEvent) Fault
if_known (Ok k) = unless_spent k
if_known (Err fault) = Err fault

-- the history of a stream, or why there is none; that the marks are spent comes last
abbrev pub stream_of : Bytes → Result (List PlainEvent) Fault
stream_of bytes = if_known (known_in bytes)
