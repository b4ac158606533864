-- What is known of a stream by what was built of it.
use Rattle.std.specs.Prelude.{◌≡◌, ℕ, ◌≤◌, List, [], ◌∷◌, ◌++◌, Bool, true, false, Result, Ok, Err}
use Rattle.plain_model.specs.declared.event.PlainEvent.{PlainEvent}
use Rattle.plain_model.specs.declared.limit.TheConstants.{MAX_OPERATIONS}
use Rattle.plain_model.specs.declared.operation.FileOp.{FileOp}
use Rattle.stream_grammar.specs.Known.{Known, OpenCommit as KnownCommit, Open as KnownOpen}
use Rattle.stream_grammar.specs.Known.Open.{Nothing as NoEvent, ABlob, ACommit, ATag, AReset, AnAlias}
use Rattle.plain_model.specs.declared.fault.Which.{Which}
use Rattle.plain_model.specs.declared.fault.Why.{Why}
use Rattle.line_automaton.specs.Limits.{Cause}
use Rattle.line_automaton.specs.Limits.Cause.{Defect}
use Rattle.stream_grammar.specs.Limits.{op_count, op_limit, within_limit}
use Rattle.stream_drafts.specs.Events.{number_or_0}
use Rattle.stream_builder.specs.declared.known.Trees.{Trees}
use Rattle.stream_builder.specs.declared.open.Open.{Open}
use Rattle.stream_builder.specs.declared.open.Open.TheVariants.{Nothing, Blob, Commit, Tag, Reset, Alias}
use Rattle.stream_builder.specs.declared.open.OpenCommit.{OpenCommit}
use Rattle.stream_builder.specs.Agreement.{TreesAgree}

abbrev pub commit_of : OpenCommit → KnownCommit
commit_of c = record {
  branch = c.branch;
  mark = number_or_0 c.mark;
  author = c.author;
  committer = c.committer;
  encoding = c.encoding;
  comment = c.comment;
  parents = c.parents;
  ops = c.ops;
}

abbrev pub open_of : Open → KnownOpen
open_of Nothing = NoEvent
open_of (Blob mark) = ABlob (number_or_0 mark)
open_of (Commit c) = ACommit (commit_of c)
open_of (Tag name target tagger mark) = ATag name target tagger mark
open_of (Reset branch target) = AReset branch target
open_of (Alias mark) = AnAlias (number_or_0 mark)

-- the parents and the operations of the commit that is being read, if one is
abbrev pub parents_in : Open → List ℕ
parents_in (Commit c) = c.parents
parents_in Nothing = []
parents_in (Blob mark) = []
parents_in (Tag name target tagger mark) = []
parents_in (Reset branch target) = []
parents_in (Alias mark) = []

abbrev pub ops_in : Open → List FileOp
ops_in (Commit c) = c.ops
ops_in Nothing = []
ops_in (Blob mark) = []
ops_in (Tag name target tagger mark) = []
ops_in (Reset branch target) = []
ops_in (Alias mark) = []

abbrev pub known_of : List PlainEvent → List (ℕ × ℕ) → Open → Known
known_of events aliases current = record { events = events; current = open_of current; aliases = aliases }

-- what is kept beside the events: the trees, and how many operations there are
pub record IsBuilt (events : List PlainEvent) (current : Open) (trees : Trees) (ops : ℕ) : Type 0 where
  pub agrees : TreesAgree trees events (parents_in current) (ops_in current)
  pub counted : ops ≡ op_count (known_of events [] current)
  pub within : ops ≤ MAX_OPERATIONS

-- what is known once one more operation is after those of the commit that is being read
abbrev pub with_op : Known → KnownCommit → FileOp → Known
with_op k c op = record k { current = ACommit (record c { ops = c.ops ++ op ∷ [] }) }

abbrev pub is_commit : KnownOpen → Bool
is_commit (ACommit c) = true
is_commit NoEvent = false
is_commit (ABlob mark) = false
is_commit (ATag name target tagger mark) = false
is_commit (AReset branch target) = false
is_commit (AnAlias mark) = false

-- what is known after an operation with so many events that it brings along, unless it passes a limit
abbrev pub after_operation : ℕ → Result Known Why → Result Known (Cause Why Which)
after_operation more (Err why) = Err (Defect why)
after_operation more (Ok k) = within_limit (op_limit more k) k
