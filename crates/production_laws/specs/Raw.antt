-- Events as they are spelled, each field at its place, and the history of a list of them (git-fast-import, "Input format").
use Rattle.std.specs.Prelude.{◌≡◌, ◌++◌, bytes_eq, Bool, true, false, not, List, [], ◌∷◌, ℕ, Option, Some, None, Result, Ok, Err, codes, map, if◌then◌else◌}
use Rattle.std.specs.List.{list_any}
use Rattle.plain_model.specs.declared.event.PlainEvent.{PlainEvent}
use Rattle.plain_model.specs.declared.fault.Why.{Why}
use Rattle.plain_model.specs.declared.fault.Why.TheVariants.{BadMark, BadMode, BadPath, LeftOut, MissingSource, RepeatedMark, UnknownLine, UnknownMark, UnknownRef}
use Rattle.plain_model.specs.declared.operation.FileOp.{FileOp}
use Rattle.plain_model.specs.declared.operation.FileOp.TheVariants.{Copy, Delete, DeleteAll, Modify, Rename}
use Rattle.plain_model.specs.declared.raw.RawOp.{RawOp}
use Rattle.plain_model.specs.declared.raw.RawOp.TheVariants as rawop
use Rattle.plain_model.specs.declared.person.Signed.{Signed}
use Rattle.plain_model.specs.Fields.{◌>>=◌, after_space, first_word, last_path_in, mark_in, modify_in, name_in, or_defect, paths_in, person_in}
use Rattle.plain_model.specs.Parts.{begins}
use Rattle.plain_model.specs.Paths.{Bytes, is_empty}
use Rattle.plain_model.specs.Snapshots.{refs}
use Rattle.plain_model.specs.Trees.{at}
use Rattle.stream_grammar.specs.declared.lines.Word.{Word}
use Rattle.stream_grammar.specs.declared.lines.Word.TheVariants as word
use Rattle.stream_grammar.specs.Known.{Known, OpenCommit, commit_with, ensure, has_source, history_of, is_known_mark, is_left_out_ref, placed, tree_now, with_data, with_parent}
use Rattle.stream_grammar.specs.Known.Open.{ABlob, ACommit, AReset, ATag, AnAlias, Nothing}
use Rattle.stream_grammar.specs.Lines.{aliased, begun_with, changed, commit_on, is_left_out_feature, nothing_known, passed, text_of, with_commit, with_from, with_mark, with_tagger, word_of}
use Rattle.production_laws.specs.Productions.{Form, IsEnd, Item, is_promise, lines_of}
use Rattle.production_laws.specs.Productions.Item.{Many, One, Operations, Perhaps}
use Rattle.production_laws.specs.Texts.{HasParts, Part, words_of}
use Rattle.production_laws.specs.Texts.Part.{Comment, DoneLine, Line, WithData}

-- ---- fields

-- a commit as a line names it: by a mark, or as the tip of a branch
pub data Ref : Type 0 where
  OfMark : ℕ → Ref
  OfBranch : Bytes → Ref

unfoldable pub ref_spelled : Bytes → Result Ref Why
ref_spelled text =
    if is_empty text then Err BadMark else
    if is_left_out_ref text then Err LeftOut else
    if begins (codes ":") text then (mark_in text >>= λ mark. Ok (OfMark mark)) else Ok (OfBranch text)

-- an operation as its line spells it; of the lines of an operation only `deleteall` has another first word
unfoldable pub op_spelled : Bytes → Result RawOp Why
op_spelled line =
    let first = first_word line in
    if bytes_eq first (codes "M") then (or_defect BadMode (after_space line) >>= λ text. modify_in text) else
    if bytes_eq first (codes "D") then (last_path_in (after_space line) >>= λ path. Ok (rawop.Delete path)) else
    if bytes_eq first (codes "C") then (or_defect BadPath (after_space line) >>= λ text. paths_in text >>= λ p. Ok (rawop.Copy p.0 p.1)) else
    if bytes_eq first (codes "R") then (or_defect BadPath (after_space line) >>= λ text. paths_in text >>= λ p. Ok (rawop.Rename p.0 p.1)) else
    Ok rawop.DeleteAll

-- what a line of the word has: a name, a mark, who and when, a commit, an operation, any text, the bytes of a block; a line
-- that is kept whole is there as it is
abbrev pub Field : Word → Type 0
Field word.Commit = Bytes
Field word.Tag = Bytes
Field word.Reset = Bytes
Field word.Mark = ℕ
Field word.Author = Signed
Field word.Committer = Signed
Field word.Tagger = Signed
Field word.Encoding = Bytes
Field word.Data = Bytes
Field word.From = Ref
Field word.Merge = Ref
Field word.To = Ref
Field word.Operation = RawOp
Field word.InlineOperation = RawOp
Field word.Pass = Bytes
Field word.FeatureDone = Bytes
Field _ = Unit {0}

abbrev pub field_in : (w : Word) → Bytes → Result (Field w) Why
field_in word.Blob line = Ok tt
field_in word.Commit line = name_in (text_of line)
field_in word.Tag line = name_in (text_of line)
field_in word.Reset line = name_in (text_of line)
field_in word.Mark line = mark_in (text_of line)
field_in word.Oid line = Ok tt
field_in word.Author line = person_in (text_of line)
field_in word.Committer line = person_in (text_of line)
field_in word.Tagger line = person_in (text_of line)
field_in word.Encoding line = Ok (text_of line)
field_in word.From line = ref_spelled (text_of line)
field_in word.Merge line = ref_spelled (text_of line)
field_in word.Alias line = Ok tt
field_in word.To line = ref_spelled (text_of line)
field_in word.Operation line = op_spelled line
field_in word.InlineOperation line = op_spelled line
field_in word.Pass line = ensure (not (is_left_out_feature line)) LeftOut >>= λ kept. Ok line
field_in word.FeatureDone line = Ok line
field_in word.Empty line = Ok tt
field_in word.Data line = Err UnknownLine
field_in word.Done line = Err UnknownLine
field_in word.LeftOut line = Err LeftOut
field_in word.Other line = Err UnknownLine

-- the part is such a line with this field
abbrev pub Says : (w : Word) → Part → Field w → Type 0
Says w (Line line) x = (word_of line ≡ w) × (field_in w line ≡ Ok x)
Says word.Data (WithData line bytes) x = bytes ≡ x
Says _ part x = ⊥

-- ---- events

-- an operation by itself, or one with `inline` and the bytes that follow it
pub data Spelled : Type 0 where
  Alone : RawOp → Spelled
  WithBytes : RawOp → Bytes → Spelled

-- what each place of an event has: its field; a field or none; any number of them
abbrev pub Value : Item → Type 0
Value (One w) = Field w
Value (Perhaps w) = Option (Field w)
Value (Many w) = List (Field w)
Value Operations = List Spelled

abbrev pub Values : List Item → Type 0
Values [] = Unit {0}
Values (item ∷ items) = Value item × Values items

-- an event as it is spelled
pub record Raw : Type 0 where
  pub form : Form
  pub fields : Values (lines_of form)

-- ---- how they are spelled

abbrev pub AreSaid : (w : Word) → List (Field w) → List Part → List Part → Type 0
AreSaid w [] parts rest = parts ≡ rest
AreSaid w (x ∷ xs) parts rest = (part : Part) × (more : List Part) × (parts ≡ part ∷ more) × Says w part x × AreSaid w xs more rest

abbrev pub AreOperations : List Spelled → List Part → List Part → Type 0
AreOperations [] parts rest = parts ≡ rest
AreOperations (Alone op ∷ ops) parts rest =
    (part : Part) × (more : List Part) × (parts ≡ part ∷ more) × Says word.Operation part op × AreOperations ops more rest
AreOperations (WithBytes op bytes ∷ ops) parts rest =
    (part data_part : Part) × (more : List Part) × (parts ≡ part ∷ data_part ∷ more)
    × Says word.InlineOperation part op × Says word.Data data_part bytes × AreOperations ops more rest

-- the parts begin with lines of these fields, each at its place, and the rest comes after them
abbrev pub AreFields : (items : List Item) → Values items → List Part → List Part → Type 0
AreFields [] fields parts rest = parts ≡ rest
AreFields (One w ∷ items) (x, fields) parts rest =
    (part : Part) × (more : List Part) × (parts ≡ part ∷ more) × Says w part x × AreFields items fields more rest
AreFields (Perhaps w ∷ items) (None, fields) parts rest = AreFields items fields parts rest
AreFields (Perhaps w ∷ items) (Some x, fields) parts rest =
    (part : Part) × (more : List Part) × (parts ≡ part ∷ more) × Says w part x × AreFields items fields more rest
AreFields (Many w ∷ items) (xs, fields) parts rest = (more : List Part) × AreSaid w xs parts more × AreFields items fields more rest
AreFields (Operations ∷ items) (ops, fields) parts rest = (more : List Part) × AreOperations ops parts more × AreFields items fields more rest

abbrev pub AreEvents : List Raw → List Part → List Part → Type 0
AreEvents [] parts rest = parts ≡ rest
AreEvents (raw ∷ raws) parts rest = (more : List Part) × AreFields (lines_of raw.form) raw.fields parts more × AreEvents raws more rest

abbrev pub without_comments : List Part → List Part
without_comments [] = []
without_comments (Comment line ∷ parts) = without_comments parts
without_comments (Line line ∷ parts) = Line line ∷ without_comments parts
without_comments (WithData line bytes ∷ parts) = WithData line bytes ∷ without_comments parts
without_comments (DoneLine line ∷ parts) = DoneLine line ∷ without_comments parts

abbrev pub forms_of : List Raw → List Form
forms_of raws = map (λ raw. raw.form) raws

-- the text spells these events: its lines are theirs, comments left aside, and it ends as a stream does
abbrev pub SpellsRaw : Bytes → List Raw → Type 0
SpellsRaw text raws =
    (parts rest : List Part) × HasParts text parts × AreEvents raws (without_comments parts) rest
    × IsEnd (list_any is_promise (forms_of raws)) (words_of rest)

-- ---- the history

-- the commit that is named, of those so far
abbrev pub named : Known → Ref → Result ℕ Why
named k (OfMark mark) = or_defect UnknownMark (commit_with k.events k.aliases mark)
named k (OfBranch branch) = or_defect UnknownRef (at (refs k.events) branch)

-- the operation, where what it names is there: an earlier blob, or the source in the tree at this point
abbrev pub operation_of : List PlainEvent → OpenCommit → RawOp → Result FileOp Why
operation_of events c (rawop.Modify mode raw path) = placed events raw >>= λ content. Ok (Modify mode content path)
operation_of events c (rawop.Delete path) = Ok (Delete path)
operation_of events c (rawop.Copy source target) = ensure (has_source source (tree_now events c)) MissingSource >>= λ there. Ok (Copy source target)
operation_of events c (rawop.Rename source target) = ensure (has_source source (tree_now events c)) MissingSource >>= λ there. Ok (Rename source target)
operation_of events c rawop.DeleteAll = Ok DeleteAll

-- the commit that is being read has one operation more
abbrev pub with_op : Known → RawOp → Result Known Why
with_op k raw = elim k.current [
  | ACommit c ↦ operation_of k.events c raw >>= λ op. Ok (record k { current = ACommit (record c { ops = c.ops ++ op ∷ [] }) })
  | Nothing ↦ Ok k
  | ABlob mark ↦ Ok k
  | ATag name target tagger mark ↦ Ok k
  | AReset branch target ↦ Ok k
  | AnAlias mark ↦ Ok k
]

-- what is known after a field; the flag says that bytes are those of an operation
abbrev pub meant : Bool → (w : Word) → Field w → Known → Result Known Why
meant inline word.Blob x k = Ok (begun_with k (ABlob 0))
meant inline word.Commit branch k = Ok (begun_with k (commit_on k branch))
meant inline word.Tag name k = Ok (begun_with k (ATag name 0 None None))
meant inline word.Reset branch k = Ok (begun_with k (AReset branch None))
meant inline word.Alias x k = Ok (begun_with k (AnAlias 0))
meant inline word.Mark mark k = ensure (not (is_known_mark k mark)) RepeatedMark >>= λ new. Ok (changed k (with_mark mark))
meant inline word.Author who k = Ok (changed k (with_commit (λ c. record c { author = Some who })))
meant inline word.Committer who k = Ok (changed k (with_commit (λ c. record c { committer = Some who })))
meant inline word.Tagger who k = Ok (changed k (with_tagger who))
meant inline word.Encoding text k = Ok (changed k (with_commit (λ c. record c { encoding = Some text })))
meant inline word.Data bytes k = Ok (with_data inline bytes k)
meant inline word.From ref k = named k ref >>= λ commit. Ok (changed k (with_from commit))
meant inline word.Merge ref k = named k ref >>= λ commit. Ok (changed k (with_commit (with_parent commit)))
meant inline word.To ref k = named k ref >>= λ commit. Ok (aliased commit k)
meant inline word.Operation op k = with_op k op
meant inline word.InlineOperation op k = with_op k op
meant inline word.Pass line k = Ok (passed k line)
meant inline word.FeatureDone line k = Ok (passed k line)
meant inline word.Empty x k = Ok k
meant inline word.Oid x k = Ok k
meant inline word.Done x k = Ok k
meant inline word.LeftOut x k = Ok k
meant inline word.Other x k = Ok k

abbrev pub each_meant : (w : Word) → List (Field w) → Known → Result Known Why
each_meant w [] k = Ok k
each_meant w (x ∷ xs) k = meant false w x k >>= λ known. each_meant w xs known

-- the bytes of an operation are there after it
abbrev pub operations_meant : List Spelled → Known → Result Known Why
operations_meant [] k = Ok k
operations_meant (Alone op ∷ ops) k = meant false word.Operation op k >>= λ known. operations_meant ops known
operations_meant (WithBytes op bytes ∷ ops) k =
    meant false word.InlineOperation op k >>= λ known. meant true word.Data bytes known >>= λ there. operations_meant ops there

abbrev pub fields_meant : (items : List Item) → Values items → Known → Result Known Why
fields_meant [] fields k = Ok k
fields_meant (One w ∷ items) (x, fields) k = meant false w x k >>= λ known. fields_meant items fields known
fields_meant (Perhaps w ∷ items) (None, fields) k = fields_meant items fields k
fields_meant (Perhaps w ∷ items) (Some x, fields) k = meant false w x k >>= λ known. fields_meant items fields known
fields_meant (Many w ∷ items) (xs, fields) k = each_meant w xs k >>= λ known. fields_meant items fields known
fields_meant (Operations ∷ items) (ops, fields) k = operations_meant ops k >>= λ known. fields_meant items fields known

abbrev pub events_meant : List Raw → Known → Result Known Why
events_meant [] k = Ok k
events_meant (raw ∷ raws) k = fields_meant (lines_of raw.form) raw.fields k >>= λ known. events_meant raws known

abbrev pub history_given : Result Known Why → Option (List PlainEvent)
history_given (Ok k) = Some (history_of k)
history_given (Err why) = None

-- the history of events as they are spelled, unless one has a defect
abbrev pub history : List Raw → Option (List PlainEvent)
history raws = history_given (events_meant raws nothing_known)
