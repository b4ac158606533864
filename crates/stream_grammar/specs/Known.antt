-- What is known after the lines that were read: the events so far, and the one that is being read
-- (git-fast-import, "Input format").
use Rattle.std.specs.Prelude.{ℕ, ◌+◌, ◌==◌, ◌&&◌, ◌||◌, not, Bool, true, false, List, [], ◌∷◌, ◌++◌, length, drop, Option, Some, None, Result, Ok, Err, codes, bytes_eq, option_map, unwrap_or, filter, map, if◌then◌else◌}
use Rattle.std.specs.List.{list_any, list_all}
use Rattle.std.specs.Map.{lookup}
use Rattle.plain_model.specs.declared.fault.Why.{Why}
use Rattle.plain_model.specs.declared.fault.Why.TheVariants.{BadMark, BadMode, BadPath, UnknownMark, UnknownRef, MissingSource, LeftOut}
use Rattle.plain_model.specs.declared.operation.Content.{Content}
use Rattle.plain_model.specs.declared.operation.Content.TheVariants.{Blob as OfBlob, Object as OfObject}
use Rattle.plain_model.specs.declared.operation.FileOp.{FileOp}
use Rattle.plain_model.specs.declared.operation.FileOp.TheVariants.{Modify, Delete, Copy, Rename, DeleteAll}
use Rattle.plain_model.specs.declared.person.Signed.{Signed}
use Rattle.plain_model.specs.declared.raw.Place.TheVariants.{Source}
use Rattle.plain_model.specs.declared.raw.RawContent.{RawContent}
use Rattle.plain_model.specs.declared.raw.RawContent.TheVariants.{Marked, Object, Inline}
use Rattle.plain_model.specs.declared.event.PlainEvent.{PlainEvent}
use Rattle.plain_model.specs.declared.event.PlainEvent.TheVariants as plain
use Rattle.plain_model.specs.Fields.{◌>>=◌, or_defect, first_word, after_space, mark_in, path_in, last_path_in, mode_in, content_in, is_any_hex}
use Rattle.plain_model.specs.Histories.{begun, folded, tree}
use Rattle.plain_model.specs.Lookups.{greatest_mark, greatest_of}
use Rattle.plain_model.specs.Parts.{begins}
use Rattle.plain_model.specs.Paths.{Bytes, is_empty}
use Rattle.plain_model.specs.Snapshots.{refs}
use Rattle.plain_model.specs.Streams.{blob_marked, commit_marked, is_among, is_marked}
use Rattle.plain_model.specs.Trees.{Tree, at, subtree}

-- ---- the events so far

-- a commit that is being read; an author that isn't there yet is none
pub record OpenCommit : Type 0 where
  pub branch : Bytes
  pub mark : ℕ
  pub author : Option Signed
  pub committer : Option Signed
  pub encoding : Option Bytes
  pub comment : Bytes
  pub parents : List ℕ
  pub ops : List FileOp

-- The event that is being read. A mark that a blob, a commit or an alias doesn't have yet is 0.
pub data Open : Type 0 where
  Nothing : Open
  ABlob : ℕ → Open
  ACommit : OpenCommit → Open
  ATag : Bytes → ℕ → Option Signed → Option ℕ → Open
  AReset : Bytes → Option ℕ → Open
  AnAlias : ℕ → Open

-- The events so far, of which a blob or a commit without a mark has 0 until the end, and a commit no aliases; the one that
-- is being read; and each alias so far with the commit that it names. Ids are places, from 1.
pub record Known : Type 0 where
  pub events : List PlainEvent
  pub current : Open
  pub aliases : List (ℕ × ℕ)

-- the id of the next event
abbrev pub next_id : List PlainEvent → ℕ
next_id events = length events + 1

abbrev pub with_event : List PlainEvent → PlainEvent → List PlainEvent
with_event events e = events ++ e ∷ []

abbrev pub is_empty_list : {A : Type 0} → List A → Bool
is_empty_list [] = true
is_empty_list (x ∷ xs) = false

abbrev pub closed_commit : List PlainEvent → OpenCommit → Option Signed → List PlainEvent
closed_commit events c None = events
closed_commit events c (Some committer) =
    with_event events (plain.Commit (next_id events) c.mark c.branch (unwrap_or c.author committer) committer c.encoding c.comment c.parents c.ops [])

-- the event that was read last is after the others; without an author its committer is the author
abbrev pub closed : Known → List PlainEvent
closed k = elim k.current [
  | Nothing ↦ k.events
  | ABlob mark ↦ k.events
  | ACommit c ↦ closed_commit k.events c c.committer
  | ATag name target tagger mark ↦ k.events
  | AReset branch target ↦ with_event k.events (plain.Reset (next_id k.events) branch target)
  | AnAlias mark ↦ k.events
]

-- the block of data after a line is there: a blob's bytes, a tag's comment, the bytes of an operation, a commit's comment
abbrev pub with_data : Bool → Bytes → Known → Known
with_data inline bytes k = elim k.current [
  | Nothing ↦ k
  | ABlob mark ↦ record k { events = with_event k.events (plain.Blob (next_id k.events) mark bytes); current = Nothing }
  | ACommit c ↦
      if inline then record k { events = with_event k.events (plain.Blob (next_id k.events) 0 bytes) }
      else record k { current = ACommit (record c { comment = bytes }) }
  | ATag name target tagger mark ↦ record k { events = with_event k.events (plain.Tag (next_id k.events) name target tagger bytes mark); current = Nothing }
  | AReset branch target ↦ k
  | AnAlias mark ↦ k
]

-- ---- aliases

abbrev pub alias_marks : List (ℕ × ℕ) → List ℕ
alias_marks aliases = map (λ a. a.0) aliases

-- the aliases of a commit, in the order in which they came
abbrev pub aliases_for : ℕ → List (ℕ × ℕ) → List ℕ
aliases_for commit aliases = alias_marks (filter (λ a. a.1 == commit) aliases)

-- some event or alias so far has the mark
abbrev pub is_known_mark : Known → ℕ → Bool
is_known_mark k mark = is_marked k.events mark || is_among (alias_marks k.aliases) mark

-- the commit with the mark, as its own or as an alias so far
abbrev pub commit_with : List PlainEvent → List (ℕ × ℕ) → ℕ → Option ℕ
commit_with events aliases mark = elim (commit_marked events mark) [
  | Some commit ↦ Some commit
  | None ↦ lookup (λ a. a == mark) aliases
]

-- ---- what a line may refer to

abbrev pub ensure : Bool → Why → Result (Unit {0}) Why
ensure true why = Ok tt
ensure false why = Err why

-- a text that is no reference here: with `^` or `~`, or an object's id
abbrev pub is_left_out_ref : Bytes → Bool
is_left_out_ref text =
    list_any (λ b. (b == 94) || (b == 126)) text || ((length text == 40) || (length text == 64)) && list_all is_any_hex text

-- the id of the commit that a reference names: an earlier commit by one of its marks, or the tip of a branch
abbrev pub ref_in : List PlainEvent → List (ℕ × ℕ) → Bytes → Result ℕ Why
ref_in events aliases text =
    if is_empty text then Err BadMark else
    if is_left_out_ref text then Err LeftOut else
    if begins (codes ":") text then (mark_in text >>= λ mark. or_defect UnknownMark (commit_with events aliases mark)) else or_defect UnknownRef (at (refs events) text)

-- what an operation puts at its path: an earlier blob, an object, or the blob that follows
abbrev pub placed : List PlainEvent → RawContent → Result Content Why
placed events (Marked mark) = or_defect UnknownMark (option_map OfBlob (blob_marked events mark))
placed events (Object digits) = Ok (OfObject digits)
placed events Inline = Ok (OfBlob (next_id events))

-- the tree at this point of a commit, unless an operation was refused for a limit
abbrev pub tree_now : List PlainEvent → OpenCommit → Option Tree
tree_now events c = folded c.ops (begun (tree events) c.parents)

abbrev pub has_source : Bytes → Option Tree → Bool
has_source source None = false
has_source source (Some t) = not (is_empty_list (subtree source t))

-- ---- operations

-- `MODE CONTENT PATH`
abbrev pub modify_after : List PlainEvent → Bytes → Result FileOp Why
modify_after events text =
    mode_in (first_word text) >>= λ mode.
    or_defect BadMark (after_space text) >>= λ fields.
    content_in mode (first_word fields) >>= λ raw.
    placed events raw >>= λ content.
    last_path_in (after_space fields) >>= λ path.
    Ok (Modify mode content path)

-- `SOURCE TARGET`, where the tree has the source
abbrev pub paths_after : Option Tree → Bytes → Result (Bytes × Bytes) Why
paths_after tree text =
    path_in Source text >>= λ source.
    ensure (has_source source.0 tree) MissingSource >>= λ there.
    last_path_in (after_space (drop source.1 text)) >>= λ target.
    Ok (source.0, target)

abbrev pub op_after : List PlainEvent → OpenCommit → Bytes → Result FileOp Why
op_after events c line =
    let word = first_word line in
    if bytes_eq word (codes "M") then (or_defect BadMode (after_space line) >>= λ text. modify_after events text) else
    if bytes_eq word (codes "D") then (last_path_in (after_space line) >>= λ path. Ok (Delete path)) else
    if bytes_eq word (codes "C") then (or_defect BadPath (after_space line) >>= λ text. paths_after (tree_now events c) text >>= λ p. Ok (Copy p.0 p.1)) else
    if bytes_eq word (codes "R") then (or_defect BadPath (after_space line) >>= λ text. paths_after (tree_now events c) text >>= λ p. Ok (Rename p.0 p.1)) else Ok DeleteAll

-- ---- parents

-- a further parent, if it isn't one already; under a commit without a first parent all files go
abbrev pub with_parent : ℕ → OpenCommit → OpenCommit
with_parent p c =
    if is_empty_list c.parents then record c { parents = p ∷ []; ops = DeleteAll ∷ [] } else
    if list_any (λ q. q == p) c.parents then c else record c { parents = c.parents ++ p ∷ [] }

-- ---- the end

-- each blob or commit without a mark gets the next number above n
abbrev pub with_marks : ℕ → List PlainEvent → List PlainEvent
with_marks n [] = []
with_marks n (plain.Blob id mark bytes ∷ events) =
    if mark == 0 then plain.Blob id (n + 1) bytes ∷ with_marks (n + 1) events else plain.Blob id mark bytes ∷ with_marks n events
with_marks n (plain.Commit id mark branch author committer encoding comment parents ops aliases ∷ events) =
    if mark == 0 then plain.Commit id (n + 1) branch author committer encoding comment parents ops aliases ∷ with_marks (n + 1) events
    else plain.Commit id mark branch author committer encoding comment parents ops aliases ∷ with_marks n events
with_marks n (plain.Tag id name target tagger comment mark ∷ events) = plain.Tag id name target tagger comment mark ∷ with_marks n events
with_marks n (plain.Reset id branch target ∷ events) = plain.Reset id branch target ∷ with_marks n events
with_marks n (plain.Pass id line ∷ events) = plain.Pass id line ∷ with_marks n events

-- each commit has its aliases
abbrev pub with_aliases : List (ℕ × ℕ) → List PlainEvent → List PlainEvent
with_aliases aliases [] = []
with_aliases aliases (plain.Commit id mark branch author committer encoding comment parents ops old ∷ events) =
    plain.Commit id mark branch author committer encoding comment parents ops (aliases_for id aliases) ∷ with_aliases aliases events
with_aliases aliases (plain.Blob id mark bytes ∷ events) = plain.Blob id mark bytes ∷ with_aliases aliases events
with_aliases aliases (plain.Tag id name target tagger comment mark ∷ events) = plain.Tag id name target tagger comment mark ∷ with_aliases aliases events
with_aliases aliases (plain.Reset id branch target ∷ events) = plain.Reset id branch target ∷ with_aliases aliases events
with_aliases aliases (plain.Pass id line ∷ events) = plain.Pass id line ∷ with_aliases aliases events

-- the greatest mark that was read, or 0
abbrev pub greatest_read : Known → ℕ
greatest_read k = greatest_of (greatest_mark (closed k)) (alias_marks k.aliases)

-- the history of the lines that were read
abbrev pub history_of : Known → List PlainEvent
history_of k = with_aliases k.aliases (with_marks (greatest_read k) (closed k))
