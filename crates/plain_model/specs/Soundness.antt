-- When a history is sound: ids and marks occur once, each referent is earlier and is of the right kind, each
-- field is such as a stream spells it, and each commit has a tree.
use Rattle.std.specs.Prelude.{ℕ, ◌≤◌, Bool, true, false, not, ◌&&◌, ◌||◌, ◌==◌, List, [], ◌∷◌, ◌++◌, length, codes, IsTrue, IsFalse, IsSome, IfSome}
use Rattle.std.specs.List.{list_any, AllByRecursion}
use Rattle.plain_model.specs.declared.limit.TheConstants.{MAX_PARENTS, MAX_SECONDS}
use Rattle.plain_model.specs.declared.person.Signed.{Signed}
use Rattle.plain_model.specs.declared.id.AnyId.{AnyId}
use Rattle.plain_model.specs.declared.id.AnyId.TheVariants as any
use Rattle.plain_model.specs.declared.operation.Mode.TheVariants.{Gitlink}
use Rattle.plain_model.specs.declared.operation.Content.{Content}
use Rattle.plain_model.specs.declared.operation.Content.TheVariants.{Blob as OfBlob, Object}
use Rattle.plain_model.specs.declared.operation.FileOp.{FileOp}
use Rattle.plain_model.specs.declared.operation.FileOp.TheVariants.{Modify, Delete, Copy, Rename, DeleteAll}
use Rattle.plain_model.specs.declared.event.PlainEvent.{PlainEvent}
use Rattle.plain_model.specs.declared.event.PlainEvent.TheVariants.{Blob, Commit, Tag, Reset, Pass}
use Rattle.plain_model.specs.Histories.{tree}
use Rattle.plain_model.specs.Marks.{IsMark}
use Rattle.plain_model.specs.Names.{is_name}
use Rattle.plain_model.specs.Objects.{is_object}
use Rattle.plain_model.specs.Paths.{Bytes, IsPath}
use Rattle.plain_model.specs.People.{is_clean}
use Rattle.plain_model.specs.Parts.{begins, has_no_lf}
use Rattle.plain_model.specs.Streams.{is_marked}

-- ---- referents

-- some event has this very id, with its kind
abbrev pub has_id : List PlainEvent → AnyId → Bool
has_id [] wanted = false
has_id (Blob id mark bytes ∷ events) (any.Blob b) = (id == b) || has_id events (any.Blob b)
has_id (Commit id mark branch author committer encoding comment parents ops aliases ∷ events) (any.Commit c) = (id == c) || has_id events (any.Commit c)
has_id (Tag id name target tagger comment mark ∷ events) (any.Tag t) = (id == t) || has_id events (any.Tag t)
has_id (Reset id branch target ∷ events) (any.Reset r) = (id == r) || has_id events (any.Reset r)
has_id (Pass id line ∷ events) (any.Pass p) = (id == p) || has_id events (any.Pass p)
has_id (e ∷ events) other = has_id events other

-- a commit of the events
abbrev pub IsCommitOf : List PlainEvent → ℕ → Type 0
IsCommitOf events c = IsTrue (has_id events (any.Commit c))

-- an operation names an earlier blob, or an object; a link to another repository names an object
abbrev pub RefersBack : List PlainEvent → FileOp → Type 0
RefersBack earlier (Modify Gitlink (OfBlob b) path) = ⊥
RefersBack earlier (Modify mode (OfBlob b) path) = IsTrue (has_id earlier (any.Blob b))
RefersBack earlier (Modify mode (Object digits) path) = Unit {0}
RefersBack earlier (Delete path) = Unit {0}
RefersBack earlier (Copy source target) = Unit {0}
RefersBack earlier (Rename source target) = Unit {0}
RefersBack earlier DeleteAll = Unit {0}

-- no item occurs twice
abbrev pub are_distinct : List ℕ → Bool
are_distinct [] = true
are_distinct (n ∷ ns) = not (list_any (λ m. m == n) ns) && are_distinct ns

-- ---- fields

abbrev pub IsFormedSigned : Signed → Type 0
IsFormedSigned who =
    IsTrue (is_clean who.person.name && has_no_lf who.person.name && is_clean who.person.email && has_no_lf who.person.email)
    × (who.when.seconds ≤ MAX_SECONDS) × (who.when.offset ≤ 9999)

-- a line that is passed through: no feature that is left out
abbrev pub is_passed_line : Bytes → Bool
is_passed_line line =
    has_no_lf line
    && (begins (codes "checkpoint") line && (length line == 10) || begins (codes "progress ") line || begins (codes "option ") line
    || begins (codes "feature ") line
    && not (begins (codes "feature import-marks") line)
    && (not (begins (codes "feature date-format=") line) || begins (codes "feature date-format=raw") line && (length line == 23)))

-- an object is named by an object's id
abbrev pub IsFormedContent : Content → Type 0
IsFormedContent (OfBlob b) = Unit {0}
IsFormedContent (Object digits) = IsTrue (is_object digits)

-- an operation's paths are paths
abbrev pub IsFormedOp : FileOp → Type 0
IsFormedOp (Modify mode content path) = IsFormedContent content × IsPath path
IsFormedOp (Delete path) = IsPath path
IsFormedOp (Copy source target) = IsPath source × IsPath target
IsFormedOp (Rename source target) = IsPath source × IsPath target
IsFormedOp DeleteAll = Unit {0}

-- each mark is a mark, and each operation is formed
abbrev pub IsFormedEvent : PlainEvent → Type 0
IsFormedEvent (Blob id mark bytes) = IsMark mark
IsFormedEvent (Commit id mark branch author committer encoding comment parents ops aliases) =
    IsMark mark × AllByRecursion IsFormedOp ops × AllByRecursion IsMark aliases
IsFormedEvent (Tag id name target tagger comment mark) = IfSome mark IsMark
IsFormedEvent (Reset id branch target) = Unit {0}
IsFormedEvent (Pass id line) = Unit {0}

-- ---- an event after earlier ones

abbrev pub IsSoundEvent : List PlainEvent → PlainEvent → Type 0
IsSoundEvent earlier (Blob id mark bytes) = IsFalse (has_id earlier (any.Blob id)) × IsFalse (is_marked earlier mark)
IsSoundEvent earlier (Commit id mark branch author committer encoding comment parents ops aliases) =
    IsFalse (has_id earlier (any.Commit id)) × IsFalse (is_marked earlier mark) × IsTrue (is_name branch)
    × IsFormedSigned author × IsFormedSigned committer × IfSome encoding (λ e. IsTrue (has_no_lf e))
    × AllByRecursion (IsCommitOf earlier) parents × IsTrue (are_distinct parents) × (length parents ≤ MAX_PARENTS)
    × AllByRecursion (RefersBack earlier) ops
    × AllByRecursion (λ a. IsFalse (is_marked earlier a)) aliases × IsTrue (are_distinct (mark ∷ aliases))
IsSoundEvent earlier (Tag id name target tagger comment mark) =
    IsFalse (has_id earlier (any.Tag id)) × IsTrue (is_name name) × IsCommitOf earlier target × IfSome tagger IsFormedSigned
    × IfSome mark (λ m. IsFalse (is_marked earlier m))
IsSoundEvent earlier (Reset id branch target) =
    IsFalse (has_id earlier (any.Reset id)) × IsTrue (is_name branch) × IfSome target (IsCommitOf earlier)
IsSoundEvent earlier (Pass id line) = IsFalse (has_id earlier (any.Pass id)) × IsTrue (is_passed_line line)

abbrev pub AreSoundAfter : List PlainEvent → List PlainEvent → Type 0
AreSoundAfter earlier [] = Unit {0}
AreSoundAfter earlier (e ∷ events) = IsSoundEvent earlier e × AreSoundAfter (earlier ++ e ∷ []) events

-- the whole history
pub record IsSound (events : List PlainEvent) : Type 0 where
  pub formed : AreSoundAfter [] events
  pub spelled : AllByRecursion IsFormedEvent events
  pub trees : (c : ℕ) → IsCommitOf events c → IsSome (tree events c)
