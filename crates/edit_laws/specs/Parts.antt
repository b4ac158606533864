-- Soundness in parts, each of which a command can keep by itself: what each event is, how often ids and marks occur,
-- that each event is after all that it refers to, and that each commit has a tree. (own)
use Rattle.std.specs.Prelude.{ℕ, ◌+◌, ◌≤◌, ◌<◌, Bool, List, [], ◌∷◌, ◌++◌, length, IsSome, IfSome, IsTrue, if◌then◌else◌}
use Rattle.std.specs.List.{AllByRecursion}
use Rattle.plain_model.specs.declared.limit.TheConstants.{MAX_PARENTS}
use Rattle.plain_model.specs.declared.id.AnyId.{AnyId}
use Rattle.plain_model.specs.declared.operation.Mode.TheVariants.{Gitlink}
use Rattle.plain_model.specs.declared.operation.Content.TheVariants.{Blob as OfBlob}
use Rattle.plain_model.specs.declared.operation.FileOp.{FileOp}
use Rattle.plain_model.specs.declared.operation.FileOp.TheVariants.{Modify}
use Rattle.plain_model.specs.declared.event.PlainEvent.{PlainEvent}
use Rattle.plain_model.specs.declared.event.PlainEvent.TheVariants.{Blob, Commit, Tag, Reset, Pass}
use Rattle.plain_model.specs.Histories.{Node, nodes, tree}
use Rattle.plain_model.specs.Lookups.{event_parents}
use Rattle.plain_model.specs.Names.{is_name}
use Rattle.plain_model.specs.Soundness.{IsCommitOf, IsFormedEvent, IsFormedSigned, are_distinct, has_id, is_passed_line}
use Rattle.plain_model.specs.Parts.{has_no_lf}
use Rattle.plain_model.specs.Streams.{is_marked}
use Rattle.edit_laws.specs.Settling.{is_ready}

-- ---- an event by itself

-- a link to another repository names an object
abbrev pub IsLawfulOp : FileOp → Type 0
IsLawfulOp (Modify Gitlink (OfBlob b) path) = ⊥
IsLawfulOp other = Unit {0}

-- names and people are such as a stream spells them, and a commit has no parent twice and no mark twice
abbrev pub IsLawful : PlainEvent → Type 0
IsLawful (Blob id mark bytes) = Unit {0}
IsLawful (Commit id mark branch author committer encoding comment parents ops aliases) =
    IsTrue (is_name branch) × IsFormedSigned author × IsFormedSigned committer × IfSome encoding (λ e. IsTrue (has_no_lf e))
    × IsTrue (are_distinct parents) × AllByRecursion IsLawfulOp ops × IsTrue (are_distinct (mark ∷ aliases))
IsLawful (Tag id name target tagger comment mark) = IsTrue (is_name name) × IfSome tagger IsFormedSigned
IsLawful (Reset id branch target) = IsTrue (is_name branch)
IsLawful (Pass id line) = IsTrue (is_passed_line line)

-- a commit hasn't too many parents
abbrev pub HasFewParents : PlainEvent → Type 0
HasFewParents e = length (event_parents e) ≤ MAX_PARENTS

-- ---- how often

-- the sum over the events
abbrev pub tally : (PlainEvent → ℕ) → List PlainEvent → ℕ
tally count [] = 0
tally count (e ∷ events) = count e + tally count events

abbrev pub one_if : Bool → ℕ
one_if b = if b then 1 else 0

-- one for the event with the id
abbrev pub of_id : AnyId → PlainEvent → ℕ
of_id id e = one_if (has_id (e ∷ []) id)

-- one for the event with the mark
abbrev pub of_mark : ℕ → PlainEvent → ℕ
of_mark m e = one_if (is_marked (e ∷ []) m)

-- no id occurs twice, and no two events have one mark
pub record AreOnce (events : List PlainEvent) : Type 0 where
  pub ids : (id : AnyId) → tally (of_id id) events ≤ 1
  pub marks : (m : ℕ) → tally (of_mark m) events ≤ 1

-- ---- where

-- each event is after all that it refers to
abbrev pub AreInOrder : List PlainEvent → List PlainEvent → Type 0
AreInOrder earlier [] = Unit {0}
AreInOrder earlier (e ∷ events) = IsTrue (is_ready earlier e) × AreInOrder (earlier ++ e ∷ []) events

-- all that an event refers to is there, wherever it is
abbrev pub AreComplete : List PlainEvent → Type 0
AreComplete events = AllByRecursion (λ e. IsTrue (is_ready events e)) events

-- a commit has a greater number than its parents
abbrev pub IsAbove : (ℕ → ℕ) → Node → Type 0
IsAbove number n = AllByRecursion (λ p. number p < number n.id) n.parents

-- no parents run in a circle: the commits can be numbered so that each has a greater number than its parents
abbrev pub CanBeNumbered : List PlainEvent → Type 0
CanBeNumbered events = (number : ℕ → ℕ) × AllByRecursion (IsAbove number) (nodes events)

-- ---- the whole history

-- the same as soundness
pub record IsSoundInParts (events : List PlainEvent) : Type 0 where
  pub lawful : AllByRecursion IsLawful events
  pub spelled : AllByRecursion IsFormedEvent events
  pub few : AllByRecursion HasFewParents events
  pub once : AreOnce events
  pub in_order : AreInOrder [] events
  pub trees : (c : ℕ) → IsCommitOf events c → IsSome (tree events c)

-- what an edit has to leave, in whatever order: settling then makes a sound history of it, if no commit has too many
-- parents and each has a tree
pub record CanBeSettled (events : List PlainEvent) : Type 0 where
  pub lawful : AllByRecursion IsLawful events
  pub spelled : AllByRecursion IsFormedEvent events
  pub once : AreOnce events
  pub complete : AreComplete events
  pub numbered : CanBeNumbered events
