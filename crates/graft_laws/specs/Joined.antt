-- What joining keeps from one history to the next, and what it leaves of each.
use Rattle.std.specs.Prelude.{◌≡◌, ◌≤◌, ℕ, List, [], length, take, IsTrue}
use Rattle.std.specs.List.{AllByRecursion, list_all}
use Rattle.plain_model.specs.declared.id.AnyId.{AnyId}
use Rattle.plain_model.specs.declared.id.AnyId.TheVariants as any
use Rattle.plain_model.specs.declared.event.PlainEvent.{PlainEvent}
use Rattle.plain_model.specs.Histories.{tree}
use Rattle.plain_model.specs.Names.{is_name_byte}
use Rattle.plain_model.specs.Paths.{Bytes}
use Rattle.plain_model.specs.Snapshots.{shown_tree}
use Rattle.plain_model.specs.Soundness.{IsCommitOf, IsFormedEvent, IsSound}
use Rattle.edit_laws.specs.Editing.{IsLawfulHistory}
use Rattle.edit_laws.specs.Parts.{AreInOrder, HasFewParents, IsLawful, of_id, tally}
use Rattle.graft_laws.specs.Joining.{new_number, without_passes}
use Rattle.graft_laws.specs.Unite.{Part}

-- soundness but that no mark occurs twice, and that each commit has a tree
pub record IsLinked (events : List PlainEvent) : Type 0 where
  pub lawful : AllByRecursion IsLawful events
  pub spelled : AllByRecursion IsFormedEvent events
  pub few : AllByRecursion HasFewParents events
  pub ids : (id : AnyId) → tally (of_id id) events ≤ 1
  pub in_order : AreInOrder [] events

-- the events of the one history are the first of the other, and each commit has its tree there, with the same bytes
pub record BeginsWith (base new : List PlainEvent) : Type 0 where
  pub front : take (length base) new ≡ base
  pub commits : (c : ℕ) → IsCommitOf base c → IsCommitOf new c
  pub trees : (c : ℕ) → IsCommitOf base c → tree new c ≡ tree base c
  pub shown : (c : ℕ) → IsCommitOf base c → shown_tree new c ≡ shown_tree base c

-- each commit of a history is in the other under its new number, from a first one on, and its tree there has the same files
-- with the same bytes
abbrev pub HasTreesOf : List PlainEvent → ℕ → List PlainEvent → Type 0
HasTreesOf part first new =
    (c : ℕ) → IsCommitOf part c
    → IsCommitOf new (new_number first (without_passes part) (any.Commit c))
    × (shown_tree new (new_number first (without_passes part) (any.Commit c)) ≡ shown_tree part c)

-- a commit of a history is in the other with its tree, which has the same bytes
pub record StaysIn (events whole : List PlainEvent) (c : ℕ) : Type 0 where
  pub there : IsCommitOf whole c
  pub tree : tree whole c ≡ tree events c
  pub shown : shown_tree whole c ≡ shown_tree events c

-- bytes such as names have; a repository's name has no others
abbrev pub AreNameBytes : Bytes → Type 0
AreNameBytes bytes = IsTrue (list_all is_name_byte bytes)

-- a lawful history under such a name
pub record IsLawfulPart (part : Part) : Type 0 where
  pub history : IsLawfulHistory part.events
  pub name : AreNameBytes part.name

-- a sound history under such a name
pub record IsPart (part : Part) : Type 0 where
  pub sound : IsSound part.events
  pub name : AreNameBytes part.name
