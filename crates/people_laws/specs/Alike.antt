-- Events that are alike but for some of their fields. (own)
use Rattle.std.specs.Prelude.{◌≡◌, ℕ, List, [], length, map, option_map}
use Rattle.plain_model.specs.declared.person.Signed.{Signed}
use Rattle.plain_model.specs.declared.event.PlainEvent.{PlainEvent}
use Rattle.plain_model.specs.declared.event.PlainEvent.TheVariants.{Blob, Commit, Tag, Reset, Pass}
use Rattle.plain_model.specs.Histories.{nodes, tree}
use Rattle.plain_model.specs.Lookups.{alias_count, find_mark, id_of}
use Rattle.plain_model.specs.Snapshots.{shown_tree}
use Rattle.event_fields.specs.declared.field.Field.{Field}
use Rattle.event_fields.specs.declared.field.Field.TheVariants as field
use Rattle.mailbox_laws.specs.Words.{HaveOtherWords, nobody}

-- ---- people

-- who, without a name and an email
abbrev pub unnamed : Signed → Signed
unnamed who = record who { person = nobody.person }

-- who, without a date
abbrev pub undated : Signed → Signed
undated who = record who { when = nobody.when }

-- an event with other people
abbrev pub with_people : (Signed → Signed) → PlainEvent → PlainEvent
with_people f (Commit id mark branch author committer encoding comment parents ops aliases) =
    Commit id mark branch (f author) (f committer) encoding comment parents ops aliases
with_people f (Tag id name target tagger comment mark) = Tag id name target (option_map f tagger) comment mark
with_people f (Blob id mark bytes) = Blob id mark bytes
with_people f (Reset id branch target) = Reset id branch target
with_people f (Pass id line) = Pass id line

-- ---- labels

-- an event without the branch of a commit or a reset, or the name of a tag
abbrev pub unlabeled : PlainEvent → PlainEvent
unlabeled (Commit id mark branch author committer encoding comment parents ops aliases) =
    Commit id mark [] author committer encoding comment parents ops aliases
unlabeled (Tag id name target tagger comment mark) = Tag id [] target tagger comment mark
unlabeled (Blob id mark bytes) = Blob id mark bytes
unlabeled (Reset id branch target) = Reset id [] target
unlabeled (Pass id line) = Pass id line

-- but for labels the events are the same, in the same order
abbrev pub HaveOtherLabels : List PlainEvent → List PlainEvent → Type 0
HaveOtherLabels old new = map unlabeled new ≡ map unlabeled old

-- what is the same of histories that differ in people, comments and labels alone
pub record KeepsTheRest (old new : List PlainEvent) : Type 0 where
  pub count : length new ≡ length old
  pub ids : map id_of new ≡ map id_of old
  pub marks : (mark : ℕ) → find_mark mark new ≡ find_mark mark old
  pub aliases : alias_count new ≡ alias_count old
  pub commits : nodes new ≡ nodes old
  pub trees : (c : ℕ) → tree new c ≡ tree old c
  pub shown : (c : ℕ) → shown_tree new c ≡ shown_tree old c

-- ---- fields that are set

-- but for such a field the events are the same, in the same order
abbrev pub HaveOther : Field → List PlainEvent → List PlainEvent → Type 0
HaveOther field.Comment old new = HaveOtherWords old new
HaveOther field.Branch old new = HaveOtherLabels old new
HaveOther field.Name old new = HaveOtherLabels old new
