-- Histories with other labels, or with another value of a field, are alike.
use Rattle.std.proofs.Common.{◌≡◌, List, length, map, refl}
use Rattle.plain_model.specs.declared.event.PlainEvent.{PlainEvent}
use Rattle.plain_model.specs.declared.event.PlainEvent.TheVariants.{Blob, Commit, Tag, Reset, Pass}
use Rattle.plain_model.specs.Histories.{nodes}
use Rattle.plain_model.specs.Lookups.{alias_count, id_of}
use Rattle.event_fields.specs.declared.field.Field.{Field}
use Rattle.event_fields.specs.declared.field.Field.TheVariants as field
use Rattle.mailbox_laws.proofs.Bare.{AreAlike, alike_by, aliases_same, bare, count_same, find_mark_kept, ids_same, kept, nodes_same, shown_kept, trees_kept}
use Rattle.mailbox_laws.proofs.Wordless.{words_alike}
use Rattle.people_laws.specs.Alike.{HaveOther, HaveOtherLabels, KeepsTheRest, unlabeled}

bare_unlabeled : (e : PlainEvent) → bare (unlabeled e) ≡ bare e
bare_unlabeled (Blob id mark bytes) = refl
bare_unlabeled (Commit id mark branch author committer encoding comment parents ops aliases) = refl
bare_unlabeled (Tag id name target tagger comment mark) = refl
bare_unlabeled (Reset id branch target) = refl
bare_unlabeled (Pass id line) = refl

pub labels_alike : (old new : List PlainEvent) → HaveOtherLabels old new → AreAlike old new
labels_alike old new same = alike_by unlabeled bare_unlabeled old new same

pub other_alike : (what : Field) (old new : List PlainEvent) → HaveOther what old new → AreAlike old new
other_alike field.Comment old new same = words_alike old new same
other_alike field.Branch old new same = labels_alike old new same
other_alike field.Name old new same = labels_alike old new same

pub the_rest : (old new : List PlainEvent) → AreAlike old new → KeepsTheRest old new
the_rest old new same = record {
  count = kept length count_same old new same;
  ids = kept (map id_of) ids_same old new same;
  marks = find_mark_kept old new same;
  aliases = kept alias_count aliases_same old new same;
  commits = kept nodes nodes_same old new same;
  trees = trees_kept old new same;
  shown = shown_kept old new same;
}
