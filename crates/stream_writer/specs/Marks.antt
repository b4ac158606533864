-- The mark by which operations and parents name an event.
use Rattle.std.specs.Prelude.{ℕ}
use Rattle.plain_model.specs.declared.event.PlainEvent.{PlainEvent}
use Rattle.plain_model.specs.declared.event.PlainEvent.TheVariants.{Blob, Commit, Tag, Reset, Pass}

-- the mark of a blob or a commit; of other events 0
abbrev pub main_mark : PlainEvent → ℕ
main_mark (Blob id mark bytes) = mark
main_mark (Commit id mark branch author committer encoding comment parents ops aliases) = mark
main_mark (Tag id name target tagger comment mark) = 0
main_mark (Reset id branch target) = 0
main_mark (Pass id line) = 0
