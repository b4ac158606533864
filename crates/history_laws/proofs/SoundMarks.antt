-- The marks of events that can be written.
use Rattle.std.specs.Prelude.{Some, None}
use Rattle.std.specs.List.{AllByRecursion}
use Rattle.plain_model.specs.declared.event.PlainEvent.{PlainEvent}
use Rattle.plain_model.specs.declared.event.PlainEvent.TheVariants.{Blob, Commit, Tag, Reset, Pass}
use Rattle.plain_model.specs.Lookups.{event_marks}
use Rattle.plain_model.specs.Marks.{IsMark}
use Rattle.plain_model.specs.Soundness.{IsFormedEvent}

-- all marks of a formed event are marks
pub marks_formed : (e : PlainEvent) → IsFormedEvent e → AllByRecursion IsMark (event_marks e)
marks_formed (Blob id mark bytes) h = (h, tt)
marks_formed (Commit id mark branch author committer encoding comment parents ops aliases) h = (h.0, h.2)
marks_formed (Tag id name target tagger comment None) h = tt
marks_formed (Tag id name target tagger comment (Some mark)) h = (h, tt)
marks_formed (Reset id branch target) h = tt
marks_formed (Pass id line) h = tt
