-- Kinds of events. (reposurgeon manual, "Selection syntax")
use Rattle.std.specs.Prelude.{◌==◌, ◌||◌, ◌&&◌, nat_lt, Bool, List, length}
use Rattle.plain_model.specs.declared.event.PlainEvent.{PlainEvent}
use Rattle.plain_model.specs.declared.event.PlainEvent.TheVariants.{Blob, Commit, Tag, Reset, Pass}
use Rattle.plain_model.specs.Lookups.{children_of}
use Rattle.selection_parser.specs.declared.kind.KindSet.{KindSet}

-- an event is of one of the kinds; several parents or children are two or more
unfoldable pub is_of : List PlainEvent → KindSet → PlainEvent → Bool
is_of events kinds (Blob id mark bytes) = kinds.blobs
is_of events kinds (Commit id mark branch author committer encoding comment parents ops aliases) =
    kinds.commits
    || (kinds.heads && length (children_of id events) == 0)
    || (kinds.roots && length parents == 0)
    || (kinds.merges && nat_lt 1 (length parents))
    || (kinds.forks && nat_lt 1 (length (children_of id events)))
    || (kinds.empties && length ops == 0)
is_of events kinds (Tag id name target tagger comment mark) = kinds.tags
is_of events kinds (Reset id branch target) = kinds.resets
is_of events kinds (Pass id line) = kinds.passes
