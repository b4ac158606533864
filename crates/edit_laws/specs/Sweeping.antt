-- Blobs that nothing names any more. (own)
use Rattle.std.specs.Prelude.{ℕ, Bool, false, not, ◌&&◌, List, filter}
use Rattle.std.specs.List.{list_any}
use Rattle.plain_model.specs.declared.id.AnyId.TheVariants as any
use Rattle.plain_model.specs.declared.event.PlainEvent.{PlainEvent}
use Rattle.plain_model.specs.declared.event.PlainEvent.TheVariants.{Blob, Commit, Tag, Reset, Pass}
use Rattle.plain_model.specs.Lookups.{is_listed, referents_of}

-- some operation names the blob
abbrev pub is_named : List PlainEvent → ℕ → Bool
is_named events b = list_any (λ e. is_listed (any.Blob b) (referents_of e)) events

-- a blob that some operation named before, and none names now
abbrev pub is_left_over : List PlainEvent → List PlainEvent → PlainEvent → Bool
is_left_over old new (Blob id mark bytes) = is_named old id && not (is_named new id)
is_left_over old new (Commit id mark branch author committer encoding comment parents ops aliases) = false
is_left_over old new (Tag id name target tagger comment mark) = false
is_left_over old new (Reset id branch target) = false
is_left_over old new (Pass id line) = false

-- the new list without them
abbrev pub swept : List PlainEvent → List PlainEvent → List PlainEvent
swept old new = filter (λ e. not (is_left_over old new e)) new
