-- Blobs that are those of another history.
use Rattle.std.specs.Prelude.{◌≡◌, List}
use Rattle.plain_model.specs.declared.event.PlainEvent.{PlainEvent}
use Rattle.plain_model.specs.declared.event.PlainEvent.TheVariants.{Blob, Commit, Tag, Reset, Pass}
use Rattle.plain_model.specs.Snapshots.{blob_bytes}

-- a blob has the bytes that the other history has under its id
abbrev pub HasBytesOf : List PlainEvent → PlainEvent → Type 0
HasBytesOf other (Blob id mark bytes) = blob_bytes other id ≡ bytes
HasBytesOf other (Commit id mark branch author committer encoding comment parents ops aliases) = Unit {0}
HasBytesOf other (Tag id name target tagger comment mark) = Unit {0}
HasBytesOf other (Reset id branch target) = Unit {0}
HasBytesOf other (Pass id line) = Unit {0}
