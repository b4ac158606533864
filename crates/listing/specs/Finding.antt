-- What a sound history tells of an event that is found in it.
use Rattle.std.specs.Prelude.{ℕ}
use Rattle.plain_model.specs.declared.event.PlainEvent.{PlainEvent}
use Rattle.plain_model.specs.declared.event.PlainEvent.TheVariants.{Blob, Commit, Tag, Reset, Pass}

-- the mark of a commit; of other events 0
abbrev pub own_commit_mark : PlainEvent → ℕ
own_commit_mark (Commit id mark branch author committer encoding comment parents ops aliases) = mark
own_commit_mark (Blob id mark bytes) = 0
own_commit_mark (Tag id name target tagger comment mark) = 0
own_commit_mark (Reset id branch target) = 0
own_commit_mark (Pass id line) = 0

-- the mark of a blob; of other events 0
abbrev pub own_blob_mark : PlainEvent → ℕ
own_blob_mark (Blob id mark bytes) = mark
own_blob_mark (Commit id mark branch author committer encoding comment parents ops aliases) = 0
own_blob_mark (Tag id name target tagger comment mark) = 0
own_blob_mark (Reset id branch target) = 0
own_blob_mark (Pass id line) = 0
