-- What is on a commit is put onto its copy.
use Rattle.std.specs.Prelude.{ℕ, map, option_map}
use Rattle.plain_model.specs.declared.event.PlainEvent.{PlainEvent}
use Rattle.plain_model.specs.declared.event.PlainEvent.TheVariants.{Blob, Commit, Tag, Reset, Pass}
use Rattle.split_laws.specs.Split.{onto}

-- a child with the copy as its parent, and a tag or a reset that is on it
abbrev pub put_onto : ℕ → ℕ → PlainEvent → PlainEvent
put_onto c copy (Commit id mark branch author committer encoding comment parents ops aliases) =
    Commit id mark branch author committer encoding comment (map (onto c copy) parents) ops aliases
put_onto c copy (Tag id name target tagger comment mark) = Tag id name (onto c copy target) tagger comment mark
put_onto c copy (Reset id branch target) = Reset id branch (option_map (onto c copy) target)
put_onto c copy (Blob id mark bytes) = Blob id mark bytes
put_onto c copy (Pass id line) = Pass id line
