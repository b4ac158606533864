-- Comments that become one. (own)
use Rattle.std.specs.Prelude.{ℕ, ◌==◌, List, [], ◌∷◌, ◌++◌, if◌then◌else◌}
use Rattle.plain_model.specs.declared.event.PlainEvent.{PlainEvent}
use Rattle.plain_model.specs.declared.event.PlainEvent.TheVariants.{Blob, Commit, Tag, Reset, Pass}
use Rattle.plain_model.specs.Paths.{Bytes}

-- with one LF between the two; an empty one is left out
abbrev pub joined_two : Bytes → Bytes → Bytes
joined_two [] second = second
joined_two (b ∷ first) [] = b ∷ first
joined_two (b ∷ first) (c ∷ second) = (b ∷ first) ++ 10 ∷ c ∷ second

-- all of them, in order
abbrev pub joined : List Bytes → Bytes
joined [] = []
joined (comment ∷ comments) = joined_two comment (joined comments)

-- the comment of the commit with the id
abbrev pub comment_of : List PlainEvent → ℕ → Bytes
comment_of [] c = []
comment_of (Commit id mark branch author committer encoding comment parents ops aliases ∷ events) c =
    if id == c then comment else comment_of events c
comment_of (Blob id mark bytes ∷ events) c = comment_of events c
comment_of (Tag id name target tagger comment mark ∷ events) c = comment_of events c
comment_of (Reset id branch target ∷ events) c = comment_of events c
comment_of (Pass id line ∷ events) c = comment_of events c
