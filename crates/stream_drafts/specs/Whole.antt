-- Events that lack nothing but a commit's aliases, and what they are with these.
use Rattle.std.specs.Prelude.{◌≡◌, ℕ, List, []}
use Rattle.plain_model.specs.declared.event.PlainEvent.{PlainEvent}
use Rattle.plain_model.specs.declared.event.PlainEvent.TheVariants as plain
use Rattle.plain_model.specs.Marks.{IsMark}

-- a blob or a commit has a mark
abbrev pub IsMarked : PlainEvent → Type 0
IsMarked (plain.Blob id mark bytes) = IsMark mark
IsMarked (plain.Commit id mark branch author committer encoding comment parents ops aliases) = IsMark mark
IsMarked (plain.Tag id name target tagger comment mark) = Unit {0}
IsMarked (plain.Reset id branch target) = Unit {0}
IsMarked (plain.Pass id line) = Unit {0}

-- a blob or a commit has a mark, and a commit no aliases
abbrev pub IsWhole : PlainEvent → Type 0
IsWhole (plain.Blob id mark bytes) = IsMark mark
IsWhole (plain.Commit id mark branch author committer encoding comment parents ops aliases) = IsMark mark × (aliases ≡ [])
IsWhole (plain.Tag id name target tagger comment mark) = Unit {0}
IsWhole (plain.Reset id branch target) = Unit {0}
IsWhole (plain.Pass id line) = Unit {0}

-- a commit with these aliases; another event as it is
abbrev pub given_aliases : PlainEvent → List ℕ → PlainEvent
given_aliases (plain.Commit id mark branch author committer encoding comment parents ops old) aliases =
    plain.Commit id mark branch author committer encoding comment parents ops aliases
given_aliases (plain.Blob id mark bytes) aliases = plain.Blob id mark bytes
given_aliases (plain.Tag id name target tagger comment mark) aliases = plain.Tag id name target tagger comment mark
given_aliases (plain.Reset id branch target) aliases = plain.Reset id branch target
given_aliases (plain.Pass id line) aliases = plain.Pass id line
