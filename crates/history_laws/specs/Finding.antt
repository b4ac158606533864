-- What is said of an event, of its number and of lists of ids. (own)
use Rattle.std.specs.Prelude.{Bool, IfSome, List, [], false, true, unwrap_or, ℕ, ◌==◌, ◌∷◌, ◌≤◌}
use Rattle.plain_model.specs.Lookups.{number_of}
use Rattle.plain_model.specs.declared.event.PlainEvent.{PlainEvent}
use Rattle.plain_model.specs.declared.event.PlainEvent.TheVariants.{Blob, Commit, Pass, Reset, Tag}
use Rattle.plain_model.specs.declared.id.AnyId.{AnyId}
use Rattle.plain_model.specs.declared.limit.TheConstants.{MAX_SECONDS}

-- the number of an event, 0 where it isn't there
abbrev pub event_number : List PlainEvent → AnyId → ℕ
event_number events id = unwrap_or (number_of id events) 0

-- the commit is the only one of the list
abbrev pub is_only : ℕ → List ℕ → Bool
is_only c (d ∷ []) = d == c
is_only c other = false

-- the event is a commit
abbrev pub is_commit : PlainEvent → Bool
is_commit (Commit id mark branch author committer encoding comment parents ops aliases) = true
is_commit other = false

-- the seconds of its committer or tagger are no more than the greatest
abbrev pub IsDated : PlainEvent → Type 0
IsDated (Commit id mark branch author committer encoding comment parents ops aliases) = committer.when.seconds ≤ MAX_SECONDS
IsDated (Tag id name target tagger comment mark) = IfSome tagger (λ t. t.when.seconds ≤ MAX_SECONDS)
IsDated (Blob id mark bytes) = Unit {0}
IsDated (Reset id branch target) = Unit {0}
IsDated (Pass id line) = Unit {0}
