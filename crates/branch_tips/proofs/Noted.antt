-- The branches of a list are those of its first event, and then of the others.
use Rattle.std.proofs.Common.{◌≡◌, ℕ, List, [], ◌∷◌, Some, None, refl}
use Rattle.plain_model.specs.declared.event.PlainEvent.{PlainEvent}
use Rattle.plain_model.specs.declared.event.PlainEvent.TheVariants.{Blob, Commit, Tag, Reset, Pass}
use Rattle.plain_model.specs.Snapshots.{refs_after}
use Rattle.plain_model.specs.Trees.{TreeOf}

pub noted : (tips : TreeOf ℕ) (e : PlainEvent) (events : List PlainEvent)
    → refs_after tips (e ∷ events) ≡ refs_after (refs_after tips (e ∷ [])) events
noted tips (Blob id mark bytes) events = refl
noted tips (Commit id mark branch author committer encoding comment parents ops aliases) events = refl
noted tips (Tag id name target tagger comment mark) events = refl
noted tips (Reset id branch (Some c)) events = refl
noted tips (Reset id branch None) events = refl
noted tips (Pass id bytes) events = refl
