-- Stamps counted along a history, and which of several with its stamp each commit is.
use Rattle.std.specs.Prelude.{◌≡◌, ℕ, List, [], ◌∷◌, ◌++◌, unwrap_or}
use Rattle.plain_model.specs.declared.event.PlainEvent.{PlainEvent}
use Rattle.plain_model.specs.declared.event.PlainEvent.TheVariants.{Blob, Commit, Tag, Reset, Pass}
use Rattle.plain_model.specs.Paths.{Bytes}
use Rattle.plain_model.specs.Trees.{TreeOf, at}
use Rattle.listing.specs.Stamps.{sharing, stamp_of}

-- how often a stamp was counted
abbrev pub counted : TreeOf ℕ → Bytes → ℕ
counted counts stamp = unwrap_or (at counts stamp) 0

-- each stamp was counted as often as commits have it
abbrev pub AreCounts : TreeOf ℕ → List PlainEvent → Type 0
AreCounts counts events = (stamp : Bytes) → counted counts stamp ≡ sharing stamp events

-- how many of the events have the stamp of a commit; for other events 0
abbrev pub sharing_event : List PlainEvent → PlainEvent → ℕ
sharing_event events (Commit id mark branch author committer encoding comment parents ops aliases) =
    sharing (stamp_of committer) events
sharing_event events (Blob id mark bytes) = 0
sharing_event events (Tag id name target tagger comment mark) = 0
sharing_event events (Reset id branch target) = 0
sharing_event events (Pass id bytes) = 0

-- for each event, after some earlier ones, which of those with its stamp it is, from 1; 0 where it isn't a commit
abbrev pub ranks : List PlainEvent → List PlainEvent → List ℕ
ranks earlier [] = []
ranks earlier (e ∷ events) = sharing_event (earlier ++ e ∷ []) e ∷ ranks (earlier ++ e ∷ []) events

-- ---- one event more

-- it is the one of this number among the commits with its stamp, after any events that have these counts
abbrev pub IsRankAfter : TreeOf ℕ → PlainEvent → ℕ → Type 0
IsRankAfter counts e rank =
    (earlier : List PlainEvent) → AreCounts counts earlier → rank ≡ sharing_event (earlier ++ e ∷ []) e

-- the new counts are those of any events that have the old ones, and then this event
abbrev pub CountsOneMore : TreeOf ℕ → PlainEvent → TreeOf ℕ → Type 0
CountsOneMore counts e new = (earlier : List PlainEvent) → AreCounts counts earlier → AreCounts new (earlier ++ e ∷ [])
