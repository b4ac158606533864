-- Events whose ids are their places, as reading gives them. (own)
use Rattle.std.specs.Prelude.{◌≡◌, ℕ, suc, List, [], ◌∷◌}
use Rattle.plain_model.specs.declared.event.PlainEvent.{PlainEvent}
use Rattle.plain_model.specs.Lookups.{id_of, id_number}

-- the numbers of their ids go up by one from k
abbrev pub ArePlaced : ℕ → List PlainEvent → Type 0
ArePlaced k [] = Unit {0}
ArePlaced k (e ∷ events) = (id_number (id_of e) ≡ k) × ArePlaced (suc k) events
