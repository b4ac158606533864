-- Ids that are places.
use Rattle.std.proofs.Common.{◌≡◌, ℕ, suc, ◌+◌, ◌<◌, true, List, [], ◌∷◌, length, sym, ◌∙◌, inl, inr, ◌⊎◌, arith, ◌≤◌}
use Rattle.std.proofs.lemmas.Bool.{or_cases}
use Rattle.plain_model.specs.declared.id.AnyId.{AnyId}
use Rattle.plain_model.specs.declared.event.PlainEvent.{PlainEvent}
use Rattle.plain_model.specs.Lookups.{id_of, id_number, same_id, AreIdsBelow}
use Rattle.plain_model.specs.Soundness.{has_id}
use Rattle.history_laws.proofs.Ids.{has_id_step, same_number}
use Rattle.history_laws.specs.Placed.{ArePlaced}
use Rattle.history_laws.proofs.SoundOnce.{has_id_find}

-- an id that is there is below the next place
pub id_below : (k : ℕ) (events : List PlainEvent) → ArePlaced k events → (wanted : AnyId) → has_id events wanted ≡ true → id_number wanted < k + length events
id_below k [] p wanted h = absurd cc
id_below k (e ∷ events) p wanted h = go (or_cases (same_id (id_of e) wanted) (has_id events wanted) (sym (has_id_step e events wanted) ∙ h)) (id_below (suc k) events p.1 wanted)
  where
    go : (same_id (id_of e) wanted ≡ true) ⊎ (has_id events wanted ≡ true) → (has_id events wanted ≡ true → id_number wanted < suc k + length events) → id_number wanted < k + suc (length events)
    go (inl here) more = let same = same_number (id_of e) wanted here in let own = p.0 in omega arith
    go (inr later) more = let below = more later in omega arith

-- ids of events at places from k on are below the place after the last one
pub placed_low : (k bound : ℕ) (events : List PlainEvent) → ArePlaced k events → k + length events ≤ bound → AreIdsBelow bound events
placed_low k bound events placed fits id there = let low = id_below k events placed id (has_id_find events id ∙ there) in omega (arith, fits)
