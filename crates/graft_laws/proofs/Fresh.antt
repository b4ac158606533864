-- Ids that are given one after another from a number above all others.
use Rattle.std.proofs.Common.{◌≡◌, ℕ, suc, ◌+◌, ◌≤◌, ◌<◌, true, false, List, [], ◌∷◌, ◌++◌, length, refl, sym, ap, ◌∙◌, inl, inr, arith, true≢false}
use Rattle.std.proofs.lemmas.Bool.{cases_Bool, cases_lt, or_cases}
use Rattle.plain_model.specs.declared.id.AnyId.{AnyId}
use Rattle.plain_model.specs.declared.event.PlainEvent.{PlainEvent}
use Rattle.plain_model.specs.Lookups.{AreIdsBelow, id_number, id_of, same_id}
use Rattle.plain_model.specs.Soundness.{has_id}
use Rattle.history_laws.specs.Placed.{ArePlaced}
use Rattle.edit_laws.specs.Parts.{of_id, one_if, tally}
use Rattle.edit_laws.proofs.Lists.{none_passing, own_id, tally_append}
use Rattle.history_laws.proofs.Ids.{has_id_append, has_id_step, same_number}
use Rattle.history_laws.proofs.SoundOnce.{has_id_find}

-- an id that is there is below
pub below : (bound : ℕ) (events : List PlainEvent) → AreIdsBelow bound events → (id : AnyId) → has_id events id ≡ true → id_number id < bound
below bound events low id there = low id (sym (has_id_find events id) ∙ there)

pub all_below : (bound : ℕ) (events : List PlainEvent) → ((id : AnyId) → has_id events id ≡ true → id_number id < bound) → AreIdsBelow bound events
all_below bound events low id there = low id (has_id_find events id ∙ there)

-- what isn't below isn't there
pub absent : (bound : ℕ) (events : List PlainEvent) → AreIdsBelow bound events → (id : AnyId) → bound ≤ id_number id → has_id events id ≡ false
absent bound events low id high =
    elim (cases_Bool (has_id events id)) [
      | inl there ↦ let under = below bound events low id there in absurd (omega arith)
      | inr it ↦ it
    ]

-- ---- places

-- an id of placed events is one of their places
pub placed_within : (k : ℕ) (events : List PlainEvent) → ArePlaced k events → (id : AnyId) → has_id events id ≡ true → (k ≤ id_number id) × (id_number id < k + length events)
placed_within k [] p id h = absurd (true≢false (sym h))
placed_within k (e ∷ events) p id h =
    elim (or_cases (same_id (id_of e) id) (has_id events id) (sym (has_id_step e events id) ∙ h)) [
      | inl own ↦ let same = same_number (id_of e) id own in let here = p.0 in (omega arith, omega arith)
      | inr later ↦ let rest = placed_within (suc k) events p.1 id later in (omega arith, omega arith)
    ]

none_before : (k : ℕ) (events : List PlainEvent) → ArePlaced k events → (id : AnyId) → id_number id < k → tally (of_id id) events ≡ 0
none_before k events p id low =
    none_passing (λ l. has_id l id) (λ xs ys. has_id_append xs ys id) refl events
    (elim (cases_Bool (has_id events id)) [
      | inl there ↦ let within = placed_within k events p id there in absurd (omega arith)
      | inr it ↦ it
    ])

placed_once : (k : ℕ) (events : List PlainEvent) → ArePlaced k events → (id : AnyId) → tally (of_id id) events ≤ 1
placed_once k [] p id = omega arith
placed_once k (e ∷ events) p id =
    elim (cases_Bool (has_id (e ∷ []) id)) [
      | inl own ↦
          let one : of_id id e ≡ 1 = ap one_if own in
          let same = same_number id (id_of e) (sym (own_id e id) ∙ own) in
          let here = p.0 in
          let none = none_before (suc k) events p.1 id (omega arith) in
          omega arith
      | inr other ↦
          let none : of_id id e ≡ 0 = ap one_if other in
          let rest = placed_once (suc k) events p.1 id in
          omega arith
    ]

-- behind events whose ids are below
pub once_behind : (k : ℕ) (xs ys : List PlainEvent) → ((id : AnyId) → tally (of_id id) xs ≤ 1) → AreIdsBelow k xs → ArePlaced k ys → (id : AnyId) → tally (of_id id) (xs ++ ys) ≤ 1
once_behind k xs ys once low p id =
    let both = tally_append (of_id id) xs ys in
    elim (cases_lt (id_number id) k) [
      | inl under ↦
          let none = none_before k ys p id under in
          let one = once id in
          omega arith
      | inr above ↦
          let none = none_passing (λ l. has_id l id) (λ x y. has_id_append x y id) refl xs (absent k xs low id above) in
          let one = placed_once k ys p id in
          omega arith
    ]

pub below_behind : (k : ℕ) (xs ys : List PlainEvent) → AreIdsBelow k xs → ArePlaced k ys → AreIdsBelow (k + length ys) (xs ++ ys)
below_behind k xs ys low p =
    all_below (k + length ys) (xs ++ ys) (λ id there. elim (or_cases (has_id xs id) (has_id ys id) (sym (has_id_append xs ys id) ∙ there)) [
      | inl first ↦ let under = below k xs low id first in omega arith
      | inr second ↦ (placed_within k ys p id second).1
    ])
