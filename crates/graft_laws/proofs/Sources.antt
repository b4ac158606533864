-- Each event of a joined history was one of those that were joined, and its number leads back to it.
use Rattle.std.proofs.Common.{◌≡◌, ℕ, Bool, suc, ◌+◌, ◌-◌, ◌≤◌, ◌<◌, true, List, [], ◌∷◌, ◌++◌, length, refl, sym, ap, subst, ◌∙◌, inl, inr, ◌⊎◌, arith, append_assoc, true≢false, Option, Some, None, Ok, option_map}
use Rattle.std.specs.Prelude.{is_some, max, unwrap_or}
use Rattle.std.specs.List.{AllByRecursion, fold}
use Rattle.std.proofs.lemmas.Bool.{or_cases}
use Rattle.plain_model.specs.declared.id.AnyId.{AnyId}
use Rattle.plain_model.specs.declared.id.AnyId.TheVariants as any
use Rattle.plain_model.specs.declared.event.PlainEvent.{PlainEvent}
use Rattle.plain_model.specs.declared.event.PlainEvent.TheVariants.{Blob, Commit, Tag, Reset, Pass}
use Rattle.plain_model.specs.Lookups.{id_number, id_of, next_number, place_of, same_id}
use Rattle.plain_model.specs.Soundness.{has_id}
use Rattle.edit_laws.specs.Parts.{of_id, tally}
use Rattle.history_laws.specs.Placed.{ArePlaced}
use Rattle.history_laws.proofs.Ids.{found_place, has_id_append, has_id_step, has_own, place_at, place_within, same_id_true}
use Rattle.history_laws.proofs.SoundOnce.{has_id_find}
use Rattle.shown_laws.specs.AsWritten.{renamed, renamed_from}
use Rattle.graft_laws.specs.Joined.{IsLinked, IsPart}
use Rattle.graft_laws.specs.Joining.{Joining, added, new_number, without_passes}
use Rattle.graft_laws.specs.Sources.{IsFrom, IsFromOne, number_after, number_at, numbered}
use Rattle.graft_laws.specs.Unite.{Part, uniting, with_part, with_parts}
use Rattle.graft_laws.proofs.Behind.{sound_linked}
use Rattle.graft_laws.proofs.Events.{has_joined, length_new, placed_new}
use Rattle.graft_laws.proofs.Passes.{linked_without}
use Rattle.graft_laws.proofs.Places.{next, own}
use Rattle.graft_laws.proofs.UniteDone.{further}

-- ---- back from a number

-- the place of an event that is there
abbrev HasPlace : AnyId → List PlainEvent → Type 0
HasPlace id events = (place : ℕ) × (place_of id events ≡ Some place)

has_place : (id : AnyId) (events : List PlainEvent) → has_id events id ≡ true → HasPlace id events
has_place id events there = go (place_of id events) refl (found_place id events (sym (has_id_find events id) ∙ there))
  where
    go : (o : Option ℕ) → place_of id events ≡ o → is_some o ≡ true → HasPlace id events
    go None is h = absurd (true≢false (sym h))
    go (Some place) is h = (place, is)

-- its number leads back to it, and is one of the part's
abbrev LeadsBack : List PlainEvent → ℕ → AnyId → Type 0
LeadsBack part first id =
    (number_at part (new_number first (without_passes part) id - first) ≡ id_number id)
    × (first ≤ new_number first (without_passes part) id) × (new_number first (without_passes part) id < number_after first part)

pub leads_back : (part : List PlainEvent) (first : ℕ) (id : AnyId) → has_id (without_passes part) id ≡ true → LeadsBack part first id
leads_back part first id there =
    let has = has_place id (without_passes part) there in
    let found = place_at id (without_passes part) has.0 has.1 in
    let within = place_within (without_passes part) has.0 found.0 found.1 in
    let is : new_number first (without_passes part) id ≡ first + has.0 = ap (λ (o : Option ℕ). first + unwrap_or o 0) has.1 in
    let back : new_number first (without_passes part) id - first ≡ has.0 = omega arith in (
      ap (number_at part) back ∙ ap (λ (o : Option PlainEvent). unwrap_or (option_map (λ e. id_number (id_of e)) o) 0) found.1 ∙ ap id_number (sym found.3),
      omega arith,
      omega arith,
    )

-- ---- one part

renamed_id : (blob commit : ℕ → ℕ) (k : ℕ) (e : PlainEvent) → id_of (renamed blob commit k e) ≡ numbered (id_of e) k
renamed_id blob commit k (Blob id mark bytes) = refl
renamed_id blob commit k (Commit id mark branch author committer encoding comment parents ops aliases) = refl
renamed_id blob commit k (Tag id name target tagger comment mark) = refl
renamed_id blob commit k (Reset id branch target) = refl
renamed_id blob commit k (Pass id line) = refl

-- the event was one of a list, and has its new number
abbrev WasOf : List PlainEvent → ℕ → AnyId → Type 0
WasOf events first id = (was : AnyId) × (has_id events was ≡ true) × (id ≡ numbered was (new_number first events was))

module _ (blob commit : ℕ → ℕ) (first : ℕ) (whole : List PlainEvent) (once : (id : AnyId) → tally (of_id id) whole ≤ 1) where
  was_of : (xs es : List PlainEvent) (k : ℕ) → whole ≡ xs ++ es → k ≡ first + length xs → (id : AnyId) → has_id (renamed_from blob commit k es) id ≡ true → WasOf whole first id
  was_of xs [] k w is id h = absurd (true≢false (sym h))
  was_of xs (e ∷ es) k w is id h =
      elim (or_cases (same_id (id_of (renamed blob commit k e)) id) (has_id (renamed_from blob commit (suc k) es) id)
      (sym (has_id_step (renamed blob commit k e) (renamed_from blob commit (suc k) es) id) ∙ h)) [
        | inl here ↦ (
          id_of e,
          subst (λ (l : List PlainEvent). has_id l (id_of e) ≡ true) (sym w) (has_own xs es e),
          sym (same_id_true (id_of (renamed blob commit k e)) id here) ∙ renamed_id blob commit k e ∙ ap (numbered (id_of e)) (sym (own first whole once xs es e k w is)),
        )
        | inr later ↦ was_of (xs ++ e ∷ []) es (suc k) (w ∙ sym (append_assoc xs (e ∷ []) es)) (next first whole once xs e k is) id later
      ]

-- an event behind a list is one of the list or of the part
pub from_added : (how : Joining) (first : ℕ) (front part : List PlainEvent) → IsLinked part → (id : AnyId) → has_id (front ++ added how first part) id ≡ true
    → (has_id front id ≡ true) ⊎ IsFrom part first id
from_added how first front part linked id h =
    let blob : ℕ → ℕ = λ b. new_number first (without_passes part) (any.Blob b) in
    let commit : ℕ → ℕ = λ c. new_number first (without_passes part) (any.Commit c) in
    elim (or_cases (has_id front id) (has_id (added how first part) id) (sym (has_id_append front (added how first part) id) ∙ h)) [
      | inl old ↦ inl old
      | inr new ↦
          inr (was_of blob commit first (without_passes part) (linked_without part linked).ids [] (without_passes part) first refl (omega arith) id
          (sym (has_joined how (renamed_from blob commit first (without_passes part)) id) ∙ new))
    ]

-- ---- parts one behind another

abbrev above : ℕ → List PlainEvent → ℕ
above n events = fold (λ n e. max n (id_number (id_of e) + 1)) n events

above_placed : (k : ℕ) (ys : List PlainEvent) → ArePlaced k ys → above k ys ≡ k + length ys
above_placed k [] p = omega arith
above_placed k (y ∷ ys) p =
    let here : max k (id_number (id_of y) + 1) ≡ suc k = (let at = p.0 in omega arith) in
    let rest = above_placed (suc k) ys p.1 in
    ap (λ n. above n ys) here ∙ rest ∙ (let same : suc k + length ys ≡ k + length (y ∷ ys) = omega arith in same)

above_both : (n : ℕ) (xs ys : List PlainEvent) → above n (xs ++ ys) ≡ above (above n xs) ys
above_both n [] ys = refl
above_both n (x ∷ xs) ys = above_both (max n (id_number (id_of x) + 1)) xs ys

module _ (prune : Bool) where
  -- the numbers go on
  pub next_after : (events : List PlainEvent) (part : Part) → next_number (with_part prune events part) ≡ number_after (next_number events) part.events
  next_after events part =
      let how = uniting prune events part.name in
      let first = next_number events in
      let blob : ℕ → ℕ = λ b. new_number first (without_passes part.events) (any.Blob b) in
      let commit : ℕ → ℕ = λ c. new_number first (without_passes part.events) (any.Commit c) in
      above_both 1 events (added how first part.events)
      ∙ above_placed first (added how first part.events) (placed_new how blob commit first (without_passes part.events))
      ∙ ap (λ k. first + k) (length_new how blob commit first (without_passes part.events))

  pub from_parts : (events : List PlainEvent) (parts : List Part) (whole : List PlainEvent) → with_parts prune events parts ≡ Ok whole → AllByRecursion IsPart parts
      → (id : AnyId) → has_id whole id ≡ true → (has_id events id ≡ true) ⊎ IsFromOne parts (next_number events) id
  from_parts events [] whole joins good id h = let same : events ≡ whole = cc in inl (subst (λ (l : List PlainEvent). has_id l id ≡ true) (sym same) h)
  from_parts events (part ∷ parts) whole joins good id h =
      elim (from_parts (with_part prune events part) parts whole (further prune events part parts whole joins) good.1 id h) [
        | inl there ↦
            elim (from_added (uniting prune events part.name) (next_number events) events part.events (sound_linked part.events good.0.sound) id there) [
              | inl old ↦ inl old
              | inr new ↦ inr (inl new)
            ]
        | inr later ↦ inr (inr (subst (λ n. IsFromOne parts n id) (next_after events part) later))
      ]
