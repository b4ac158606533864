-- What is before an event of a sound history: its parents, and the past.
use Rattle.std.proofs.Common.{◌≡◌, ◌∙◌, ℕ, zero, suc, ◌<◌, Bool, true, ◌||◌, List, [], ◌∷◌, ◌++◌, Option, Some, None, refl, sym, ap, subst, take, arith, append_assoc, reverse}
use Rattle.std.proofs.lemmas.Bool.{true≢false}
use Rattle.std.proofs.lemmas.Option.{none-some, same_Some}
use Rattle.std.specs.List.{AllByRecursion, list_any}
use Rattle.std.specs.Prelude.{is_some, slice_get}
use Rattle.plain_model.specs.declared.id.AnyId.TheVariants as any
use Rattle.plain_model.specs.declared.event.PlainEvent.{PlainEvent}
use Rattle.plain_model.specs.declared.event.PlainEvent.TheVariants.{Blob, Commit, Tag, Reset, Pass}
use Rattle.plain_model.specs.Histories.{nodes, past}
use Rattle.plain_model.specs.Lookups.{event_parents, id_of, place_of}
use Rattle.plain_model.specs.Soundness.{AreSoundAfter, IsCommitOf, IsSoundEvent}
use Rattle.event_arena.proofs.ListLemmas.{take_item}
use Rattle.ancestry_laws.proofs.Pasts.{past_append}
use Rattle.graph_walk.proofs.PlaceLemmas.{event_placed, has_id_place}

-- the past of one event more
pub past_item : (events : List PlainEvent) (k : ℕ) (e : PlainEvent) → slice_get events k ≡ Some e →
    past (take (suc k) events) ≡ reverse (nodes (e ∷ [])) ++ past (take k events)
past_item events k e h = ap past (take_item events k e h) ∙ past_append (take k events) (e ∷ [])

pub any_on : {X : Type 0} (f g : X → Bool) (P : X → Type 0) → ((x : X) → P x → f x ≡ g x) → (xs : List X) →
    AllByRecursion P xs → list_any f xs ≡ list_any g xs
any_on f g P h [] all = refl
any_on f g P h (x ∷ xs) all = ap (λ b. b || list_any f xs) (h x all.0) ∙ ap (λ b. g x || b) (any_on f g P h xs all.1)

get_take : {X : Type 0} (xs : List X) (k j : ℕ) (x : X) → slice_get (take k xs) j ≡ Some x →
    (slice_get xs j ≡ Some x) × (j < k)
get_take [] zero j x h = absurd (none-some x h)
get_take [] (suc k) j x h = absurd (none-some x h)
get_take (y ∷ xs) zero j x h = absurd (none-some x h)
get_take (y ∷ xs) (suc k) zero x h = (h, omega arith)
get_take (y ∷ xs) (suc k) (suc j) x h = let more = get_take xs k j x h in let low = more.1 in (more.0, omega arith)

-- each parent of a sound history's event is before it
pub parents_before : (earlier events : List PlainEvent) (k : ℕ) (e : PlainEvent) → AreSoundAfter earlier events →
    slice_get events k ≡ Some e → AllByRecursion (IsCommitOf (earlier ++ take k events)) (event_parents e)
parents_before earlier [] k e h at = absurd (none-some e at)
parents_before earlier (x ∷ events) zero e h at =
    subst (λ es. AllByRecursion (IsCommitOf es) (event_parents e)) (nil earlier) (subst (λ y. AllByRecursion (IsCommitOf earlier) (event_parents y)) (same_Some x e at) (own x h.0))
  where
    nil : (xs : List PlainEvent) → xs ≡ xs ++ []
    nil [] = refl
    nil (y ∷ xs) = ap (λ ys. y ∷ ys) (nil xs)

    own : (x : PlainEvent) → IsSoundEvent earlier x → AllByRecursion (IsCommitOf earlier) (event_parents x)
    own (Commit id mark branch author committer encoding comment parents ops aliases) h = h.6
    own (Blob id mark bytes) h = tt
    own (Tag id name target tagger comment mark) h = tt
    own (Reset id branch target) h = tt
    own (Pass id line) h = tt
parents_before earlier (x ∷ events) (suc k) e h at =
    subst (λ es. AllByRecursion (IsCommitOf es) (event_parents e)) (append_assoc earlier (x ∷ []) (take k events)) (parents_before (earlier ++ x ∷ []) events k e h.1 at)

-- the place of an earlier commit, and the event there
pub record IsEarlier (events : List PlainEvent) (k c : ℕ) : Type 0 where
  pub place : ℕ
  pub event : PlainEvent
  pub low : place < k
  pub at : slice_get events place ≡ Some event
  pub own : any.Commit c ≡ id_of event

pub is_earlier : (events : List PlainEvent) (k c : ℕ) → IsCommitOf (take k events) c → IsEarlier events k c
is_earlier events k c h = by (place_of (any.Commit c) (take k events)) refl (sym (has_id_place (take k events) (any.Commit c)) ∙ h)
  where
    by : (o : Option ℕ) → place_of (any.Commit c) (take k events) ≡ o → is_some o ≡ true → IsEarlier events k c
    by None is some = absurd (true≢false (sym some))
    by (Some p) is some =
        let e = event_placed (take k events) (any.Commit c) p is in
        let at = get_take events k p e.event e.at in
        record { place = p; event = e.event; low = at.1; at = at.0; own = e.own }
