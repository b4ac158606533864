-- Whether each event of a list is after all that it refers to.
use Rattle.std.proofs.Common.{◌≡◌, ◌∙◌, ℕ, zero, suc, ◌<◌, ◌≤◌, Bool, true, false, List, [], ◌∷◌, Some, refl, sym, ap, subst, length, get_or, take, arith}
use Rattle.std.proofs.lemmas.Bool.Decides.{nat_tests}
use Rattle.std.proofs.Math.Bool.{or-true}
use Rattle.std.proofs.lemmas.Option.{get_or_from_slice_get, none-some, same_Some}
use Rattle.std.specs.List.{list_all}
use Rattle.std.specs.Bool.{OnTrue}
use Rattle.std.specs.Prelude.{is_some, nat_lt, slice_get}
use Rattle.plain_model.specs.declared.id.AnyId.{AnyId}
use Rattle.plain_model.specs.declared.event.PlainEvent.{PlainEvent}
use Rattle.plain_model.specs.Lookups.{find_event, id_of, place_of}
use Rattle.plain_model.specs.Soundness.{has_id}
use Rattle.history_laws.proofs.Ids.{same_id_refl}
use Rattle.event_arena.proofs.ListLemmas.{flat_take_item, take_all, take_item}
use Rattle.history_laws.proofs.Ids.{has_id_append}
use Rattle.history_laws.proofs.SoundOnce.{has_id_find}
use Rattle.edit_laws.specs.Parts.{AreInOrder}
use Rattle.edit_laws.specs.Settling.{is_ready}
use Rattle.graph_walk.specs.Slots.{named_by, slots_of}
use Rattle.std.proofs.lemmas.List.Folds.{list_all-append}
use Rattle.history_laws.proofs.Lists.{item_at}
use Rattle.edit_laws.proofs.Settled.{in_order_more}
use Rattle.graph_walk.proofs.SlotLemmas.{slots_named}
use Rattle.graph_walk.proofs.PlaceLemmas.{event_placed}

-- ---- earlier events

take_get : {X : Type 0} (xs : List X) (k j : ℕ) (x : X) → slice_get xs j ≡ Some x → j < k →
    slice_get (take k xs) j ≡ Some x
take_get [] k j x h low = absurd (none-some x h)
take_get (y ∷ xs) zero j x h low = absurd (omega arith)
take_get (y ∷ xs) (suc k) zero x h low = h
take_get (y ∷ xs) (suc k) (suc j) x h low = take_get xs k j x h (omega arith)

has_id_at : (es : List PlainEvent) (k : ℕ) (e : PlainEvent) → slice_get es k ≡ Some e → has_id es (id_of e) ≡ true
has_id_at [] k e h = absurd (none-some e h)
has_id_at (x ∷ es) zero e h =
    has_id_find (x ∷ es) (id_of e)
    ∙ subst (λ y. is_some (find_event (id_of y) (x ∷ es)) ≡ true) (same_Some x e h) (rw (same_id_refl (id_of x)) refl)
has_id_at (x ∷ es) (suc k) e h =
    has_id_append (x ∷ []) es (id_of e) ∙ rw (has_id_at es k e h) (or-true (has_id (x ∷ []) (id_of e)))

-- an event whose place is earlier
pub has_id_take : (events : List PlainEvent) (k q : ℕ) (id : AnyId) → place_of id events ≡ Some q → q < k →
    has_id (take k events) id ≡ true
has_id_take events k q id h low =
    let e = event_placed events id q h in
    ap (has_id (take k events)) e.own ∙ has_id_at (take k events) q e.event (take_get events k q e.event e.at low)

-- ---- slot by slot

abbrev pub named_all : List PlainEvent → PlainEvent → ℕ → Bool
named_all earlier e slot = list_all (has_id earlier) (named_by (take slot (slots_of e)))

pub named_more : (earlier : List PlainEvent) (e : PlainEvent) (k : ℕ) → k < length (slots_of e) →
    named_all earlier e k ≡ true → list_all (has_id earlier) (get_or (slots_of e) k []) ≡ true →
    named_all earlier e (suc k) ≡ true
named_more earlier e k low before own =
    let item = item_at (slots_of e) k low in
    ap (list_all (has_id earlier)) (flat_take_item (λ (slot : List AnyId). slot) (slots_of e) k item.0 item.1)
    ∙ list_all-append (has_id earlier) (named_by (take k (slots_of e))) item.0
    ∙ rw (before, ← get_or_from_slice_get (slots_of e) k item.0 [] item.1, own) refl

pub named_ready : (earlier : List PlainEvent) (e : PlainEvent) (k : ℕ) → length (slots_of e) ≤ k →
    named_all earlier e k ≡ true → is_ready earlier e ≡ true
named_ready earlier e k all h =
    ap (list_all (has_id earlier)) (sym (ap named_by (take_all (slots_of e) k all) ∙ slots_named e)) ∙ h

-- ---- the whole list

pub ready_item : (events : List PlainEvent) (k : ℕ) (e : PlainEvent) → slice_get events k ≡ Some e →
    AreInOrder [] (take k events) → is_ready (take k events) e ≡ true → AreInOrder [] (take (suc k) events)
ready_item events k e at all own =
    subst (AreInOrder []) (sym (take_item events k e at)) (in_order_more [] (take k events) e all own)

-- a test of places says so
pub before_place : (events : List PlainEvent) (k q : ℕ) (id : AnyId) → place_of id events ≡ Some q →
    OnTrue (nat_lt q k) (has_id (take k events) id ≡ true)
before_place events k q id h = by (nat_lt q k) refl
  where
    by : (b : Bool) → nat_lt q k ≡ b → OnTrue b (has_id (take k events) id ≡ true)
    by true is = has_id_take events k q id h (low q k is)
      where
        low : (a b : ℕ) → nat_lt a b ≡ true → a < b
        low a b e = grind (arith, nat_tests)
    by false is = tt
