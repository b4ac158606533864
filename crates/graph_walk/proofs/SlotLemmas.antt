-- What slots name, and flags of it.
use Rattle.std.proofs.Common.{◌≡◌, ◌∙◌, ℕ, zero, suc, ◌<◌, ◌≤◌, Bool, true, false, ◌&&◌, ◌||◌, inl, inr, List, [], ◌∷◌, ◌++◌, Option, Some, None, refl, sym, ap, subst, length, get_or, take, arith}
use Rattle.std.proofs.Math.Bool.{and-false, or-false, or-true}
use Rattle.std.proofs.Math.ListN.{set}
use Rattle.std.proofs.lemmas.Bool.{and_parts, cases_Bool, true≢false}
use Rattle.std.proofs.lemmas.List.{get_or-set_other, get_or-set_same}
use Rattle.std.proofs.lemmas.List.Concat.{flat_map-append}
use Rattle.std.proofs.lemmas.List.Folds.{list_all-append}
use Rattle.std.proofs.lemmas.Option.{none-some, same_Some}
use Rattle.std.specs.List.{list_all}
use Rattle.std.specs.Prelude.{find, flat_map, is_some, map, slice_get}
use Rattle.plain_model.specs.declared.id.AnyId.{AnyId}
use Rattle.plain_model.specs.declared.id.AnyId.TheVariants as any
use Rattle.plain_model.specs.declared.operation.FileOp.{FileOp}
use Rattle.plain_model.specs.declared.event.PlainEvent.{PlainEvent}
use Rattle.plain_model.specs.declared.event.PlainEvent.TheVariants.{Blob, Commit, Tag, Reset, Pass}
use Rattle.plain_model.specs.Lookups.{op_blobs, place_of, referents_of, same_id}
use Rattle.plain_model.specs.Soundness.{has_id}
use Rattle.history_laws.proofs.Ids.{one_place, same_id_refl, same_id_true}
use Rattle.event_arena.proofs.ListLemmas.{take_all}
use Rattle.edit_laws.specs.Settling.{is_ready}
use Rattle.graph_walk.specs.Flags.{flag_at, is_flagged}
use Rattle.graph_walk.specs.Slots.{IsOpenAt, are_flagged, is_flagged_until, named_by, parent_slot, slots_of}
use Rattle.graph_walk.proofs.PlaceLemmas.{has_id_place}

-- two tests that agree
pub all_same : {X : Type 0} (f g : X → Bool) → ((x : X) → f x ≡ g x) → (xs : List X) → list_all f xs ≡ list_all g xs
all_same f g h [] = refl
all_same f g h (x ∷ xs) = ap (λ b. b && list_all f xs) (h x) ∙ ap (λ b. g x && b) (all_same f g h xs)

-- a test that passes more
pub all_more : {X : Type 0} (f g : X → Bool) → ((x : X) → f x ≡ true → g x ≡ true) → (xs : List X) →
    list_all f xs ≡ true → list_all g xs ≡ true
all_more f g h [] t = refl
all_more f g h (x ∷ xs) t =
    let parts = and_parts (f x) (list_all f xs) t in
    rw (h x parts.0, all_more f g h xs parts.1) refl

-- ---- flags

more_at : (flags : List Bool) (p q : ℕ) → get_or flags q false ≡ true → get_or (set flags p true) q false ≡ true
more_at [] p q h = h
more_at (x ∷ flags) zero zero h = refl
more_at (x ∷ flags) zero (suc q) h = h
more_at (x ∷ flags) (suc p) zero h = h
more_at (x ∷ flags) (suc p) (suc q) h = more_at flags p q h

-- a flag more leaves the others
pub flagged_more : (flags : List Bool) (p : ℕ) (events : List PlainEvent) (id : AnyId) →
    is_flagged flags events id ≡ true → is_flagged (set flags p true) events id ≡ true
flagged_more flags p events id h = more (place_of id events) h
  where
    more : (o : Option ℕ) → flag_at flags o ≡ true → flag_at (set flags p true) o ≡ true
    more None h = h
    more (Some q) h = more_at flags p q h

pub all_flagged_more : (flags : List Bool) (p : ℕ) (events : List PlainEvent) (ids : List AnyId) →
    are_flagged flags events ids ≡ true → are_flagged (set flags p true) events ids ≡ true
all_flagged_more flags p events ids h =
    all_more (is_flagged flags events) (is_flagged (set flags p true) events) (flagged_more flags p events) ids h

-- the flag of the event at a place, and no other
pub flagged_push : (flags : List Bool) (p : ℕ) (events : List PlainEvent) (own id : AnyId) → p < length flags →
    place_of own events ≡ Some p →
    is_flagged (set flags p true) events id ≡ is_flagged flags events id || (same_id id own || false)
flagged_push flags p events own id low there = by (place_of id events) refl
  where
    by : (o : Option ℕ) → place_of id events ≡ o →
        flag_at (set flags p true) o ≡ flag_at flags o || (same_id id own || false)
    by None is = elim (cases_Bool (same_id id own)) [
      | inl it ↦ absurd (none-some p (sym is ∙ ap (λ i. place_of i events) (same_id_true id own it) ∙ there))
      | inr no_it ↦ rw no_it refl
    ]
    by (Some q) is = elim (cases_Bool (same_id id own)) [
      | inl it ↦
          let here : p ≡ q = same_Some p q (sym there ∙ ap (λ i. place_of i events) (sym (same_id_true id own it)) ∙ is) in
          rw it (subst (λ k. get_or (set flags p true) k false ≡ get_or flags k false || true) here (get_or-set_same flags p true false low ∙ sym (or-true (get_or flags p false))))
      | inr no_it ↦
          let other : p ≡ q → ⊥ = λ e. true≢false (sym (ap (λ i. same_id i own) (one_place id own events p (is ∙ ap Some (sym e)) there) ∙ same_id_refl own) ∙ no_it) in
          rw no_it (get_or-set_other flags p q true false (λ e. other (sym e)) ∙ sym (or-false (get_or flags q false)))
    ]

-- ---- slots

parents_named : (parents : List ℕ) → named_by (map parent_slot parents) ≡ map any.Commit parents
parents_named [] = refl
parents_named (p ∷ ps) = ap (λ ids. any.Commit p ∷ ids) (parents_named ps)

ops_named : (ops : List FileOp) → named_by (map op_blobs ops) ≡ flat_map op_blobs ops
ops_named [] = refl
ops_named (op ∷ ops) = ap (λ ids. op_blobs op ++ ids) (ops_named ops)

-- all slots together name what the event refers to
pub slots_named : (e : PlainEvent) → named_by (slots_of e) ≡ referents_of e
slots_named (Commit id mark branch author committer encoding comment parents ops aliases) =
    flat_map-append (λ (slot : List AnyId). slot) (map parent_slot parents) (map op_blobs ops)
    ∙ ap (λ ids. ids ++ named_by (map op_blobs ops)) (parents_named parents)
    ∙ ap (λ ids. map any.Commit parents ++ ids) (ops_named ops)
slots_named (Tag id name target tagger comment mark) = refl
slots_named (Reset id branch (Some target)) = refl
slots_named (Reset id branch None) = refl
slots_named (Blob id mark bytes) = refl
slots_named (Pass id line) = refl

pub until_all : (flags : List Bool) (events : List PlainEvent) (e : PlainEvent) (k : ℕ) → length (slots_of e) ≤ k →
    is_flagged_until flags events e k ≡ true → are_flagged flags events (referents_of e) ≡ true
until_all flags events e k all h =
    ap (are_flagged flags events) (sym (ap named_by (take_all (slots_of e) k all) ∙ slots_named e)) ∙ h

-- a slot that names an event without a flag
pub slot_false : (f : AnyId → Bool) (slots : List (List AnyId)) (k : ℕ) (id : AnyId) → get_or slots k [] ≡ id ∷ [] →
    f id ≡ false → list_all f (named_by slots) ≡ false
slot_false f [] k id h t = absurd cc
slot_false f (s ∷ slots) zero id h t = list_all-append f s (named_by slots) ∙ rw (h, t) refl
slot_false f (s ∷ slots) (suc k) id h t =
    list_all-append f s (named_by slots) ∙ ap (λ b. list_all f s && b) (slot_false f slots k id h t)
    ∙ and-false (list_all f s)

pub open_false : (flags : List Bool) (events : List PlainEvent) (e : PlainEvent) (slot place : ℕ) →
    IsOpenAt flags events e slot place → are_flagged flags events (referents_of e) ≡ false
open_false flags events e slot place o =
    ap (are_flagged flags events) (sym (slots_named e))
    ∙ slot_false (is_flagged flags events) (slots_of e) slot o.id o.named (ap (flag_at flags) o.there ∙ o.bare)

-- a flag at another place leaves it open
pub open_more : (flags : List Bool) (events : List PlainEvent) (e : PlainEvent) (slot place p : ℕ) → (p ≡ place → ⊥) →
    IsOpenAt flags events e slot place → IsOpenAt (set flags p true) events e slot place
open_more flags events e slot place p other o = record {
  before = all_flagged_more flags p events (named_by (take slot (slots_of e))) o.before;
  id = o.id;
  named = o.named;
  there = o.there;
  within = o.within;
  bare = get_or-set_other flags p place true false (λ e. other (sym e)) ∙ o.bare;
}

-- ---- the first that passes a test

pub find_here : {X : Type 0} (test : X → Bool) (xs : List X) (k : ℕ) (x : X) → slice_get xs k ≡ Some x → test x ≡ true →
    ((j : ℕ) (y : X) → j < k → slice_get xs j ≡ Some y → test y ≡ false) → find test xs ≡ Some x
find_here test [] k x h t before = absurd (none-some x h)
find_here test (y ∷ xs) zero x h t before = let is : y ≡ x = same_Some y x h in rw (ap test is ∙ t) (ap Some is)
find_here test (y ∷ xs) (suc k) x h t before =
    rw (before 0 y (omega arith) refl) (find_here test xs k x h t (λ j z low at. before (suc j) z (omega arith) at))

pub find_nowhere : {X : Type 0} (test : X → Bool) (xs : List X) →
    ((j : ℕ) (y : X) → slice_get xs j ≡ Some y → test y ≡ false) → find test xs ≡ None
find_nowhere test [] all = refl
find_nowhere test (y ∷ xs) all = rw (all 0 y refl) (find_nowhere test xs (λ j z at. all (suc j) z at))

-- ---- what a slot names is there

named_there : (events : List PlainEvent) (slots : List (List AnyId)) (k : ℕ) (id : AnyId) →
    list_all (has_id events) (named_by slots) ≡ true → get_or slots k [] ≡ id ∷ [] → has_id events id ≡ true
named_there events [] k id all h = absurd cc
named_there events (s ∷ slots) zero id all h =
    let parts = and_parts (list_all (has_id events) s) (list_all (has_id events) (named_by slots)) (sym (list_all-append (has_id events) s (named_by slots)) ∙ all) in
    (and_parts (has_id events id) true (sym (ap (list_all (has_id events)) h) ∙ parts.0)).0
named_there events (s ∷ slots) (suc k) id all h =
    named_there events slots k id (and_parts (list_all (has_id events) s) (list_all (has_id events) (named_by slots)) (sym (list_all-append (has_id events) s (named_by slots)) ∙ all)).1 h

pub slot_there : (events : List PlainEvent) (e : PlainEvent) (k : ℕ) (id : AnyId) → is_ready events e ≡ true →
    get_or (slots_of e) k [] ≡ id ∷ [] → is_some (place_of id events) ≡ true
slot_there events e k id all h =
    sym (has_id_place events id)
    ∙ named_there events (slots_of e) k id (ap (list_all (has_id events)) (slots_named e) ∙ all) h
