-- The places near a set in order, and what is the same before and after places that aren't near.
use Rattle.std.proofs.Common.{◌≡◌, ◌∙◌, ℕ, zero, suc, ◌+◌, ◌-◌, ◌<◌, ◌≤◌, Bool, true, false, cond, inl, inr, ◌⊎◌, List, [], ◌∷◌, ◌++◌, Option, Some, Result, Ok, Err, refl, sym, ap, subst, length, get_or, take, map, filter, append-nil, arith, true≢false}
use Rattle.std.proofs.lemmas.Bool.{cases_eq, false_from_ne_true}
use Rattle.std.proofs.lemmas.List.{get_or_append_left, get_or_push, length_push}
use Rattle.std.proofs.lemmas.List.Sorted.{searched}
use Rattle.std.proofs.lemmas.Option.{same_Some}
use Rattle.std.specs.List.{list_any}
use Rattle.std.specs.List.Sorted.{IsBinarySearchResult}
use Rattle.std.specs.Ordering.{nat_cmp}
use Rattle.std.specs.Prelude.{is_some, option_and_then, slice_get}
use Rattle.plain_model.specs.declared.id.AnyId.{AnyId}
use Rattle.plain_model.specs.declared.event.PlainEvent.{PlainEvent}
use Rattle.plain_model.specs.Lookups.{id_of, is_listed, place_of}
use Rattle.history_laws.proofs.Lists.{item_at}
use Rattle.edit_laws.specs.Settling.{is_ready}
use Rattle.plan_steps.proofs.Counting.{none_item}
use Rattle.squash_laws.specs.Removed.{Takings}
use Rattle.plan_steps.specs.Flags.{FlagsAll, FlagsNamed}
use Rattle.plan_steps.specs.Leaving.{goes}
use Rattle.plan_steps.specs.Near.{AreNear, ArePlacesNear, ArePlacesOf, AreRising, IsPlaceOf, NoneNear, is_near}
use Rattle.plan_steps.specs.Targets.{AreMoves, lost_target}
use Rattle.plan_steps.specs.Ways.{AreForwardFrom}
use Rattle.plan_steps.proofs.NearLemmas.{apart_stays, is_apart}
use Rattle.plan_steps.proofs.SweepLemmas.{filter_out, filtered_same, passing_item}
use Rattle.plan_steps.proofs.TargetLemmas.{AreMovesTo, moves_same}
use Rattle.plan_steps.proofs.WayLemmas.{led_none}

-- ---- places that aren't near

-- what stays so from each place to the next one is so after all of them
pub passed_over : (P : ℕ → Type 0) (a b : ℕ) → a ≤ b → ((k : ℕ) → a ≤ k → k < b → P k → P (suc k)) → P a → P b
passed_over P a b low step at = go (b - a) a (omega arith) step at
  where
    go : (n a : ℕ) → n + a ≡ b → ((k : ℕ) → a ≤ k → k < b → P k → P (suc k)) → P a → P b
    go zero a is step at = let same : a ≡ b = omega arith in subst P same at
    go (suc n) a is step at = go n (suc a) (omega arith) (λ k low high. step k (omega arith) high) (step a (omega arith) (omega arith) at)

-- so what each event that isn't near leaves as it is stays as it is
pub over_apart : (P : ℕ → Type 0) (set : List AnyId) (events : List PlainEvent) (a b : ℕ) → a ≤ b → b ≤ length events → NoneNear set events a b →
    ((k : ℕ) (e : PlainEvent) → slice_get events k ≡ Some e → is_near set e ≡ false → P k → P (suc k)) → P a → P b
over_apart P set events a b low within none step at =
    passed_over P a b low (λ k from to so.
    let item = item_at events k (omega arith) in
    step k item.0 item.1 (none k item.0 from to item.1) so) at

-- a flag stands at a place within its list
pub flag_within : (flags : List Bool) (k : ℕ) → get_or flags k false ≡ true → k < length flags
flag_within [] k on = absurd (true≢false (sym on))
flag_within (b ∷ flags) zero on = omega arith
flag_within (b ∷ flags) (suc k) on = let rest = flag_within flags k on in omega arith

-- ---- the places of flags, one after another

pub record ArePlacesTo (to : ℕ) (flags : List Bool) (places : List ℕ) : Type 0 where
  pub rising : AreRising places
  pub flagged : (i : ℕ) → i < length places → (get_or places i 0 < to) × (get_or flags (get_or places i 0) false ≡ true)
  pub all : (k : ℕ) → k < to → get_or flags k false ≡ true → IsPlaceOf places k

pub places_none : (flags : List Bool) → ArePlacesTo 0 flags []
places_none flags = record {
  rising = λ i j low high. absurd (omega arith);
  flagged = λ i low. absurd (omega arith);
  all = λ k low on. absurd (omega arith);
}

pub places_same : (to : ℕ) (flags : List Bool) (places : List ℕ) → get_or flags to false ≡ false → ArePlacesTo to flags places →
    ArePlacesTo (suc to) flags places
places_same to flags places off p = record {
  rising = p.rising;
  flagged = λ i low. let here = p.flagged i low in let below = here.0 in (omega arith, here.1);
  all = λ k low on. elim (cases_eq k to) [
    | inl is ↦ absurd (true≢false (sym (subst (λ x. get_or flags x false ≡ true) is on) ∙ off))
    | inr other ↦ p.all k (omega arith) on
  ];
}

pub places_more : (to : ℕ) (flags : List Bool) (places : List ℕ) → get_or flags to false ≡ true → ArePlacesTo to flags places →
    ArePlacesTo (suc to) flags (places ++ to ∷ [])
places_more to flags places on p = record {
  rising = λ i j low high. rising i j low high (cases_eq i (length places)) (cases_eq j (length places));
  flagged = λ i low. flagged i low (cases_eq i (length places));
  all = λ k low is_on. all k low is_on (cases_eq k to);
}
  where
    whole : length (places ++ to ∷ []) ≡ length places + 1
    whole = let long = length_push places to in omega arith

    last : (i : ℕ) → i ≡ length places → get_or (places ++ to ∷ []) i 0 ≡ to
    last i is = get_or_push places to 0 i (sym is)

    front : (i : ℕ) → i < length places → get_or (places ++ to ∷ []) i 0 ≡ get_or places i 0
    front i low = get_or_append_left places (to ∷ []) 0 i low

    rising : (i j : ℕ) → i < j → j < length (places ++ to ∷ []) → (i ≡ length places) ⊎ (i ≡ length places → ⊥) → (j ≡ length places) ⊎ (j ≡ length places → ⊥) →
        get_or (places ++ to ∷ []) i 0 < get_or (places ++ to ∷ []) j 0
    rising i j low high (inl i_last) (inl j_last) = absurd (omega arith)
    rising i j low high (inl i_last) (inr other) = let long = whole in absurd (omega arith)
    rising i j low high (inr i_front) (inl j_last) =
        let long = whole in
        let below : i < length places = omega arith in
        let a = front i below in
        let b = last j j_last in
        let f = (p.flagged i below).0 in
        omega arith
    rising i j low high (inr i_front) (inr j_front) =
        let long = whole in
        let below : j < length places = omega arith in
        let before : i < length places = omega arith in
        let a = front i before in
        let b = front j below in
        let r = p.rising i j low below in
        omega arith

    flagged : (i : ℕ) → i < length (places ++ to ∷ []) → (i ≡ length places) ⊎ (i ≡ length places → ⊥) →
        (get_or (places ++ to ∷ []) i 0 < suc to) × (get_or flags (get_or (places ++ to ∷ []) i 0) false ≡ true)
    flagged i low (inl is) = let a = last i is in (omega arith, subst (λ x. get_or flags x false ≡ true) (sym a) on)
    flagged i low (inr other) =
        let long = whole in
        let below : i < length places = omega arith in
        let a = front i below in
        let f = p.flagged i below in
        let under = f.0 in
        (omega arith, subst (λ x. get_or flags x false ≡ true) (sym a) f.1)

    all : (k : ℕ) → k < suc to → get_or flags k false ≡ true → (k ≡ to) ⊎ (k ≡ to → ⊥) → IsPlaceOf (places ++ to ∷ []) k
    all k low is_on (inl is) = let long = whole in (length places, omega arith, last (length places) refl ∙ sym is)
    all k low is_on (inr other) =
        let f = p.all k (omega arith) is_on in
        let long = whole in
        let below = f.1 in
        (f.0, omega arith, front f.0 f.1 ∙ f.2)

pub places_all : (to : ℕ) (flags : List Bool) (places : List ℕ) → length flags ≤ to → ArePlacesTo to flags places → ArePlacesOf flags places
places_all to flags places whole p = record {
  rising = p.rising;
  flagged = λ i low. (p.flagged i low).1;
  all = λ k on. let within = flag_within flags k on in p.all k (omega arith) on;
}

-- ---- the places of what is near

pub near_places : (set : List AnyId) (events : List PlainEvent) (flags : List Bool) (places : List ℕ) → AreNear set events flags → ArePlacesOf flags places →
    ArePlacesNear set events places
near_places set events flags places n p = record {
  rising = p.rising;
  within = λ i low. let within = flag_within flags (get_or places i 0) (p.flagged i low) in let count = n.count in omega arith;
  apart = λ k e at none. n.apart k e at (false_from_ne_true (get_or flags k false) (λ on. none (p.all k on)));
}

-- where all places before some are earlier ones, and the others are no earlier than the next one, none is between
pub between : (set : List AnyId) (events : List PlainEvent) (places : List ℕ) (i from to : ℕ) → ArePlacesNear set events places →
    ((j : ℕ) → j < i → get_or places j 0 < from) → ((j : ℕ) → i ≤ j → j < length places → to ≤ get_or places j 0) → NoneNear set events from to
between set events places i from to p before after k e low high at =
    p.apart k e at (λ one. elim (cases_order one.0 i) [
      | inl under ↦ let a = before one.0 under in let is = one.2 in absurd (omega arith)
      | inr over ↦ let a = after one.0 over one.1 in let is = one.2 in absurd (omega arith)
    ])
  where
    cases_order : (a b : ℕ) → (a < b) ⊎ (b ≤ a)
    cases_order a b = grind arith

-- ---- halving

-- a later place is no earlier
pub no_earlier : (places : List ℕ) → AreRising places → (i j : ℕ) → i ≤ j → j < length places → get_or places i 0 ≤ get_or places j 0
no_earlier places rising i j low high = elim (cases_eq i j) [
  | inl same ↦ le_same i j same
  | inr other ↦ let up = rising i j (omega arith) high in omega arith
]
  where
    le_same : (i j : ℕ) → i ≡ j → get_or places i 0 ≤ get_or places j 0
    le_same i j same = subst (λ k. get_or places i 0 ≤ get_or places k 0) same (omega arith)

-- where a place isn't found, those before are earlier, and the others later
pub gap : (places : List ℕ) (place : ℕ) (r : Result ℕ ℕ) (i : ℕ) → AreRising places → IsBinarySearchResult (λ y. nat_cmp y place) places r → r ≡ Err i →
    ((j : ℕ) → j < i → get_or places j 0 < place) × ((j : ℕ) → i ≤ j → j < length places → place < get_or places j 0)
gap places place r i rising found is = let s = rw is at (searched places place r found (no_earlier places rising)) in (s.1, s.2)

-- no earlier one is left out, where one is found or not
pub near_index : (places : List ℕ) (place : ℕ) (r : Result ℕ ℕ) (i : ℕ) → AreRising places → IsBinarySearchResult (λ y. nat_cmp y place) places r →
    (r ≡ Ok i) ⊎ (r ≡ Err i) → (i ≤ length places) × ((j : ℕ) → j < i → get_or places j 0 < place) × ((j : ℕ) → i ≤ j → j < length places → place ≤ get_or places j 0)
near_index places place r i rising found (inl is) =
    let s = rw is at (searched places place r found (no_earlier places rising)) in
    let low = s.0 in
    let at = s.1 in
    (omega arith, (λ j under. let up = rising j i under s.0 in omega arith), (λ j from under. let up = no_earlier places rising i j from under in omega arith))
near_index places place r i rising found (inr is) =
    let s = rw is at (searched places place r found (no_earlier places rising)) in
    (s.0, s.1, (λ j from under. let up = s.2 j from under in omega arith))

-- ---- what near events alone change

module _ (set : List AnyId) (events : List PlainEvent) where
  -- the ids of the first events that go
  abbrev pub GoingTo : List (Option ℕ) → List AnyId → ℕ → Type 0
  GoingTo targets ids k =
      (takes : Takings) → AreMoves set takes.target events targets → ids ≡ map id_of (filter (goes set takes) (take k events))

  pub going_over : (targets : List (Option ℕ)) (ids : List AnyId) (a b : ℕ) → a ≤ b → b ≤ length events → NoneNear set events a b →
      GoingTo targets ids a → GoingTo targets ids b
  going_over targets ids a b low within none =
      over_apart (GoingTo targets ids) set events a b low within none (λ k e at far so takes t.
      sym (append-nil ids)
      ∙ passing_item (goes set takes) events k e ids [] at (so takes t)
      (sym (ap (λ x. cond x (id_of e ∷ []) []) (apart_stays set takes t.stays e (is_apart set e far)))))

  -- no tag or reset on a removed commit is among the first events
  abbrev pub NoneLostTo : ℕ → Type 0
  NoneLostTo k = list_any (λ e. is_some (lost_target set e)) (take k events) ≡ false

  pub lost_over : (a b : ℕ) → a ≤ b → b ≤ length events → NoneNear set events a b → NoneLostTo a → NoneLostTo b
  lost_over a b low within none =
      over_apart NoneLostTo set events a b low within none (λ k e at far so.
      none_item (λ x. is_some (lost_target set x)) events k e at so (ap is_some (is_apart set e far).target))

  -- the ways forward of removed commits, from the end
  pub forward_over : (table : List (Option ℕ)) (a b : ℕ) → a ≤ b → b ≤ length events → NoneNear set events a b →
      AreForwardFrom set events b table → AreForwardFrom set events a table
  forward_over table a b low within none =
      over_apart (λ k. AreForwardFrom set events k table → AreForwardFrom set events a table) set events a b low within none (λ k e at far so f.
      so (led_none set events k e table at (is_apart set e far).parents f)) (λ f. f)

  -- where the first tags and resets on removed commits go
  pub moves_over : (goes_to : ℕ → Option ℕ) (table : List (Option ℕ)) (a b : ℕ) → a ≤ b → b ≤ length events → NoneNear set events a b →
      AreMovesTo set goes_to events a table → AreMovesTo set goes_to events b table
  moves_over goes_to table a b low within none =
      over_apart (λ k. AreMovesTo set goes_to events k table) set events a b low within none (λ k e at far so.
      moves_same set goes_to events k e table at (ap (option_and_then goes_to) (is_apart set e far).target) so)

  -- the first near events are after all that they refer to
  abbrev pub AreReadyTo : List PlainEvent → ℕ → Type 0
  AreReadyTo left to =
      (k p : ℕ) (e d : PlainEvent) → k < to → slice_get events k ≡ Some e → is_near set e ≡ true → place_of (id_of e) left ≡ Some p →
      slice_get left p ≡ Some d → is_ready (take p left) d ≡ true

  -- one event more
  pub ready_more : (left : List PlainEvent) (k : ℕ) → AreReadyTo left k →
      ((p : ℕ) (e d : PlainEvent) → slice_get events k ≡ Some e → is_near set e ≡ true → place_of (id_of e) left ≡ Some p → slice_get left p ≡ Some d → is_ready (take p left) d ≡ true) →
      AreReadyTo left (suc k)
  ready_more left k so own j p e d low at near there is = elim (cases_eq j k) [
    | inl same ↦ own p e d (sym (ap (slice_get events) same) ∙ at) near there is
    | inr other ↦ so j p e d (omega arith) at near there is
  ]

  pub ready_over : (left : List PlainEvent) (a b : ℕ) → a ≤ b → b ≤ length events → NoneNear set events a b → AreReadyTo left a → AreReadyTo left b
  ready_over left a b low within none =
      over_apart (AreReadyTo left) set events a b low within none (λ k e at far so.
      ready_more left k so (λ p x d here near there is.
      absurd (true≢false (sym near ∙ ap (is_near set) (same_Some x e (sym here ∙ at)) ∙ far))))

  -- flags of what the first removed commits name
  pub named_over : (after : List PlainEvent) (flags : List Bool) (a b : ℕ) → a ≤ b → b ≤ length events → NoneNear set events a b →
      FlagsNamed after (filter (λ x. is_listed (id_of x) set) (take a events)) flags →
      FlagsNamed after (filter (λ x. is_listed (id_of x) set) (take b events)) flags
  named_over after flags a b low within none =
      over_apart (λ k. FlagsNamed after (filter (λ x. is_listed (id_of x) set) (take k events)) flags) set events a b low within none (λ k e at far so.
      filtered_same (λ x. is_listed (id_of x) set) after events k e flags at (is_apart set e far).own so)

  pub flagged_over : (after : List PlainEvent) (flags : List Bool) (a b : ℕ) → a ≤ b → b ≤ length events → NoneNear set events a b →
      FlagsAll after (filter (λ x. is_listed (id_of x) set) (take a events)) flags →
      FlagsAll after (filter (λ x. is_listed (id_of x) set) (take b events)) flags
  flagged_over after flags a b low within none =
      over_apart (λ k. FlagsAll after (filter (λ x. is_listed (id_of x) set) (take k events)) flags) set events a b low within none (λ k e at far so.
      subst (λ es. FlagsAll after es flags) (sym (filter_out (λ x. is_listed (id_of x) set) events k e at (is_apart set e far).own)) so)
