-- How a list goes on being settled.
use Rattle.std.proofs.Common.{◌≡◌, ◌∙◌, ℕ, ◌+◌, ◌<◌, ◌≤◌, ◌⊎◌, Bool, true, false, not, ◌&&◌, ◌||◌, inl, inr, List, [], ◌∷◌, ◌++◌, Some, None, refl, sym, ap, subst, length, get_or, eqb, eq-eqb, arith}
use Rattle.std.proofs.Math.Bool.{or-true}
use Rattle.std.proofs.lemmas.Bool.{cases_Bool, cases_eq, eqb-true, true≢false, or_cases}
use Rattle.std.proofs.lemmas.Option.{same_Some}
use Rattle.std.proofs.Math.ListN.{set}
use Rattle.std.specs.Prelude.{find, slice_get}
use Rattle.plain_model.specs.declared.id.AnyId.{AnyId}
use Rattle.plain_model.specs.declared.event.PlainEvent.{PlainEvent}
use Rattle.plain_model.specs.Lookups.{id_of, is_listed, referents_of, same_id}
use Rattle.history_laws.specs.Once.{AreDistinct}
use Rattle.graph_walk.specs.Flags.{flag_at, is_flagged}
use Rattle.graph_walk.specs.Slots.{IsOpenAt, are_flagged}
use Rattle.graph_walk.specs.Taking.{are_taken, can_be_taken}
use Rattle.graph_walk.specs.UnderWay.{AreInStep, HasBegun, IsFree, IsHeld, IsKept}
use Rattle.graph_walk.specs.Waiters.{IsIn, TakesLeast, is_among}
use Rattle.graph_walk.specs.declared.waiting.Waiter.{Waiter}
use Rattle.std.proofs.lemmas.List.Folds.{list_any-append}
use Rattle.std.proofs.lemmas.List.{length-set, get_or-set_same, get_or-set_other}
use Rattle.graph_walk.proofs.SlotLemmas.{all_flagged_more, all_same, find_here, find_nowhere, flagged_push, open_false, open_more}
use Rattle.std.proofs.lemmas.Option.{slice_get_within}
use Rattle.graph_walk.proofs.PlaceLemmas.{place_found}

-- ---- waiters in lists

in_push : (w x : Waiter) (xs : List Waiter) → IsIn w xs → IsIn w (xs ++ x ∷ [])
in_push w x [] h = absurd h
in_push w x (y ∷ xs) (inl is) = inl is
in_push w x (y ∷ xs) (inr h) = inr (in_push w x xs h)

in_last : (w : Waiter) (xs : List Waiter) → IsIn w (xs ++ w ∷ [])
in_last w [] = inl refl
in_last w (y ∷ xs) = inr (in_last w xs)

in_pushed : (w x : Waiter) (xs : List Waiter) → IsIn w (xs ++ x ∷ []) → IsIn w xs ⊎ (w ≡ x)
in_pushed w x [] (inl is) = inr is
in_pushed w x [] (inr h) = absurd h
in_pushed w x (y ∷ xs) (inl is) = inl (inl is)
in_pushed w x (y ∷ xs) (inr h) = elim (in_pushed w x xs h) [ inl there ↦ inl (inr there) | inr is ↦ inr is ]

-- a row that gets one more, seen from any place
row_more : (rows : List (List Waiter)) (place at : ℕ) (w x : Waiter) → place < length rows →
    IsIn w (get_or rows at []) → IsIn w (get_or (set rows place (get_or rows place [] ++ x ∷ [])) at [])
row_more rows place at w x low h = elim (cases_eq place at) [
  | inl is ↦ subst (λ k. IsIn w (get_or (set rows place (get_or rows place [] ++ x ∷ [])) k [])) is
      (rw (get_or-set_same rows place (get_or rows place [] ++ x ∷ []) [] low) (in_push w x (get_or rows place []) (subst (λ k. IsIn w (get_or rows k [])) (sym is) h)))
  | inr other ↦ rw (get_or-set_other rows place at (get_or rows place [] ++ x ∷ []) [] (λ e. other (sym e))) h
]

row_last : (rows : List (List Waiter)) (place : ℕ) (x : Waiter) → place < length rows →
    IsIn x (get_or (set rows place (get_or rows place [] ++ x ∷ [])) place [])
row_last rows place x low =
    rw (get_or-set_same rows place (get_or rows place [] ++ x ∷ []) [] low) (in_last x (get_or rows place []))

row_pushed : (rows : List (List Waiter)) (place at : ℕ) (w x : Waiter) → place < length rows →
    IsIn w (get_or (set rows place (get_or rows place [] ++ x ∷ [])) at []) →
    IsIn w (get_or rows at []) ⊎ ((w ≡ x) × (place ≡ at))
row_pushed rows place at w x low h = elim (cases_eq place at) [
  | inl is ↦
      let here : IsIn w (get_or rows place [] ++ x ∷ []) =
      rw (get_or-set_same rows place (get_or rows place [] ++ x ∷ []) [] low) at (subst (λ k. IsIn w (get_or (set rows place (get_or rows place [] ++ x ∷ [])) k [])) (sym is) h) in
      elim (in_pushed w x (get_or rows place []) here) [
        | inl there ↦ inl (subst (λ k. IsIn w (get_or rows k [])) is there)
        | inr last ↦ inr (last, is)
      ]
  | inr other ↦ inl (rw (get_or-set_other rows place at (get_or rows place [] ++ x ∷ []) [] (λ e. other (sym e))) at h)
]

-- a row that is emptied
row_emptied : (rows : List (List Waiter)) (place at : ℕ) (w : Waiter) → place < length rows →
    IsIn w (get_or (set rows place []) at []) → IsIn w (get_or rows at []) × (place ≡ at → ⊥)
row_emptied rows place at w low h = elim (cases_eq place at) [
  | inl is ↦ absurd (rw (get_or-set_same rows place [] [] low) at (subst (λ k. IsIn w (get_or (set rows place []) k [])) (sym is) h))
  | inr other ↦ (rw (get_or-set_other rows place at [] [] (λ e. other (sym e))) at h, other)
]

-- ---- one of the rest is put where it belongs

module _ (events : List PlainEvent) where
  -- it waits
  pub put_held : (w new : Waiter) (rest : List Waiter) (order : List AnyId) (flags : List Bool) (ready : List ℕ) (waiting : List (List Waiter)) (next place : ℕ) (e : PlainEvent) →
      AreInStep events (w ∷ rest) order flags ready waiting next → slice_get events w.place ≡ Some e →
      IsOpenAt flags events e new.slot place → new.place ≡ w.place →
      AreInStep events rest order flags ready (set waiting place (get_or waiting place [] ++ new ∷ [])) next
  put_held w new rest order flags ready waiting next place e s here bare same = record {
    flag_count = s.flag_count;
    row_count = length-set waiting place (get_or waiting place [] ++ new ∷ []) ∙ s.row_count;
    within = s.within;
    taken = s.taken;
    later = s.later;
    free = s.free;
    held = held;
    begun = λ v h. s.begun v (inr h);
    kept = kept;
  }
    where
      low : place < length waiting
      low = let a = s.row_count in let b = bare.within in omega arith

      held : (at : ℕ) (v : Waiter) → IsIn v (get_or (set waiting place (get_or waiting place [] ++ new ∷ [])) at []) →
          IsHeld flags events next v at
      held at v h = elim (row_pushed waiting place at v new low h) [
        | inl old ↦ s.held at v old
        | inr both ↦
            let is : v ≡ new = both.0 in
            let at_is : place ≡ at = both.1 in
            let low' : w.place < next = (s.begun w (inl refl)).0 in
            let place_is : v.place ≡ w.place = ap (λ (x : Waiter). x.place) is ∙ same in (
              subst (λ n. n < next) (sym place_is) low',
              λ d got.
                  let is_e : e ≡ d = same_Some e d (sym here ∙ ap (slice_get events) (sym place_is) ∙ got) in
                  subst (λ k. IsOpenAt flags events d v.slot k) at_is
                  (subst (λ x. IsOpenAt flags events x v.slot place) is_e (subst (λ (x : Waiter). IsOpenAt flags events e x.slot place) (sym is) bare)),
            )
      ]

      kept : (k : ℕ) → k < next → get_or flags k false ≡ false →
          IsKept ready (set waiting place (get_or waiting place [] ++ new ∷ [])) rest k
      kept k h un = elim (s.kept k h un) [
        | inl there ↦ inl there
        | inr (inl waits) ↦ inr (inl (waits.0, waits.1, row_more waiting place waits.0 waits.1 new low waits.2, waits.3))
        | inr (inr left) ↦ from left.0 left.1 left.2
      ]
        where
          from : (v : Waiter) → IsIn v (w ∷ rest) → v.place ≡ k →
              IsKept ready (set waiting place (get_or waiting place [] ++ new ∷ [])) rest k
          from v (inl is) at =
              inr (inl (place, new, row_last waiting place new low, same ∙ ap (λ (x : Waiter). x.place) (sym is) ∙ at))
          from v (inr h) at = inr (inr (v, h, at))

  -- it is ready
  pub put_free : (w : Waiter) (rest : List Waiter) (order : List AnyId) (flags : List Bool) (ready new : List ℕ) (waiting : List (List Waiter)) (next : ℕ) (e : PlainEvent) →
      AreInStep events (w ∷ rest) order flags ready waiting next → slice_get events w.place ≡ Some e →
      are_flagged flags events (referents_of e) ≡ true →
      ((k : ℕ) → is_among k new ≡ eqb k w.place || is_among k ready) → AreInStep events rest order flags new waiting next
  put_free w rest order flags ready new waiting next e s here all grows = record {
    flag_count = s.flag_count;
    row_count = s.row_count;
    within = s.within;
    taken = s.taken;
    later = s.later;
    free = free;
    held = s.held;
    begun = λ v h. s.begun v (inr h);
    kept = kept;
  }
    where
      free : (k : ℕ) → is_among k new ≡ true → IsFree flags events next k
      free k h = elim (or_cases (eqb k w.place) (is_among k ready) (sym (grows k) ∙ h)) [
        | inl it ↦
            let is : k ≡ w.place = eqb-true k w.place it in (
              subst (λ n. n < next) (sym is) (s.begun w (inl refl)).0,
              λ d got. subst (λ x. are_flagged flags events (referents_of x) ≡ true) (same_Some e d (sym here ∙ ap (slice_get events) (sym is) ∙ got)) all,
            )
        | inr old ↦ s.free k old
      ]

      kept : (k : ℕ) → k < next → get_or flags k false ≡ false → IsKept new waiting rest k
      kept k h un = elim (s.kept k h un) [
        | inl there ↦ inl (grows k ∙ rw there (or-true (eqb k w.place)))
        | inr (inl waits) ↦ inr (inl waits)
        | inr (inr left) ↦ from left.0 left.1 left.2
      ]
        where
          from : (v : Waiter) → IsIn v (w ∷ rest) → v.place ≡ k → IsKept new waiting rest k
          from v (inl is) at =
              let k_is : k ≡ w.place = sym at ∙ ap (λ (x : Waiter). x.place) is in
              inl (grows k ∙ rw (ap (eqb k) (sym k_is) ∙ eq-eqb k k refl) refl)
          from v (inr h) at = inr (inr (v, h, at))

  -- ---- the one at hand is taken, and those that waited for it are woken
  pub mark_taken : (w : Waiter) (order : List AnyId) (flags : List Bool) (ready : List ℕ) (waiting : List (List Waiter)) (next : ℕ) (e : PlainEvent) →
      AreInStep events (w ∷ []) order flags ready waiting next → slice_get events w.place ≡ Some e →
      AreDistinct events →
      AreInStep events (get_or waiting w.place []) (order ++ id_of e ∷ []) (set flags w.place true) ready (set waiting w.place []) next
  mark_taken w order flags ready waiting next e s here once = record {
    flag_count = length-set flags w.place true ∙ s.flag_count;
    row_count = length-set waiting w.place [] ∙ s.row_count;
    within = s.within;
    taken = λ id. list_any-append (same_id id) order (id_of e ∷ []) ∙ ap (λ b. b || (same_id id (id_of e) || false)) (s.taken id)
        ∙ sym (flagged_push flags w.place events (id_of e) id low (place_found events w.place e here once).0);
    later = λ k h. get_or-set_other flags w.place k true false (λ is. apart (sym is) h) ∙ s.later k h;
    free = λ k h. let f = s.free k h in (f.0, λ d got. all_flagged_more flags w.place events (referents_of d) (f.1 d got));
    held = held;
    begun = λ v h. let b = s.held w.place v h in (b.0, λ d got. all_flagged_more flags w.place events _ (b.1 d got).before);
    kept = kept;
  }
    where
      below : w.place < next
      below = (s.begun w (inl refl)).0

      low : w.place < length flags
      low = let a = s.flag_count in let b = slice_get_within events w.place e here in omega arith

      low_row : w.place < length waiting
      low_row = let a = s.row_count in let b = slice_get_within events w.place e here in omega arith

      apart : {k : ℕ} → w.place ≡ k → next ≤ k → ⊥
      apart is h = let b = below in omega arith

      held : (at : ℕ) (v : Waiter) → IsIn v (get_or (set waiting w.place []) at []) →
          IsHeld (set flags w.place true) events next v at
      held at v h =
          let old = row_emptied waiting w.place at v low_row h in
          let was = s.held at v old.0 in
          (was.0, λ d got. open_more flags events d v.slot at w.place old.1 (was.1 d got))

      kept : (k : ℕ) → k < next → get_or (set flags w.place true) k false ≡ false →
          IsKept ready (set waiting w.place []) (get_or waiting w.place []) k
      kept k h un = elim (cases_eq w.place k) [
        | inl is ↦ absurd (true≢false (sym (get_or-set_same flags w.place true false low) ∙ ap (λ j. get_or (set flags w.place true) j false) is ∙ un))
        | inr other ↦ elim (s.kept k h (sym (get_or-set_other flags w.place k true false (λ e. other (sym e))) ∙ un)) [
          | inl there ↦ inl there
          | inr (inl waits) ↦ waiting' waits.0 waits.1 waits.2 waits.3
          | inr (inr left) ↦ from left.0 left.1 left.2 other
        ]
      ]
        where
          waiting' : (at : ℕ) (v : Waiter) → IsIn v (get_or waiting at []) → v.place ≡ k →
              IsKept ready (set waiting w.place []) (get_or waiting w.place []) k
          waiting' at v there is = elim (cases_eq w.place at) [
            | inl here ↦ inr (inr (v, subst (λ j. IsIn v (get_or waiting j [])) (sym here) there, is))
            | inr other ↦ inr (inl (at, v, rw (get_or-set_other waiting w.place at [] [] (λ e. other (sym e))) there, is))
          ]

          from : (v : Waiter) → IsIn v (w ∷ []) → v.place ≡ k → (w.place ≡ k → ⊥) →
              IsKept ready (set waiting w.place []) (get_or waiting w.place []) k
          from v (inl is) at other = absurd (other (ap (λ (x : Waiter). x.place) (sym is) ∙ at))
          from v (inr h) at other = absurd h

  -- ---- the next one comes to hand

  -- the earliest of those that are ready
  pub popped : (place : ℕ) (order : List AnyId) (flags : List Bool) (ready new : List ℕ) (waiting : List (List Waiter)) (next : ℕ) →
      AreInStep events [] order flags ready waiting next → TakesLeast place ready new → AreInStep events (record { place = place; slot = 0 } ∷ []) order flags new waiting next
  popped place order flags ready new waiting next s takes = record {
    flag_count = s.flag_count;
    row_count = s.row_count;
    within = s.within;
    taken = s.taken;
    later = s.later;
    free = λ k h. s.free k (takes.others k ∙ rw h (or-true (eqb k place)));
    held = s.held;
    begun = begun;
    kept = kept;
  }
    where
      begun : (v : Waiter) → IsIn v (record { place = place; slot = 0 } ∷ []) → HasBegun flags events next v
      begun v (inl is) = subst (HasBegun flags events next) (sym is) ((s.free place takes.was).0, λ d got. refl)
      begun v (inr h) = absurd h

      kept : (k : ℕ) → k < next → get_or flags k false ≡ false →
          IsKept new waiting (record { place = place; slot = 0 } ∷ []) k
      kept k h un = elim (s.kept k h un) [
        | inl there ↦ elim (or_cases (eqb k place) (is_among k new) (sym (takes.others k) ∙ there)) [
          | inl it ↦ inr (inr (record { place = place; slot = 0 }, inl refl, sym (eqb-true k place it)))
          | inr still ↦ inl still
        ]
        | inr (inl waits) ↦ inr (inl waits)
        | inr (inr left) ↦ absurd left.1
      ]

  -- one place more is looked at
  pub looked : (order : List AnyId) (flags : List Bool) (ready : List ℕ) (waiting : List (List Waiter)) (next : ℕ) →
      AreInStep events [] order flags ready waiting next → next < length events → AreInStep events (record { place = next; slot = 0 } ∷ []) order flags ready waiting (next + 1)
  looked order flags ready waiting next s low = record {
    flag_count = s.flag_count;
    row_count = s.row_count;
    within = omega arith;
    taken = s.taken;
    later = λ k h. s.later k (omega arith);
    free = λ k h. let f = s.free k h in let b = f.0 in (omega arith, f.1);
    held = λ at v h. let f = s.held at v h in let b = f.0 in (omega arith, f.1);
    begun = begun;
    kept = kept;
  }
    where
      begun : (v : Waiter) → IsIn v (record { place = next; slot = 0 } ∷ []) → HasBegun flags events (next + 1) v
      begun v (inl is) = subst (HasBegun flags events (next + 1)) (sym is) (omega arith, λ d got. refl)
      begun v (inr h) = absurd h

      kept : (k : ℕ) → k < next + 1 → get_or flags k false ≡ false →
          IsKept ready waiting (record { place = next; slot = 0 } ∷ []) k
      kept k h un = elim (cases_eq next k) [
        | inl is ↦ inr (inr (record { place = next; slot = 0 }, inl refl, is))
        | inr other ↦ elim (s.kept k (below other) un) [
          | inl there ↦ inl there
          | inr (inl waits) ↦ inr (inl waits)
          | inr (inr left) ↦ absurd left.1
        ]
      ]
        where
          below : (next ≡ k → ⊥) → k < next
          below other = omega arith

  -- ---- which one is taken next

  taken_all : (order : List AnyId) (flags : List Bool) →
      ((id : AnyId) → is_listed id order ≡ is_flagged flags events id) → (ids : List AnyId) →
      are_taken order ids ≡ are_flagged flags events ids
  taken_all order flags same ids = all_same (λ id. is_listed id order) (is_flagged flags events) same ids

  -- an event that is taken can't be taken, nor can one that waits
  not_next : (order : List AnyId) (flags : List Bool) (ready : List ℕ) (waiting : List (List Waiter)) (rest : List Waiter) (next k : ℕ) (e : PlainEvent) →
      AreInStep events rest order flags ready waiting next → AreDistinct events → slice_get events k ≡ Some e →
      k < next → (is_among k ready ≡ true → ⊥) → ((w : Waiter) → IsIn w rest → w.place ≡ k → ⊥) →
      can_be_taken order e ≡ false
  not_next order flags ready waiting rest next k e s once here low unready apart = elim (cases_Bool (get_or flags k false)) [
    | inl it ↦
        let own : is_listed (id_of e) order ≡ true = s.taken (id_of e) ∙ ap (flag_at flags) (place_found events k e here once).0 ∙ it in
        rw own refl
    | inr no_it ↦ elim (s.kept k low no_it) [
      | inl there ↦ absurd (unready there)
      | inr (inl waits) ↦
          let held = s.held waits.0 waits.1 waits.2 in
          let bare = held.1 e (ap (slice_get events) waits.3 ∙ here) in
          rw (taken_all order flags s.taken (referents_of e), open_false flags events e waits.1.slot waits.0 bare) (and-false (not (is_listed (id_of e) order)))
      | inr (inr left) ↦ absurd (apart left.0 left.1 left.2)
    ]
  ]
    where
      and-false : (b : Bool) → b && false ≡ false
      and-false true = refl
      and-false false = refl

  is_next_one : (order : List AnyId) (flags : List Bool) (k : ℕ) (e : PlainEvent) →
      ((id : AnyId) → is_listed id order ≡ is_flagged flags events id) → AreDistinct events →
      slice_get events k ≡ Some e → get_or flags k false ≡ false →
      are_flagged flags events (referents_of e) ≡ true → can_be_taken order e ≡ true
  is_next_one order flags k e same once here un all =
      let own : is_listed (id_of e) order ≡ false = same (id_of e) ∙ ap (flag_at flags) (place_found events k e here once).0 ∙ un in
      rw (own, taken_all order flags same (referents_of e), all) refl

  -- the one at hand is the first that can be taken, where none before it is ready
  pub next_found : (order : List AnyId) (flags : List Bool) (ready : List ℕ) (waiting : List (List Waiter)) (w : Waiter) (next : ℕ) (e : PlainEvent) →
      AreInStep events (w ∷ []) order flags ready waiting next → AreDistinct events →
      slice_get events w.place ≡ Some e → get_or flags w.place false ≡ false →
      are_flagged flags events (referents_of e) ≡ true →
      ((k : ℕ) → is_among k ready ≡ true → w.place < k) → find (can_be_taken order) events ≡ Some e
  next_found order flags ready waiting w next e s once here un all above =
      find_here (can_be_taken order) events w.place e here (is_next_one order flags w.place e s.taken once here un all)
      (λ j d low at. not_next order flags ready waiting (w ∷ []) next j d s once at (let b = (s.begun w (inl refl)).0 in omega arith) (λ h. let a = above j h in absurd (omega arith)) (only j low))
    where
      only : (j : ℕ) → j < w.place → (v : Waiter) → IsIn v (w ∷ []) → v.place ≡ j → ⊥
      only j low v (inl is) at = let same : v.place ≡ w.place = ap (λ (x : Waiter). x.place) is in omega arith
      only j low v (inr h) at = h

  -- none is, where none is ready and all places were looked at
  pub none_next : (order : List AnyId) (flags : List Bool) (waiting : List (List Waiter)) (next : ℕ) →
      AreInStep events [] order flags [] waiting next → AreDistinct events → length events ≤ next →
      find (can_be_taken order) events ≡ None
  none_next order flags waiting next s once all =
      find_nowhere (can_be_taken order) events (λ j d at. not_next order flags [] waiting [] next j d s once at (let b = slice_get_within events j d at in omega arith) (λ h. absurd cc) (λ v h is. h))
