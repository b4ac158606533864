-- The line of a commit in a list in which no event is twice, one step back.
use Rattle.std.proofs.Common.{◌≡◌, ℕ, suc, ◌<◌, ◌≤◌, true, false, inl, inr, List, [], ◌∷◌, ◌++◌, length, Option, Some, None, refl, sym, ap, subst, ◌∙◌, arith, nat_lt, drop}
use Rattle.std.specs.Prelude.{IsSome, is_some, option_map, slice_get}
use Rattle.std.proofs.lemmas.Bool.{cases_Bool, true≢false}
use Rattle.std.proofs.lemmas.Bool.Decides.{nat_tests}
use Rattle.std.proofs.lemmas.Option.{none-some, same_Some}
use Rattle.plain_model.specs.declared.id.AnyId.{AnyId}
use Rattle.plain_model.specs.declared.id.AnyId.TheVariants as any
use Rattle.plain_model.specs.declared.event.PlainEvent.{PlainEvent}
use Rattle.plain_model.specs.Lookups.{event_ops, event_parents, find_event, id_of, place_of, same_id}
use Rattle.history_laws.specs.Once.{AreDistinct}
use Rattle.event_arena.proofs.OnceLemmas.{distinct_absent}
use Rattle.history_laws.proofs.Ids.{absent_cons, find_id, place_after}
use Rattle.history_laws.proofs.SoundOnce.{has_id_find}
use Rattle.manifest_cache.specs.Following.{is_before, is_earlier}
use Rattle.manifest_cache.specs.Lines.{line, line_before}
use Rattle.manifest_cache.specs.Walks.{first_parent}
use Rattle.manifest_cache.proofs.Lines.{after_found, before_there, found_split, line_front, line_here, not_again, with_commit}

-- the first parent, and a root that has none
pub parent_is : (ps : List ℕ) (p : ℕ) → slice_get ps 0 ≡ Some p → ps ≡ p ∷ drop 1 ps
parent_is [] p h = absurd (none-some p h)
parent_is (q ∷ ps) p h = ap (λ r. r ∷ ps) (same_Some q p h)

pub no_parents : (ps : List ℕ) → slice_get ps 0 ≡ None → ps ≡ []
no_parents [] h = refl
no_parents (q ∷ ps) h = absurd (none-some q (sym h))

-- what isn't there has no line
pub absent : (events : List PlainEvent) (p : ℕ) → find_event (any.Commit p) events ≡ None → line events p ≡ None
absent events p h = line_front [] events p h

-- what has a line is there
pub event_of : (events : List PlainEvent) (p : ℕ) → IsSome (line events p) → (e : PlainEvent) × (find_event (any.Commit p) events ≡ Some e)
event_of events p there = go (find_event (any.Commit p) events) refl
  where
    go : (o : Option PlainEvent) → find_event (any.Commit p) events ≡ o → (e : PlainEvent) × (find_event (any.Commit p) events ≡ Some e)
    go None none = absurd (true≢false (sym there ∙ ap is_some (absent events p none)))
    go (Some e) some = (e, some)

-- ---- places

place_front : (xs zs : List PlainEvent) (id : AnyId) → IsSome (find_event id xs) → (j : ℕ) × (place_of id (xs ++ zs) ≡ Some j) × (j < length xs)
place_front [] zs id h = absurd (true≢false (sym h))
place_front (x ∷ xs) zs id h = elim (cases_Bool (same_id id (id_of x))) [
  | inl it ↦ (0, rw it refl, omega arith)
  | inr no_it ↦
      let r = place_front xs zs id (rw no_it at h) in
      let less = r.2 in
      (suc r.0, rw (no_it, r.1) refl, omega (arith, less))
]

pub place_back : (xs zs : List PlainEvent) (id : AnyId) (j : ℕ) → find_event id xs ≡ None → place_of id (xs ++ zs) ≡ Some j → length xs ≤ j
place_back [] zs id j h at = omega arith
place_back (x ∷ xs) zs id j h at =
    let rest = absent_cons id x xs h in
    go (place_of id (xs ++ zs)) (λ k is. place_back xs zs id k rest.1 is) (rw rest.0 at at)
  where
    go : (o : Option ℕ) → ((k : ℕ) → o ≡ Some k → length xs ≤ k) → option_map suc o ≡ Some j → suc (length xs) ≤ j
    go None later e = absurd (none-some j e)
    go (Some k) later e =
        let more = later k refl in
        let same = same_Some (suc k) j e in
        omega (arith, more, same)

-- ---- a commit in a list in which no event is twice

module _ (events : List PlainEvent) (once : AreDistinct events) (c : ℕ) (e : PlainEvent) (found : find_event (any.Commit c) events ≡ Some e) where
  abbrev pub front : List PlainEvent
  front = (found_split (any.Commit c) events e found).0

  abbrev rest : List PlainEvent
  rest = (found_split (any.Commit c) events e found).1

  is : events ≡ front ++ e ∷ rest
  is = (found_split (any.Commit c) events e found).2

  distinct : AreDistinct (front ++ e ∷ rest)
  distinct = subst AreDistinct is once

  own : any.Commit c ≡ id_of e
  own = find_id (any.Commit c) events e found

  step : line events c ≡ with_commit c (event_ops e) (line_before (line front) (event_parents e))
  step = ap (λ (es : List PlainEvent). line es c) is ∙ line_here front rest e c own (ap (λ i. find_event i rest) own ∙ not_again front rest e distinct)

  -- what is found in front has its line there
  pub front_found : (p : ℕ) → IsSome (find_event (any.Commit p) front) → line front p ≡ line events p
  front_found p there =
      sym (ap (λ (es : List PlainEvent). line es p) is ∙ line_front front (e ∷ rest) p (after_found front (e ∷ rest) (any.Commit p) distinct there))

  -- and so has what has a line there
  pub front_line : (p : ℕ) → IsSome (line front p) → line front p ≡ line events p
  front_line p there = front_found p (ap is_some (event_of front p there).1)

  -- where the commit has a line, it is that of its first parent, with the commit after it
  pub line_step : IsSome (line events c) → line events c ≡ with_commit c (event_ops e) (line_before (line events) (event_parents e))
  line_step there =
      step ∙ ap (with_commit c (event_ops e)) (go (event_parents e) (before_there (line_before (line front) (event_parents e)) c (event_ops e) (ap is_some (sym step) ∙ there)))
    where
      go : (ps : List ℕ) → IsSome (line_before (line front) ps) → line_before (line front) ps ≡ line_before (line events) ps
      go [] h = refl
      go (p ∷ ps) h = front_line p h

  pub step_root : None ≡ first_parent e → line events c ≡ with_commit c (event_ops e) (Some [])
  step_root none = step ∙ ap (λ (ps : List ℕ). with_commit c (event_ops e) (line_before (line front) ps)) (no_parents (event_parents e) (sym none))

  module _ (p : ℕ) (parent : Some p ≡ first_parent e) where
    pub step_parent : line events c ≡ with_commit c (event_ops e) (line front p)
    step_parent = step ∙ ap (λ (ps : List ℕ). with_commit c (event_ops e) (line_before (line front) ps)) (parent_is (event_parents e) p (sym parent))

    -- whether it is earlier tells whether it is found in front
    earlier_is : (o : Option PlainEvent) → find_event (any.Commit p) front ≡ o → is_earlier events p c ≡ is_some o
    earlier_is o at =
        ap (λ (es : List PlainEvent). is_earlier es p c) is
        ∙ ap (is_before (place_of (any.Commit p) (front ++ e ∷ rest))) (ap (λ i. place_of i (front ++ e ∷ rest)) own ∙ place_after front rest e (has_id_find front (id_of e) ∙ ap is_some (distinct_absent front rest e distinct)))
        ∙ go o at
      where
        later : (k : Option ℕ) → ((j : ℕ) → k ≡ Some j → length front ≤ j) → is_before k (Some (length front)) ≡ false
        later None h = refl
        later (Some j) h = let more = h j refl in grind (arith, nat_tests)

        below : (j k : ℕ) → j < k → nat_lt j k ≡ true
        below j k less = grind (arith, nat_tests)

        go : (o : Option PlainEvent) → find_event (any.Commit p) front ≡ o
            → is_before (place_of (any.Commit p) (front ++ e ∷ rest)) (Some (length front)) ≡ is_some o
        go None none = later (place_of (any.Commit p) (front ++ e ∷ rest)) (λ j at. place_back front (e ∷ rest) (any.Commit p) j none at)
        go (Some x) some =
            let place = place_front front (e ∷ rest) (any.Commit p) (ap is_some some) in
            let less : place.0 < length front = place.2 in
            ap (λ k. is_before k (Some (length front))) place.1 ∙ below place.0 (length front) less

    pub front_earlier : is_earlier events p c ≡ true → line front p ≡ line events p
    front_earlier h = go (find_event (any.Commit p) front) refl
      where
        go : (o : Option PlainEvent) → find_event (any.Commit p) front ≡ o → line front p ≡ line events p
        go None none = absurd (true≢false (sym h ∙ earlier_is None none))
        go (Some x) some = front_found p (ap is_some some)

    pub front_later : is_earlier events p c ≡ false → line front p ≡ None
    front_later h = go (find_event (any.Commit p) front) refl
      where
        go : (o : Option PlainEvent) → find_event (any.Commit p) front ≡ o → line front p ≡ None
        go None none = absent front p none
        go (Some x) some = absurd (true≢false (sym (earlier_is (Some x) some) ∙ h))
