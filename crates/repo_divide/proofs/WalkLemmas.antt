-- How links are followed from one commit to the next.
use Rattle.history_laws.proofs.Ids.{one_place}
use Rattle.history_laws.specs.Once.{AreDistinct}
use Rattle.std.proofs.Common.{◌≡◌, ◌∙◌, ℕ, zero, suc, ◌+◌, ◌<◌, ◌⊎◌, Bool, true, false, not, ◌||◌, inl, inr, List, [], ◌∷◌, ◌++◌, Option, Some, None, refl, sym, ap, subst, length, get_or, map, replicate, eq-eqb, arith, append_assoc, drop, take, IsTrue}
use Rattle.std.specs.Prelude.{◌==◌, is_some, slice_get}
use Rattle.std.specs.List.{AllByRecursion}
use Rattle.std.proofs.Math.Bool.{or-false}
use Rattle.std.proofs.Math.ListN.{set}
use Rattle.std.proofs.lemmas.Bool.{and_from, and_parts, cases_Bool, cases_eq, eqb-true, false_from_ne_true, or_cases, or_from, or_left, or_parts, or_right, true≢false}
use Rattle.std.proofs.lemmas.List.{get_or-set_other, get_or-set_same, length-append, length-replicate, length-set, take-append-drop}
use Rattle.std.proofs.lemmas.List.Folds.{list_any-append}
use Rattle.plain_model.specs.declared.id.AnyId.TheVariants as any
use Rattle.plain_model.specs.declared.event.PlainEvent.{PlainEvent}
use Rattle.plain_model.specs.declared.event.PlainEvent.TheVariants.{Blob, Commit, Tag, Reset, Pass}
use Rattle.plain_model.specs.Histories.{past}
use Rattle.plain_model.specs.Lookups.{children_of, id_of, place_of}
use Rattle.plain_model.specs.Soundness.{IsCommitOf, IsSound, has_id}
use Rattle.history_laws.proofs.Lists.{all_imply, all_join}
use Rattle.ancestry_laws.specs.Ancestry.{is_one_of, is_parent_in}
use Rattle.edit_laws.proofs.Lists.{all_front, all_rear}
use Rattle.divide_laws.specs.declared.link.Link.{Link}
use Rattle.commit_laws.specs.Selected.{node_of}
use Rattle.divide_laws.specs.Links.{IsChain, is_late, is_link, is_still_parent, link, other_links}
use Rattle.divide_laws.specs.Links.IsChain.{itself, to_child, to_parent}
use Rattle.divide_laws.specs.Sides.{is_commit_among}
use Rattle.divide_laws.proofs.Joined.{late_chain, late_child, same_side, still_link}
use Rattle.divide_laws.proofs.Said.{child_there, children_link, link_children, link_node, node_link, parent_there}
use Rattle.graph_walk.specs.Flags.{flag_at, is_flagged_commit}
use Rattle.graph_walk.proofs.FlagLemmas.{flag_of, no_flag}
use Rattle.graph_walk.proofs.PlaceLemmas.{event_placed, has_id_place, place_found, place_within}
use Rattle.repo_divide.specs.Walks.{AreReached, Grows, IsNew, IsStep, are_linked, unset}

-- ---- one flag more

flag_stays : (flags : List Bool) (k : ℕ) → k < length flags → (o : Option ℕ) → flag_at flags o ≡ true → flag_at (set flags k true) o ≡ true
flag_stays flags k low None h = h
flag_stays flags k low (Some j) h = elim (cases_eq k j) [
  | inl is ↦ ap (λ i. get_or (set flags k true) i false) (sym is) ∙ get_or-set_same flags k true false low
  | inr other ↦ get_or-set_other flags k j true false (λ e. other (sym e)) ∙ h
]

flag_was : (flags : List Bool) (k : ℕ) (o : Option ℕ) → flag_at (set flags k true) o ≡ true → (flag_at flags o ≡ true) ⊎ (o ≡ Some k)
flag_was flags k None h = inl h
flag_was flags k (Some j) h = elim (cases_eq k j) [
  | inl is ↦ inr (ap Some (sym is))
  | inr other ↦ inl (sym (get_or-set_other flags k j true false (λ e. other (sym e))) ∙ h)
]

one_fewer : (flags : List Bool) (k : ℕ) → k < length flags → get_or flags k false ≡ false → unset (set flags k true) + 1 ≡ unset flags
one_fewer [] k low bare = absurd (omega arith)
one_fewer (true ∷ flags) zero low bare = absurd (true≢false bare)
one_fewer (false ∷ flags) zero low bare = omega arith
one_fewer (true ∷ flags) (suc k) low bare = one_fewer flags k (omega arith) bare
one_fewer (false ∷ flags) (suc k) low bare = let rest = one_fewer flags k (omega arith) bare in omega arith

-- ---- commits and their events

-- an event with a commit's id is that commit
pub among_id : (f : ℕ → Bool) (e : PlainEvent) (c : ℕ) → any.Commit c ≡ id_of e → is_commit_among f e ≡ f c
among_id f (Commit id mark branch author committer encoding comment parents ops aliases) c h = let is : c ≡ id = cc in ap f (sym is)
among_id f (Blob id mark bytes) c h = absurd cc
among_id f (Tag id name target tagger comment mark) c h = absurd cc
among_id f (Reset id branch target) c h = absurd cc
among_id f (Pass id line) c h = absurd cc

-- a commit that has a flag is at the place of it
record IsAtFlag (flags : List Bool) (events : List PlainEvent) (c : ℕ) : Type 0 where
  place : ℕ
  event : PlainEvent
  at : slice_get events place ≡ Some event
  own : any.Commit c ≡ id_of event
  flag : get_or flags place false ≡ true

at_flag : (flags : List Bool) (events : List PlainEvent) (c : ℕ) → is_flagged_commit flags events c ≡ true → IsAtFlag flags events c
at_flag flags events c h = go (place_of (any.Commit c) events) refl h
  where
    go : (o : Option ℕ) → place_of (any.Commit c) events ≡ o → flag_at flags o ≡ true → IsAtFlag flags events c
    go None is h = absurd (true≢false (sym h))
    go (Some k) is h = let e = event_placed events (any.Commit c) k is in record { place = k; event = e.event; at = e.at; own = e.own; flag = h }

one_of_push : (xs : List ℕ) (c d : ℕ) → is_one_of (xs ++ c ∷ []) d ≡ is_one_of xs d || ((c == d) || false)
one_of_push xs c d = list_any-append (λ s. s == d) xs (c ∷ [])

-- a commit that isn't there has no place
pub not_there : (events : List PlainEvent) (flags : List Bool) (c : ℕ) → place_of (any.Commit c) events ≡ None → IsTrue (has_id events (any.Commit c)) → is_flagged_commit flags events c ≡ true
not_there events flags c none there = absurd (true≢false (sym there ∙ has_id_place events (any.Commit c) ∙ ap is_some none))

module _ (events : List PlainEvent) (cut : Link) where
  -- links lead from late commits to late ones
  late_linked : (d n : ℕ) → is_late events cut d ≡ true → are_linked events cut d n ≡ true → is_late events cut n ≡ true
  late_linked d n late h = elim (or_cases (is_still_parent events cut d n) (is_still_parent events cut n d) h) [
    | inl down ↦ sym (same_side (other_links events cut) cut.child d n (still_link events cut d n ∙ down)) ∙ late
    | inr up ↦ same_side (other_links events cut) cut.child n d (still_link events cut n d ∙ up) ∙ late
  ]

  flagged_late : (hand : List ℕ) (flags : List Bool) (ahead : List ℕ) → AreReached events cut hand flags ahead → (d : ℕ) → is_flagged_commit flags events d ≡ true → is_late events cut d ≡ true
  flagged_late hand flags ahead s d h =
      let a = at_flag flags events d h in
      sym (among_id (is_late events cut) a.event d a.own) ∙ s.late a.place a.event a.at a.flag

  -- ---- a commit is reached

  pub record IsStepped (hand : List ℕ) (n : ℕ) (flags : List Bool) (ahead : List ℕ) (new : List Bool) (more : List ℕ) : Type 0 where
    pub reached : AreReached events cut hand new more
    pub grows : Grows events flags ahead new more
    pub flagged : IsTrue (has_id events (any.Commit n)) → is_flagged_commit new events n ≡ true

  module _ (once : AreDistinct events) (hand : List ℕ) (flags : List Bool) (ahead : List ℕ) (s : AreReached events cut hand flags ahead) (d n : ℕ)
      (from_d : is_flagged_commit flags events d ≡ true) (link : are_linked events cut d n ≡ true)
    where
      late_n : is_late events cut n ≡ true
      late_n = late_linked d n (flagged_late hand flags ahead s d from_d) link

      module _ (new : List Bool) (more : List ℕ) (i : IsNew events n flags ahead new more) where
        low : i.place < length flags
        low = let a = place_within events (any.Commit n) i.place i.at in let b = s.count in omega arith

        kept : (c : ℕ) → is_flagged_commit flags events c ≡ true → is_flagged_commit new events c ≡ true
        kept c h = ap (λ (fs : List Bool). is_flagged_commit fs events c) i.flags ∙ flag_stays flags i.place low (place_of (any.Commit c) events) h

        was : (c : ℕ) → is_flagged_commit new events c ≡ true → (is_flagged_commit flags events c ≡ true) ⊎ (n ≡ c)
        was c h = elim (flag_was flags i.place (place_of (any.Commit c) events) (sym (ap (λ (fs : List Bool). is_flagged_commit fs events c) i.flags) ∙ h)) [
          | inl it ↦ inl it
          | inr there ↦ let both : any.Commit n ≡ any.Commit c = one_place (any.Commit n) (any.Commit c) events i.place i.at there in let is : n ≡ c = cc in inr is
        ]

        own_flag : is_flagged_commit new events n ≡ true
        own_flag =
            ap (λ (fs : List Bool). is_flagged_commit fs events n) i.flags ∙ ap (flag_at (set flags i.place true)) i.at
            ∙ get_or-set_same flags i.place true false low

        late_new : (k : ℕ) (e : PlainEvent) → slice_get events k ≡ Some e → get_or new k false ≡ true → is_commit_among (is_late events cut) e ≡ true
        late_new k e at h = elim (flag_was flags i.place (Some k) (sym (ap (λ (fs : List Bool). get_or fs k false) i.flags) ∙ h)) [
          | inl it ↦ s.late k e at it
          | inr there ↦
              let own : any.Commit n ≡ id_of e = one_place (any.Commit n) (id_of e) events i.place i.at ((place_found events k e at once).0 ∙ there) in
              among_id (is_late events cut) e n own ∙ late_n
        ]

        waiting_new : AllByRecursion (λ c. is_flagged_commit new events c ≡ true) (hand ++ more)
        waiting_new =
            subst (λ (xs : List ℕ). AllByRecursion (λ c. is_flagged_commit new events c ≡ true) xs) (append_assoc hand ahead (n ∷ []) ∙ ap (λ (xs : List ℕ). hand ++ xs) (sym i.ahead))
            (all_join (λ c. is_flagged_commit new events c ≡ true) (hand ++ ahead) (n ∷ [])
            (all_imply (λ c. is_flagged_commit flags events c ≡ true) (λ c. is_flagged_commit new events c ≡ true) kept (hand ++ ahead) s.waiting) (own_flag, tt))

        apart : (c : ℕ) → is_one_of (hand ++ more) c ≡ false → (is_one_of (hand ++ ahead) c ≡ false) × ((n == c) ≡ false)
        apart c h =
            let all : is_one_of ((hand ++ ahead) ++ n ∷ []) c ≡ false = ap (λ (xs : List ℕ). is_one_of xs c) (append_assoc hand ahead (n ∷ []) ∙ ap (λ (xs : List ℕ). hand ++ xs) (sym i.ahead)) ∙ h in
            let parts = or_parts (is_one_of (hand ++ ahead) c) ((n == c) || false) (sym (one_of_push (hand ++ ahead) n c) ∙ all) in
            (parts.0, (or_parts (n == c) false parts.1).0)

        followed_new : (c m : ℕ) → is_flagged_commit new events c ≡ true → is_one_of (hand ++ more) c ≡ false → are_linked events cut c m ≡ true → is_flagged_commit new events m ≡ true
        followed_new c m h out l = elim (was c h) [
          | inl it ↦ kept m (s.followed c m it (apart c out).0 l)
          | inr is ↦ absurd (true≢false (sym (eq-eqb n c is) ∙ (apart c out).1))
        ]

        new_step : IsStepped hand n flags ahead new more
        new_step = record {
          reached = record {
            count = ap length i.flags ∙ length-set flags i.place true ∙ s.count;
            late = late_new;
            start = kept cut.child s.start;
            waiting = waiting_new;
            followed = followed_new;
          };
          grows = record {
            kept = kept;
            work =
                let fewer = one_fewer flags i.place low i.bare in
                let set_is : unset new ≡ unset (set flags i.place true) = ap unset i.flags in
                let more_is : length more ≡ length ahead + 1 = ap length i.ahead ∙ length-append ahead (n ∷ []) in
                omega arith;
          };
          flagged = λ there. own_flag;
        }

      pub stepped : (new : List Bool) (more : List ℕ) → IsStep events n flags ahead new more → IsStepped hand n flags ahead new more
      stepped new more (inl same) = record {
        reached = subst (λ (x : List Bool × List ℕ). AreReached events cut hand x.0 x.1) (λ i. (sym same.0.flags i, sym same.0.ahead i)) s;
        grows = record {
          kept = λ c h. ap (λ (fs : List Bool). is_flagged_commit fs events c) same.0.flags ∙ h;
          work = let a = ap unset same.0.flags in let b = ap length same.0.ahead in omega arith;
        };
        flagged = λ there. ap (λ (fs : List Bool). is_flagged_commit fs events n) same.0.flags ∙ same.1 there;
      }
      stepped new more (inr i) = new_step new more i

  pub grown : (a : List Bool) (x : List ℕ) (b : List Bool) (y : List ℕ) (c : List Bool) (z : List ℕ) → Grows events a x b y → Grows events b y c z → Grows events a x c z
  grown a x b y c z g h = record {
    kept = λ d k. h.kept d (g.kept d k);
    work = let one = g.work in let two = h.work in omega arith;
  }

  -- ---- all links of a commit are followed

  -- one of those that come yet is taken
  pub taken : (c : ℕ) (flags : List Bool) (ahead rest : List ℕ) → ahead ≡ rest ++ c ∷ [] → AreReached events cut [] flags ahead → AreReached events cut (c ∷ []) flags rest
  taken c flags ahead rest is s = record {
    count = s.count;
    late = s.late;
    start = s.start;
    waiting =
        let all = subst (AllByRecursion (λ d. is_flagged_commit flags events d ≡ true)) is s.waiting in
        ((all_rear (λ d. is_flagged_commit flags events d ≡ true) rest (c ∷ []) all).0, all_front (λ d. is_flagged_commit flags events d ≡ true) rest (c ∷ []) all);
    followed = λ d n h out l.
        let parts = or_parts (c == d) (is_one_of rest d) out in
        s.followed d n h (ap (λ (xs : List ℕ). is_one_of xs d) is ∙ one_of_push rest c d ∙ or_from (is_one_of rest d) ((c == d) || false) parts.1 (or_from (c == d) false parts.0 refl)) l;
  }

  -- ---- at the beginning, and in the end

  pub first_reached : AreDistinct events → (new : List Bool) (more : List ℕ) → IsCommitOf events cut.child → IsStep events cut.child (replicate (length events) false) [] new more → AreReached events cut [] new more
  first_reached once new more there (inl same) = absurd (true≢false (sym (same.1 there) ∙ none (place_of (any.Commit cut.child) events)))
    where
      none : (o : Option ℕ) → flag_at (replicate (length events) false) o ≡ false
      none None = refl
      none (Some k) = no_flag (length events) k
  first_reached once new more there (inr i) = record {
    count = ap length i.flags ∙ length-set bare i.place true ∙ length-replicate (length events) false;
    late = λ k e at h. elim (flag_was bare i.place (Some k) (sym (ap (λ (fs : List Bool). get_or fs k false) i.flags) ∙ h)) [
      | inl it ↦ absurd (true≢false (sym it ∙ no_flag (length events) k))
      | inr its ↦
          let own : any.Commit cut.child ≡ id_of e = one_place (any.Commit cut.child) (id_of e) events i.place i.at ((place_found events k e at once).0 ∙ its) in
          among_id (is_late events cut) e cut.child own ∙ late_child events cut
    ];
    start = own;
    waiting = subst (AllByRecursion (λ d. is_flagged_commit new events d ≡ true)) (sym i.ahead) (own, tt);
    followed = λ d n h out l. elim (flag_was bare i.place (place_of (any.Commit d) events) (sym (ap (λ (fs : List Bool). is_flagged_commit fs events d) i.flags) ∙ h)) [
      | inl it ↦ absurd (true≢false (sym it ∙ none (place_of (any.Commit d) events)))
      | inr its ↦
          let both : any.Commit cut.child ≡ any.Commit d = one_place (any.Commit cut.child) (any.Commit d) events i.place i.at its in
          let is : cut.child ≡ d = cc in
          absurd (true≢false (sym (or_left (cut.child == d) false (eq-eqb cut.child d is)) ∙ ap (λ (xs : List ℕ). is_one_of xs d) (sym i.ahead) ∙ out))
    ];
  }
    where
      bare : List Bool
      bare = replicate (length events) false

      none : (o : Option ℕ) → flag_at (replicate (length events) false) o ≡ false
      none None = refl
      none (Some k) = no_flag (length events) k

      low : i.place < length (replicate (length events) false)
      low = let a = place_within events (any.Commit cut.child) i.place i.at in let b = length-replicate (length events) false in omega arith

      own : is_flagged_commit new events cut.child ≡ true
      own =
          ap (λ (fs : List Bool). is_flagged_commit fs events cut.child) i.flags ∙ ap (flag_at (set (replicate (length events) false) i.place true)) i.at
          ∙ get_or-set_same (replicate (length events) false) i.place true false low

  chain_flagged : (flags : List Bool) → AreReached events cut [] flags [] → (d : ℕ) → IsChain events cut cut.child d → is_flagged_commit flags events d ≡ true
  chain_flagged flags s _ itself = s.start
  chain_flagged flags s _ (to_child p c h chain) =
      s.followed p c (chain_flagged flags s p chain) refl (or_left (is_still_parent events cut p c) (is_still_parent events cut c p) h)
  chain_flagged flags s _ (to_parent p c h chain) =
      s.followed c p (chain_flagged flags s c chain) refl (or_right (is_still_parent events cut c p) (is_still_parent events cut p c) h)

  same_map : (f : PlainEvent → Bool) (flags : List Bool) (es : List PlainEvent) → length flags ≡ length es →
      ((k : ℕ) (e : PlainEvent) → slice_get es k ≡ Some e → get_or flags k false ≡ f e) → flags ≡ map f es
  same_map f [] [] count h = refl
  same_map f [] (e ∷ es) count h = absurd (omega arith)
  same_map f (b ∷ flags) [] count h = absurd (omega arith)
  same_map f (b ∷ flags) (e ∷ es) count h = λ i. h 0 e refl i ∷ same_map f flags es (omega arith) (λ k d at. h (suc k) d at) i

  pub all_followed : AreDistinct events → (flags : List Bool) (ahead : List ℕ) → ahead ≡ [] → AreReached events cut [] flags ahead → flags ≡ map (is_commit_among (is_late events cut)) events
  all_followed once flags ahead none s' = same_map (is_commit_among (is_late events cut)) flags events s.count same
    where
      s : AreReached events cut [] flags []
      s = subst (AreReached events cut [] flags) none s'

      back : (k : ℕ) (e : PlainEvent) → slice_get events k ≡ Some e → is_commit_among (is_late events cut) e ≡ true → get_or flags k false ≡ true
      back k (Commit id mark branch author committer encoding comment parents ops aliases) at h =
          sym (flag_of flags events k id (Commit id mark branch author committer encoding comment parents ops aliases) once at refl)
          ∙ chain_flagged flags s id ((late_chain events cut id).0 h)
      back k (Blob id mark bytes) at h = absurd (true≢false (sym h))
      back k (Tag id name target tagger comment mark) at h = absurd (true≢false (sym h))
      back k (Reset id branch target) at h = absurd (true≢false (sym h))
      back k (Pass id line) at h = absurd (true≢false (sym h))

      same : (k : ℕ) (e : PlainEvent) → slice_get events k ≡ Some e → get_or flags k false ≡ is_commit_among (is_late events cut) e
      same k e at = elim (cases_Bool (get_or flags k false)) [
        | inl it ↦ it ∙ sym (s.late k e at it)
        | inr no_it ↦ no_it ∙ sym (false_from_ne_true (is_commit_among (is_late events cut) e) (λ h. true≢false (sym (back k e at h) ∙ no_it)))
      ]

  -- ---- one link after another

  -- what of these is to be reached has a flag
  abbrev pub AreFlagged : (ℕ → Bool) → List ℕ → List Bool → Type 0
  AreFlagged wanted ns flags = (n : ℕ) → is_one_of ns n ≡ true → wanted n ≡ true → is_flagged_commit flags events n ≡ true

  pub flagged_more : (wanted : ℕ → Bool) (ns : List ℕ) (n : ℕ) (flags new : List Bool) → AreFlagged wanted ns flags →
      ((d : ℕ) → is_flagged_commit flags events d ≡ true → is_flagged_commit new events d ≡ true) → (wanted n ≡ true → is_flagged_commit new events n ≡ true) → AreFlagged wanted (ns ++ n ∷ []) new
  flagged_more wanted ns n flags new a kept own m h k = elim (or_cases (is_one_of ns m) ((n == m) || false) (sym (one_of_push ns n m) ∙ h)) [
    | inl before ↦ kept m (a m before k)
    | inr it ↦
        let is : n ≡ m = eqb-true n m (sym (or-false (n == m)) ∙ it) in
        subst (λ x. is_flagged_commit new events x ≡ true) is (own (ap wanted is ∙ k))
  ]

  -- ---- the parents of a commit

  module _ (sound : IsSound events) (once : AreDistinct events) (c : ℕ) where
    parent_links : (p : ℕ) → is_one_of (node_of events c).parents p ≡ true → is_link p c cut ≡ false → is_still_parent events cut p c ≡ true
    parent_links p among other = and_from (is_parent_in (past events) p c) (not (is_link p c cut)) (node_link events c p among) (ap not other)

    -- a parent by a link that isn't cut is reached
    pub parent_reached : (flags : List Bool) (ahead : List ℕ) → AreReached events cut (c ∷ []) flags ahead → (p : ℕ) → is_one_of (node_of events c).parents p ≡ true → is_link p c cut ≡ false →
        (new : List Bool) (more : List ℕ) → IsStep events p flags ahead new more → IsStepped (c ∷ []) p flags ahead new more
    parent_reached flags ahead s p among other new more step =
        stepped once (c ∷ []) flags ahead s c p s.waiting.0
        (or_right (is_still_parent events cut c p) (is_still_parent events cut p c) (parent_links p among other)) new more step

    pub parent_flagged : (p : ℕ) (flags : List Bool) → (IsTrue (has_id events (any.Commit p)) → is_flagged_commit flags events p ≡ true) → is_still_parent events cut p c ≡ true → is_flagged_commit flags events p ≡ true
    parent_flagged p flags f h = f (parent_there events (link p c) sound (and_parts (is_parent_in (past events) p c) (not (is_link p c cut)) h).0)

    pub no_parent : (p : ℕ) → is_link p c cut ≡ true → is_still_parent events cut p c ≡ true → ⊥
    no_parent p its h = true≢false (sym (and_parts (is_parent_in (past events) p c) (not (is_link p c cut)) h).1 ∙ ap not its)

    pub all_parents : (flags : List Bool) → AreFlagged (λ p. is_still_parent events cut p c) (node_of events c).parents flags →
        (p : ℕ) → is_still_parent events cut p c ≡ true → is_flagged_commit flags events p ≡ true
    all_parents flags a p h = a p (link_node events sound c p (and_parts (is_parent_in (past events) p c) (not (is_link p c cut)) h).0) h

    -- ---- and its children

    pub child_reached : (flags : List Bool) (ahead : List ℕ) → AreReached events cut (c ∷ []) flags ahead → (n : ℕ) → is_one_of (children_of c events) n ≡ true → is_link c n cut ≡ false →
        (new : List Bool) (more : List ℕ) → IsStep events n flags ahead new more → IsStepped (c ∷ []) n flags ahead new more
    child_reached flags ahead s n among other new more step =
        stepped once (c ∷ []) flags ahead s c n s.waiting.0
        (or_left (is_still_parent events cut c n) (is_still_parent events cut n c)
        (and_from (is_parent_in (past events) c n) (not (is_link c n cut)) (children_link events c n among) (ap not other))) new more step

    pub child_flagged : (n : ℕ) (flags : List Bool) → (IsTrue (has_id events (any.Commit n)) → is_flagged_commit flags events n ≡ true) → is_still_parent events cut c n ≡ true → is_flagged_commit flags events n ≡ true
    child_flagged n flags f h = f (child_there events (link c n) (and_parts (is_parent_in (past events) c n) (not (is_link c n cut)) h).0)

    pub no_child : (n : ℕ) → is_link c n cut ≡ true → is_still_parent events cut c n ≡ true → ⊥
    no_child n its h = true≢false (sym (and_parts (is_parent_in (past events) c n) (not (is_link c n cut)) h).1 ∙ ap not its)

    pub all_children : (flags : List Bool) → AreFlagged (λ n. is_still_parent events cut c n) (children_of c events) flags →
        (n : ℕ) → is_still_parent events cut c n ≡ true → is_flagged_commit flags events n ≡ true
    all_children flags a n h = a n (link_children events c n (and_parts (is_parent_in (past events) c n) (not (is_link c n cut)) h).0) h

-- ---- items of lists

pub one_of_front : (xs ys : List ℕ) (x : ℕ) → is_one_of xs x ≡ true → is_one_of (xs ++ ys) x ≡ true
one_of_front xs ys x h = list_any-append (λ s. s == x) xs ys ∙ or_left (is_one_of xs x) (is_one_of ys x) h

pub one_of_last : (xs : List ℕ) (x : ℕ) → is_one_of (xs ++ x ∷ []) x ≡ true
one_of_last xs x = one_of_push xs x x ∙ or_right (is_one_of xs x) ((x == x) || false) (or_left (x == x) false (eq-eqb x x refl))

pub one_of_take : (xs : List ℕ) (k x : ℕ) → take (suc k) xs ≡ take k xs ++ x ∷ [] → is_one_of xs x ≡ true
one_of_take xs k x is =
    ap (λ (ys : List ℕ). is_one_of ys x) (sym (take-append-drop (suc k) xs))
    ∙ one_of_front (take (suc k) xs) (drop (suc k) xs) x (ap (λ (ys : List ℕ). is_one_of ys x) is ∙ one_of_last (take k xs) x)

pub no_items : (xs : List ℕ) → length xs ≡ 0 → xs ≡ []
no_items [] h = refl
no_items (x ∷ xs) h = absurd (omega arith)
