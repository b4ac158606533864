-- From flags that are closed down to a place to descent from the commit there.
use Rattle.std.proofs.Common.{◌≡◌, ◌∙◌, ℕ, suc, ◌<◌, ◌≤◌, Bool, true, false, ◌||◌, inl, inr, List, [], ◌∷◌, Option, Some, None, refl, sym, ap, length, get_or, take, eq-eqb, arith}
use Rattle.std.proofs.Math.Bool.{or-false, or-true}
use Rattle.std.proofs.lemmas.Bool.{cases_Bool, false_from_ne_true, or_cases, true≢false, lt-ltb, ltb-true}
use Rattle.std.proofs.lemmas.Option.{same_Some}
use Rattle.std.specs.List.{AllByRecursion, list_any}
use Rattle.std.specs.Prelude.{nat_lt, slice_get}
use Rattle.plain_model.specs.declared.id.AnyId.TheVariants as any
use Rattle.plain_model.specs.declared.event.PlainEvent.{PlainEvent}
use Rattle.plain_model.specs.declared.event.PlainEvent.TheVariants.{Blob, Commit, Tag, Reset, Pass}
use Rattle.plain_model.specs.Histories.{Node, nodes, past}
use Rattle.plain_model.specs.Lookups.{event_parents, id_of, place_of, same_id}
use Rattle.plain_model.specs.Soundness.{IsCommitOf, IsSound}
use Rattle.history_laws.proofs.Ids.{same_id_true}
use Rattle.history_laws.specs.Once.{AreDistinct}
use Rattle.history_laws.proofs.Lists.{all_reverse}
use Rattle.ancestry_laws.specs.Ancestry.{descends, is_one_of}
use Rattle.graph_walk.specs.Flags.{FlagsMore, flag_at, is_commit_of, is_flagged_commit}
use Rattle.ancestry_laws.proofs.Descent.{closed_reaches}
use Rattle.std.proofs.lemmas.Bool.Decides.{nat_tests}
use Rattle.graph_walk.proofs.ClosureLemmas.{AreClosedFrom, closed_first, nodes_all}
use Rattle.graph_walk.proofs.EarlierLemmas.{parents_before, is_earlier}
use Rattle.graph_walk.proofs.FlagLemmas.{commit_id, commit_of_is, flag_of}
use Rattle.graph_walk.proofs.PlaceLemmas.{event_placed, place_found}
use Rattle.edit_laws.proofs.Lists.{OfNodes}

-- the place is below a bound, or there is none
abbrev is_below : ℕ → Option ℕ → Bool
is_below bound None = true
is_below bound (Some k) = nat_lt k bound

not_below : (k : ℕ) → nat_lt k k ≡ false
not_below k = grind (arith, nat_tests)

module _ (events : List PlainEvent) (sound : IsSound events) (once : AreDistinct events) (high top : ℕ) (at_top : place_of (any.Commit high) events ≡ Some top) where
  -- the flag of one commit alone
  pub closed_top : (old flags : List Bool) → length old ≡ length events → ((j : ℕ) → get_or old j false ≡ false) →
      FlagsMore events (high ∷ []) old flags → AreClosedFrom events (high ∷ []) (suc top) flags
  closed_top old flags counted none f =
      let first = closed_first events sound once (high ∷ []) (length events) old flags (omega arith) counted none f in
      record {
        count = first.count;
        sound = first.sound;
        whole = first.whole;
        closed = λ j e at low h. absurd (only j e at low (sym (f.more j e at ∙ ap (λ b. b || is_commit_of (high ∷ []) e) (none j)) ∙ h));
      }
    where
      only : (j : ℕ) (e : PlainEvent) → slice_get events j ≡ Some e → suc top ≤ j → is_commit_of (high ∷ []) e ≡ true →
          ⊥
      only j e at low h =
          let own : id_of e ≡ any.Commit high = same_id_true (id_of e) (any.Commit high) (sym (or-false (same_id (id_of e) (any.Commit high))) ∙ h) in
          let place : j ≡ top = same_Some j top (sym (place_found events j e at once).0 ∙ ap (λ i. place_of i events) own ∙ at_top) in
          omega arith

  module _ (low bottom : ℕ) (at_bottom : place_of (any.Commit low) events ≡ Some bottom) (flags : List Bool) (k : ℕ) (k_low : k ≤ suc bottom) (s : AreClosedFrom events (high ∷ []) k flags) where
    -- flagged, or before the low commit
    covered : ℕ → Bool
    covered c = is_flagged_commit flags events c || is_below bottom (place_of (any.Commit c) events)

    covered_all : (ps : List ℕ) → AllByRecursion (λ p. is_flagged_commit flags events p ≡ true) ps →
        AllByRecursion (λ p. covered p ≡ true) ps
    unfolding covered
    covered_all [] h = tt
    covered_all (p ∷ ps) h = (rw h.0 refl, covered_all ps h.1)

    before_all : (j : ℕ) → j ≤ bottom → (ps : List ℕ) → AllByRecursion (IsCommitOf (take j events)) ps →
        AllByRecursion (λ p. covered p ≡ true) ps
    unfolding covered
    before_all j h [] all = tt
    before_all j h (p ∷ ps) all = (one, before_all j h ps all.1)
      where
        one : is_flagged_commit flags events p || is_below bottom (place_of (any.Commit p) events) ≡ true
        one =
            let b = is_earlier events j p all.0 in
            let place : place_of (any.Commit p) events ≡ Some b.place = ap (λ i. place_of i events) b.own ∙ (place_found events b.place b.event b.at once).0 in
            let lower = b.low in
            ap (λ t. is_flagged_commit flags events p || t) (ap (is_below bottom) place ∙ lt-ltb b.place bottom (omega arith)) ∙ or-true (is_flagged_commit flags events p)

    closure_at : (j : ℕ) (e : PlainEvent) (c : ℕ) → slice_get events j ≡ Some e → any.Commit c ≡ id_of e →
        covered c ≡ true → AllByRecursion (λ p. covered p ≡ true) (event_parents e)
    unfolding covered
    closure_at j e c at own h = elim (cases_Bool (nat_lt bottom j)) [
      | inl above ↦
          let over = ltb-true bottom j above in
          let place : place_of (any.Commit c) events ≡ Some j = ap (λ i. place_of i events) own ∙ (place_found events j e at once).0 in
          covered_all (event_parents e) (s.closed j e at (omega arith) (sym (flag_of flags events j c e once at own) ∙ flagged place over))
      | inr under ↦ before_all j (at_most j under) (event_parents e) (parents_before [] events j e sound.formed at)
    ]
      where
        at_most : (j : ℕ) → nat_lt bottom j ≡ false → j ≤ bottom
        at_most j h = grind (arith, nat_tests)

        flagged : place_of (any.Commit c) events ≡ Some j → bottom < j → is_flagged_commit flags events c ≡ true
        flagged place over = elim (or_cases (is_flagged_commit flags events c) (is_below bottom (place_of (any.Commit c) events)) h) [
          | inl it ↦ it
          | inr less ↦ absurd (let b = ltb-true j bottom (ap (is_below bottom) (sym place) ∙ less) in omega arith)
        ]

    node_closure : (j : ℕ) (e : PlainEvent) → slice_get events j ≡ Some e →
        OfNodes (λ n. covered n.id ≡ true → AllByRecursion (λ p. covered p ≡ true) n.parents) e
    node_closure j (Commit id mark branch author committer encoding comment parents ops aliases) at =
        (closure_at j (Commit id mark branch author committer encoding comment parents ops aliases) id at refl, tt)
    node_closure j (Blob id mark bytes) at = tt
    node_closure j (Tag id name target tagger comment mark) at = tt
    node_closure j (Reset id branch target) at = tt
    node_closure j (Pass id line) at = tt

    -- the low commit's flag says whether the high one descends from it
    pub bottom_flag : get_or flags bottom false ≡ descends events (low ∷ []) high
    unfolding covered
    bottom_flag =
        let b = event_placed events (any.Commit low) bottom at_bottom in
        let t = event_placed events (any.Commit high) top at_top in
        let low_flag : is_flagged_commit flags events low ≡ get_or flags bottom false = ap (flag_at flags) at_bottom in
        let high_flag : is_flagged_commit flags events high ≡ true = ap (flag_at flags) at_top ∙ s.whole top t.event t.at (commit_of_is (high ∷ []) t.event ∙ commit_id (is_one_of (high ∷ [])) t.event high t.own ∙ rw (eq-eqb high high refl) refl) in
        elim (cases_Bool (descends events (low ∷ []) high)) [
          | inl it ↦
              let covered_low : covered low ≡ true = closed_reaches covered (past events) (all_reverse (λ (n : Node). covered n.id ≡ true → AllByRecursion (λ p. covered p ≡ true) n.parents) (nodes events) (nodes_all (λ n. covered n.id ≡ true → AllByRecursion (λ p. covered p ≡ true) n.parents) events node_closure)) low high (rw high_flag refl) it in
              let no : is_below bottom (place_of (any.Commit low) events) ≡ false = ap (is_below bottom) at_bottom ∙ not_below bottom in
              sym low_flag ∙ sym (or-false (is_flagged_commit flags events low)) ∙ sym (ap (λ x. is_flagged_commit flags events low || x) no) ∙ covered_low ∙ sym it
          | inr no_it ↦
              false_from_ne_true (get_or flags bottom false) (λ h. true≢false (sym (
              sym (or-false (descends events (low ∷ []) high)) ∙ sym (commit_id (λ c. list_any (descends events (c ∷ [])) (high ∷ [])) b.event low b.own) ∙ s.sound bottom b.event b.at h) ∙ no_it)) ∙ sym no_it
        ]
