-- Descendants by flags, from the first event on.
use Rattle.std.proofs.Common.{◌≡◌, ◌∙◌, ℕ, suc, ◌<◌, ◌≤◌, Bool, false, ◌||◌, inl, inr, List, [], ◌∷◌, ◌++◌, Some, refl, sym, ap, subst, length, get_or, take, eqb, eq-eqb, arith, reverse, filter}
use Rattle.std.proofs.Math.Bool.{or-false}
use Rattle.std.proofs.Math.ListN.{set}
use Rattle.std.proofs.lemmas.Bool.{cases_eq, eqb-true, false_from_ne_true}
use Rattle.std.proofs.lemmas.List.{get_or-set_other, get_or-set_same, length-set}
use Rattle.std.proofs.lemmas.Option.{same_Some, slice_get_within}
use Rattle.std.specs.List.{list_any}
use Rattle.std.specs.Prelude.{map, slice_get}
use Rattle.plain_model.specs.declared.id.AnyId.TheVariants as any
use Rattle.plain_model.specs.declared.event.PlainEvent.{PlainEvent}
use Rattle.plain_model.specs.declared.event.PlainEvent.TheVariants.{Blob, Commit, Tag, Reset, Pass}
use Rattle.plain_model.specs.Histories.{nodes, past}
use Rattle.plain_model.specs.Lookups.{event_parents, id_of, place_of}
use Rattle.plain_model.specs.Soundness.{IsCommitOf, IsSound}
use Rattle.history_laws.specs.Once.{AreDistinct}
use Rattle.event_arena.proofs.ListLemmas.{take_all}
use Rattle.ancestry_laws.specs.Ancestry.{commits, descends, descends_in}
use Rattle.graph_walk.specs.Flags.{flagged_ids, is_commit_of, is_flagged_commit}
use Rattle.graph_walk.proofs.EarlierLemmas.{any_on, parents_before, past_item, is_earlier}
use Rattle.graph_walk.proofs.FlagLemmas.{commit_id, commit_of_is, flag_of, flagged_by, of_commit}
use Rattle.graph_walk.proofs.PlaceLemmas.{place_found}

-- the flags of the first k events are settled, the others are those of the set
pub record AreSettledTo (events : List PlainEvent) (set' : List ℕ) (k : ℕ) (flags : List Bool) : Type 0 where
  pub count : length flags ≡ length events
  pub below : (j : ℕ) (e : PlainEvent) → slice_get events j ≡ Some e → j < k →
      get_or flags j false ≡ of_commit (descends_in set' (past (take k events))) e
  pub above : (j : ℕ) (e : PlainEvent) → slice_get events j ≡ Some e → k ≤ j →
      get_or flags j false ≡ is_commit_of set' e

module _ (events : List PlainEvent) (sound : IsSound events) (once : AreDistinct events) (set' : List ℕ) where
  -- a commit before the k-th event isn't the k-th
  apart : (j k : ℕ) (d : PlainEvent) (id : ℕ) (e : PlainEvent) → slice_get events j ≡ Some d → j < k →
      slice_get events k ≡ Some e → any.Commit id ≡ id_of e → (c : ℕ) → any.Commit c ≡ id_of d → eqb id c ≡ false
  apart j k d id e at low here own c other = false_from_ne_true (eqb id c) (λ t.
      let same : id_of d ≡ id_of e = sym other ∙ ap any.Commit (sym (eqb-true id c t)) ∙ own in
      let place : j ≡ k = same_Some j k (sym (place_found events j d at once).0 ∙ ap (λ i. place_of i events) same ∙ (place_found events k e here once).0) in
      absurd (omega arith))

  -- the test of an earlier event under one event more
  kept : (j k : ℕ) (d e : PlainEvent) → slice_get events j ≡ Some d → j < k → slice_get events k ≡ Some e →
      of_commit (descends_in set' (reverse (nodes (e ∷ [])) ++ past (take k events))) d ≡ of_commit (descends_in set' (past (take k events))) d
  unfolding of_commit
  kept j k (Commit c m b au co en cm ps os al) (Commit id mark branch author committer encoding comment parents ops aliases) at low here =
      rw (apart j k (Commit c m b au co en cm ps os al) id (Commit id mark branch author committer encoding comment parents ops aliases) at low here refl c refl) refl
  kept j k (Commit c m b au co en cm ps os al) (Blob id mark bytes) at low here = refl
  kept j k (Commit c m b au co en cm ps os al) (Tag id name target tagger comment mark) at low here = refl
  kept j k (Commit c m b au co en cm ps os al) (Reset id branch target) at low here = refl
  kept j k (Commit c m b au co en cm ps os al) (Pass id line) at low here = refl
  kept j k (Blob id mark bytes) e at low here = refl
  kept j k (Tag id name target tagger comment mark) e at low here = refl
  kept j k (Reset id branch target) e at low here = refl
  kept j k (Pass id line) e at low here = refl

  -- the flags of parents
  parent_flags : (k : ℕ) (e : PlainEvent) (flags : List Bool) → slice_get events k ≡ Some e →
      AreSettledTo events set' k flags →
      list_any (is_flagged_commit flags events) (event_parents e) ≡ list_any (descends_in set' (past (take k events))) (event_parents e)
  parent_flags k e flags here s =
      any_on (is_flagged_commit flags events) (descends_in set' (past (take k events))) (IsCommitOf (take k events)) one (event_parents e) (parents_before [] events k e sound.formed here)
    where
      one : (p : ℕ) → IsCommitOf (take k events) p →
          is_flagged_commit flags events p ≡ descends_in set' (past (take k events)) p
      one p h =
          let b = is_earlier events k p h in
          flag_of flags events b.place p b.event once b.at b.own ∙ s.below b.place b.event b.at b.low ∙ commit_id (descends_in set' (past (take k events))) b.event p b.own

  -- what the k-th event's own flag becomes
  own_flag : (k : ℕ) (e : PlainEvent) →
      is_commit_of set' e || list_any (descends_in set' (past (take k events))) (event_parents e)
      ≡ of_commit (descends_in set' (reverse (nodes (e ∷ [])) ++ past (take k events))) e
  unfolding of_commit
  own_flag k (Commit id mark branch author committer encoding comment parents ops aliases) =
      rw (eq-eqb id id refl) (ap (λ b. b || list_any (descends_in set' (past (take k events))) parents) (commit_of_is set' (Commit id mark branch author committer encoding comment parents ops aliases)))
  own_flag k (Blob id mark bytes) =
      or-false (is_commit_of set' (Blob id mark bytes)) ∙ commit_of_is set' (Blob id mark bytes)
  own_flag k (Tag id name target tagger comment mark) =
      or-false (is_commit_of set' (Tag id name target tagger comment mark))
      ∙ commit_of_is set' (Tag id name target tagger comment mark)
  own_flag k (Reset id branch target) =
      or-false (is_commit_of set' (Reset id branch target)) ∙ commit_of_is set' (Reset id branch target)
  own_flag k (Pass id line) = or-false (is_commit_of set' (Pass id line)) ∙ commit_of_is set' (Pass id line)

  pub settled_more : (k : ℕ) (e : PlainEvent) (flags new : List Bool) → slice_get events k ≡ Some e →
      AreSettledTo events set' k flags →
      new ≡ set flags k (get_or flags k false || list_any (is_flagged_commit flags events) (event_parents e)) → AreSettledTo events set' (suc k) new
  settled_more k e flags new here s is = record {
    count = ap length is ∙ length-set flags k _ ∙ s.count;
    below = below;
    above = λ j d at low. ap (λ fs. get_or fs j false) is ∙ get_or-set_other flags k j _ false (λ same. over j (sym same) low) ∙ s.above j d at (omega arith);
  }
    where
      over : (j : ℕ) → k ≡ j → suc k ≤ j → ⊥
      over j same low = omega arith

      below : (j : ℕ) (d : PlainEvent) → slice_get events j ≡ Some d → j < suc k →
          get_or new j false ≡ of_commit (descends_in set' (past (take (suc k) events))) d
      below j d at low = elim (cases_eq k j) [
        | inl same ↦
            let is_d : e ≡ d = same_Some e d (sym here ∙ ap (slice_get events) same ∙ at) in
            subst (λ i. get_or new i false ≡ of_commit (descends_in set' (past (take (suc k) events))) d) same
            (
            ap (λ fs. get_or fs k false) is
            ∙ get_or-set_same flags k _ false (let a = s.count in let b = slice_get_within events k e here in omega arith)
            ∙ ap (λ b. b || list_any (is_flagged_commit flags events) (event_parents e)) (s.above k e here (omega arith))
            ∙ ap (λ b. is_commit_of set' e || b) (parent_flags k e flags here s)
            ∙ own_flag k e
            ∙ ap (λ p. of_commit (descends_in set' p) e) (sym (past_item events k e here))
            ∙ ap (of_commit (descends_in set' (past (take (suc k) events)))) is_d
            )
        | inr other ↦
            ap (λ fs. get_or fs j false) is ∙ get_or-set_other flags k j _ false (λ e. other (sym e)) ∙ s.below j d at (lower other low)
            ∙ sym (kept j k d e at (lower other low) here)
            ∙ ap (λ p. of_commit (descends_in set' p) d) (sym (past_item events k e here))
      ]
        where
          lower : (k ≡ j → ⊥) → j < suc k → j < k
          lower other low = omega arith

  -- in the end they are the descendants
  pub settled_all : (k : ℕ) (flags : List Bool) → length events ≤ k → AreSettledTo events set' k flags →
      flagged_ids flags events ≡ map any.Commit (filter (descends events set') (commits events))
  settled_all k flags all s =
      flagged_by (descends events set') events flags s.count
      (λ j e at. s.below j e at (let low = slice_get_within events j e at in omega arith) ∙ ap (λ es. of_commit (descends_in set' (past es)) e) (take_all events k all))
