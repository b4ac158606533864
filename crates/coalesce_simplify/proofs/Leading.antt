-- A joined commit leads to one that stays, child by child.
use Rattle.std.proofs.Common.{◌≡◌, ◌∙◌, ℕ, zero, suc, ◌+◌, ◌≤◌, ◌<◌, true, false, cond, inl, inr, List, [], ◌∷◌, length, get_or, Option, Some, None, refl, sym, ap, subst, arith, true≢false}
use Rattle.std.proofs.lemmas.Bool.{cases_Bool, cond-false, cond-true}
use Rattle.std.proofs.lemmas.Option.{none-some}
use Rattle.std.specs.Option.{option_or}
use Rattle.std.specs.Prelude.{IsSome, slice_get, unwrap_or}
use Rattle.plain_model.specs.declared.id.AnyId.{AnyId}
use Rattle.plain_model.specs.declared.id.AnyId.TheVariants as any
use Rattle.plain_model.specs.declared.event.PlainEvent.{PlainEvent}
use Rattle.plain_model.specs.Lookups.{children_of, commit_id, find_event, id_number, id_of, place_of}
use Rattle.plain_model.specs.Soundness.{IsSound}
use Rattle.history_laws.proofs.SoundOnce.{sound_once}
use Rattle.edit_laws.proofs.Children.{forward_at}
use Rattle.graph_walk.proofs.PlaceLemmas.{place_found, place_within}
use Rattle.squash_laws.specs.Removed.{is_removed}
use Rattle.squash_laws.specs.Takings.{back_of, forward_of}
use Rattle.plan_steps.proofs.NodeLemmas.{found_at}
use Rattle.plan_steps.proofs.WayLemmas.{commit_own, first_known, is_early, own_commit}
use Rattle.coalesce_laws.proofs.Joined.{IsJoined, joined}
use Rattle.coalesce_simplify.specs.Joining.{AreEndsFrom, AreJoined, end_of, joins}

module _ (set : List AnyId) (events : List PlainEvent) (h : IsSound events) (j : AreJoined set events) where
  its : (c : ℕ) → is_removed set c ≡ true → IsJoined j.0 j.1 events h c
  its c gone = joined j.0 j.1 events h c (ap (λ s. is_removed s c) (sym j.2) ∙ gone)

  -- the child of a joined commit, which stands later
  pub record Next (c k : ℕ) : Type 0 where
    pub child : ℕ
    pub event : PlainEvent
    pub place : ℕ
    pub only : children_of c events ≡ child ∷ []
    pub there : find_event (any.Commit child) events ≡ Some event
    pub at : slice_get events place ≡ Some event
    pub own : any.Commit child ≡ id_of event
    pub placed : place_of (any.Commit child) events ≡ Some place
    pub later : k < place
    pub leads : forward_of set events c ≡ cond (is_removed set child) (forward_of set events child) (Some child)

  pub next : (c k : ℕ) (e : PlainEvent) → slice_get events k ≡ Some e → commit_id e ≡ Some c → is_removed set c ≡ true → Next c k
  next c k e at is gone =
      let x = its c gone in
      let d = id_number (id_of x.child) in
      let there : find_event (any.Commit d) events ≡ Some x.child = ap (λ id. find_event id events) (sym x.commit) ∙ x.there in
      let a = found_at events h d x.child there in
      let once = (sound_once events h).ids in
      let place_c : place_of (any.Commit c) events ≡ Some k = ap (λ id. place_of id events) (own_commit c e is) ∙ (place_found events k e at once).0 in
      let early = is_early events a.place c k once (first_known events h a.place c x.child a.at (ap (λ ps. slice_get ps 0) x.parent)) place_c in
      record {
        child = d;
        event = x.child;
        place = a.place;
        only = x.only;
        there = there;
        at = a.at;
        own = a.own;
        placed = ap (λ id. place_of id events) a.own ∙ (place_found events a.place x.child a.at once).0;
        later = early.low;
        leads = forward_at (is_removed set) events h c d [] x.only;
      }

  -- where its child leads, or the child itself
  pub end_on : (c k : ℕ) (x : Next c k) (ends : List (Option ℕ)) → AreEndsFrom set events (suc k) ends → is_removed set x.child ≡ true →
      get_or ends x.place None ≡ forward_of set events c
  end_on c k x ends are too =
      are.entry x.place x.event x.at (let later = x.later in omega arith) x.child (commit_own x.child x.event x.own) too
      ∙ sym (x.leads ∙ cond-true (is_removed set x.child) (forward_of set events x.child) (Some x.child) too)

  pub end_here : (c k : ℕ) (x : Next c k) → is_removed set x.child ≡ false → ◌≡◌ {A = Option ℕ} (Some x.child) (forward_of set events c)
  end_here c k x stays = sym (x.leads ∙ cond-false (is_removed set x.child) (forward_of set events x.child) (Some x.child) stays)

  within : (k : ℕ) (e : PlainEvent) → slice_get events k ≡ Some e → k < length events
  within k e at = place_within events (id_of e) k (place_found events k e at (sound_once events h).ids).0

  -- so it leads somewhere
  leads_on : (n k c : ℕ) (e : PlainEvent) → slice_get events k ≡ Some e → commit_id e ≡ Some c → is_removed set c ≡ true → length events ≤ k + n →
      IsSome (forward_of set events c)
  leads_on zero k c e at is gone high = let low = within k e at in absurd (omega arith)
  leads_on (suc n) k c e at is gone high =
      let x = next c k e at is gone in
      let later = x.later in
      elim (cases_Bool (is_removed set x.child)) [
        | inl too ↦
            subst IsSome (sym (x.leads ∙ cond-true (is_removed set x.child) (forward_of set events x.child) (Some x.child) too))
            (leads_on n x.place x.child x.event x.at (commit_own x.child x.event x.own) too (omega arith))
        | inr stays ↦ subst IsSome (sym (x.leads ∙ cond-false (is_removed set x.child) (forward_of set events x.child) (Some x.child) stays)) refl
      ]

  pub leads_there : (c : ℕ) → is_removed set c ≡ true → IsSome (forward_of set events c)
  leads_there c gone =
      let x = its c gone in
      let there : find_event (any.Commit c) events ≡ Some x.own = ap (λ id. find_event id events) x.id ∙ x.here in
      let a = found_at events h c x.own there in
      leads_on (length events) a.place c x.own a.at (commit_own c x.own a.own) gone (omega arith)

  -- ---- where tags and resets go

  first_of_two : (a b : Option ℕ) → IsSome a → option_or a b ≡ a
  first_of_two None b some = absurd (true≢false (sym some))
  first_of_two (Some x) b some = refl

  pub target_gone : (c : ℕ) → is_removed set c ≡ true → (joins set events).target c ≡ forward_of set events c
  target_gone c gone =
      cond-true (is_removed set c) (option_or (forward_of set events c) (back_of set events c)) (Some c) gone
      ∙ first_of_two (forward_of set events c) (back_of set events c) (leads_there c gone)

  pub target_stays : (c : ℕ) → is_removed set c ≡ false → (joins set events).target c ≡ Some c
  target_stays c stays = cond-false (is_removed set c) (option_or (forward_of set events c) (back_of set events c)) (Some c) stays

  pub target_there : (c : ℕ) → IsSome ((joins set events).target c)
  target_there c = elim (cases_Bool (is_removed set c)) [
    | inl gone ↦ subst IsSome (sym (target_gone c gone)) (leads_there c gone)
    | inr stays ↦ subst IsSome (sym (target_stays c stays)) refl
  ]

  pub end_gone : (c : ℕ) (end : Option ℕ) → is_removed set c ≡ true → end ≡ forward_of set events c → unwrap_or end c ≡ end_of set events c
  end_gone c end gone is = ap (λ o. unwrap_or o c) (is ∙ sym (target_gone c gone))

  pub end_stays : (c : ℕ) → is_removed set c ≡ false → c ≡ end_of set events c
  end_stays c stays = ap (λ o. unwrap_or o c) (sym (target_stays c stays))

  -- a commit that isn't there isn't joined
  pub absent_stays : (c : ℕ) → find_event (any.Commit c) events ≡ None → is_removed set c ≡ false
  absent_stays c absent = elim (cases_Bool (is_removed set c)) [
    | inl gone ↦ let x = its c gone in absurd (none-some x.own (sym absent ∙ ap (λ id. find_event id events) x.id ∙ x.here))
    | inr stays ↦ stays
  ]
