-- Flags that are closed under parents, from the last event back.
use Rattle.std.proofs.Common.{◌≡◌, ◌∙◌, ℕ, zero, suc, ◌<◌, ◌≤◌, ◌⊎◌, Bool, true, false, cond, ◌&&◌, ◌||◌, inl, inr, List, [], ◌∷◌, Option, Some, None, refl, sym, ap, subst, length, get_or, take, eqb, eq-eqb, arith, filter}
use Rattle.std.proofs.Math.Bool.{or-false, or-true}
use Rattle.std.proofs.lemmas.Bool.{cases_Bool, cases_eq, false_from_ne_true, or_cases, true≢false}
use Rattle.std.proofs.lemmas.Option.{none-some, same_Some, slice_get_within}
use Rattle.std.specs.List.{AllByRecursion, list_any}
use Rattle.std.specs.Prelude.{is_some, map, slice_get}
use Rattle.plain_model.specs.declared.id.AnyId.TheVariants as any
use Rattle.plain_model.specs.declared.event.PlainEvent.{PlainEvent}
use Rattle.plain_model.specs.declared.event.PlainEvent.TheVariants.{Blob, Commit, Tag, Reset, Pass}
use Rattle.plain_model.specs.Histories.{Node, nodes, past}
use Rattle.plain_model.specs.Lookups.{event_parents, id_of, is_listed, place_of, same_id}
use Rattle.plain_model.specs.Soundness.{IsCommitOf, IsSound, has_id}
use Rattle.history_laws.proofs.Ids.{same_id_true}
use Rattle.history_laws.specs.Once.{AreDistinct}
use Rattle.history_laws.proofs.Lists.{all_reverse}
use Rattle.ancestry_laws.specs.Ancestry.{commits, descends, is_one_of, is_parent_in}
use Rattle.ancestry_laws.proofs.Pasts.{any_reverse, known_past, linked_past}
use Rattle.graph_walk.specs.Flags.{FlagsMore, flag_at, flagged_ids, is_commit_of, is_flagged_commit}
use Rattle.ancestry_laws.proofs.Descent.{any_here, any_some, closed_reaches, from_itself, high_known, parent_reaches}
use Rattle.graph_walk.proofs.EarlierLemmas.{parents_before, is_earlier}
use Rattle.graph_walk.proofs.FlagLemmas.{commit_id, commit_of_is, flag_of, flagged_by, of_commit}
use Rattle.graph_walk.proofs.PlaceLemmas.{event_placed, has_id_place, place_found}
use Rattle.edit_laws.proofs.Lists.{OfNodes}

-- an event that is one of these commits
listed_one : (P : ℕ → Type 0) (set' : List ℕ) (d : PlainEvent) → AllByRecursion P set' → is_commit_of set' d ≡ true →
    (p : ℕ) × (any.Commit p ≡ id_of d) × P p × (is_one_of set' p ≡ true)
listed_one P [] d all h = absurd (true≢false (sym h))
listed_one P (s ∷ set') d all h = elim (or_cases (same_id (id_of d) (any.Commit s)) (is_listed (id_of d) (map any.Commit set')) h) [
  | inl own ↦ (s, sym (same_id_true (id_of d) (any.Commit s) own), all.0, rw (eq-eqb s s refl) refl)
  | inr later ↦ let more = listed_one P set' d all.1 later in (more.0, more.1, more.2, rw more.3 (or-true (eqb s more.0)))
]

all_unit : {X : Type 0} (xs : List X) → AllByRecursion (λ _. Unit {0}) xs
all_unit [] = tt
all_unit (x ∷ xs) = (tt, all_unit xs)

-- a fact of each commit, from places to nodes
pub nodes_all : (P : Node → Type 0) (es : List PlainEvent) →
    ((k : ℕ) (e : PlainEvent) → slice_get es k ≡ Some e → OfNodes P e) → AllByRecursion P (nodes es)
nodes_all P [] h = tt
nodes_all P (Commit id mark branch author committer encoding comment parents ops aliases ∷ es) h =
    ((h 0 (Commit id mark branch author committer encoding comment parents ops aliases) refl).0, nodes_all P es (λ k e at. h (suc k) e at))
nodes_all P (Blob id mark bytes ∷ es) h = nodes_all P es (λ k e at. h (suc k) e at)
nodes_all P (Tag id name target tagger comment mark ∷ es) h = nodes_all P es (λ k e at. h (suc k) e at)
nodes_all P (Reset id branch target ∷ es) h = nodes_all P es (λ k e at. h (suc k) e at)
nodes_all P (Pass id line ∷ es) h = nodes_all P es (λ k e at. h (suc k) e at)

-- the parents of an event are its parents in the past
parent_in : (es : List PlainEvent) (k : ℕ) (e : PlainEvent) (c p : ℕ) → slice_get es k ≡ Some e →
    any.Commit c ≡ id_of e → is_one_of (event_parents e) p ≡ true → is_parent_in (past es) p c ≡ true
parent_in es k e c p at own among =
    any_reverse (λ n. eqb n.id c && list_any (λ q. eqb q p) n.parents) (nodes es) ∙ by es k at
  where
    link : (es : List PlainEvent) (x : PlainEvent) → x ≡ e →
        list_any (λ n. eqb n.id c && list_any (λ q. eqb q p) n.parents) (nodes (x ∷ es)) ≡ true
    link es (Commit i m b au co en cm ps os al) is =
        let same : i ≡ c = down (sym own) in
        let ps_is : ps ≡ event_parents e = ap event_parents is in
        rw (ap (λ n. eqb n c) same ∙ eq-eqb c c refl, ap (λ qs. list_any (λ q. eqb q p) qs) ps_is ∙ among) refl
      where
        down : id_of e ≡ any.Commit c → i ≡ c
        down h = let both : any.Commit i ≡ any.Commit c = ap id_of is ∙ h in cc
    link es (Blob i m bytes) is = absurd (let wrong : any.Blob i ≡ any.Commit c = ap id_of is ∙ sym own in cc)
    link es (Tag i n t g cm mk) is = absurd (let wrong : any.Tag i ≡ any.Commit c = ap id_of is ∙ sym own in cc)
    link es (Reset i b t) is = absurd (let wrong : any.Reset i ≡ any.Commit c = ap id_of is ∙ sym own in cc)
    link es (Pass i l) is = absurd (let wrong : any.Pass i ≡ any.Commit c = ap id_of is ∙ sym own in cc)

    after : (x : PlainEvent) (es : List PlainEvent) →
        list_any (λ n. eqb n.id c && list_any (λ q. eqb q p) n.parents) (nodes es) ≡ true →
        list_any (λ n. eqb n.id c && list_any (λ q. eqb q p) n.parents) (nodes (x ∷ es)) ≡ true
    after (Commit i m b au co en cm ps os al) es h = rw h (or-true (eqb i c && list_any (λ q. eqb q p) ps))
    after (Blob i m bytes) es h = h
    after (Tag i n t g cm mk) es h = h
    after (Reset i b t) es h = h
    after (Pass i l) es h = h

    by : (es : List PlainEvent) (k : ℕ) → slice_get es k ≡ Some e →
        list_any (λ n. eqb n.id c && list_any (λ q. eqb q p) n.parents) (nodes es) ≡ true
    by [] k at = absurd (none-some e at)
    by (x ∷ es) zero at = link es x (same_Some x e at)
    by (x ∷ es) (suc k) at = after x es (by es k at)

-- what is flagged has a descendant in the set, the set is flagged, and so are the parents of what is flagged from the k-th event on
pub record AreClosedFrom (events : List PlainEvent) (set' : List ℕ) (k : ℕ) (flags : List Bool) : Type 0 where
  pub count : length flags ≡ length events
  pub sound : (j : ℕ) (e : PlainEvent) → slice_get events j ≡ Some e → get_or flags j false ≡ true →
      of_commit (λ c. list_any (descends events (c ∷ [])) set') e ≡ true
  pub whole : (j : ℕ) (e : PlainEvent) → slice_get events j ≡ Some e → is_commit_of set' e ≡ true →
      get_or flags j false ≡ true
  pub closed : (j : ℕ) (e : PlainEvent) → slice_get events j ≡ Some e → k ≤ j → get_or flags j false ≡ true →
      AllByRecursion (λ p. is_flagged_commit flags events p ≡ true) (event_parents e)

module _ (events : List PlainEvent) (sound : IsSound events) (once : AreDistinct events) (set' : List ℕ) where
  -- a parent of the k-th event is before it
  parent_earlier : (k j : ℕ) (e d : PlainEvent) → slice_get events k ≡ Some e → slice_get events j ≡ Some d →
      is_commit_of (event_parents e) d ≡ true → j < k
  parent_earlier k j e d at at_j h =
      let p = listed_one (IsCommitOf (take k events)) (event_parents e) d (parents_before [] events k e sound.formed at) h in
      let b = is_earlier events k p.0 p.2 in
      let place : b.place ≡ j = same_Some b.place j (sym (place_found events b.place b.event b.at once).0 ∙ ap (λ i. place_of i events) (sym b.own ∙ p.1) ∙ (place_found events j d at_j once).0) in
      let low = b.low in
      omega arith

  pub closed_first : (k : ℕ) (old flags : List Bool) → length events ≤ k → length old ≡ length events →
      ((j : ℕ) → get_or old j false ≡ false) → FlagsMore events set' old flags → AreClosedFrom events set' k flags
  unfolding of_commit
  closed_first k old flags all counted none f = record {
    count = f.count ∙ counted;
    sound = λ j e at h. own e (sym (f.more j e at ∙ ap (λ b. b || is_commit_of set' e) (none j)) ∙ h) (there j e at);
    whole = λ j e at h. f.more j e at ∙ rw h (or-true (get_or old j false));
    closed = λ j e at low h. absurd (let b = within j e at in omega arith);
  }
    where
      within : (j : ℕ) (e : PlainEvent) → slice_get events j ≡ Some e → j < length events
      within j e at = slice_get_within events j e at

      there : (j : ℕ) (e : PlainEvent) → slice_get events j ≡ Some e → has_id events (id_of e) ≡ true
      there j e at = has_id_place events (id_of e) ∙ ap (λ o. is_some o) (place_found events j e at once).0

      own : (e : PlainEvent) → is_commit_of set' e ≡ true → has_id events (id_of e) ≡ true →
          of_commit (λ c. list_any (descends events (c ∷ [])) set') e ≡ true
      own (Commit id mark branch author committer encoding comment parents ops aliases) h known =
          any_here (descends events (id ∷ [])) set' id (sym (commit_of_is set' (Commit id mark branch author committer encoding comment parents ops aliases)) ∙ h) (from_itself (past events) id (known_past events id ∙ known))
      own (Blob id mark bytes) h known = absurd (true≢false (sym h ∙ commit_of_is set' (Blob id mark bytes)))
      own (Tag id name target tagger comment mark) h known =
          absurd (true≢false (sym h ∙ commit_of_is set' (Tag id name target tagger comment mark)))
      own (Reset id branch target) h known = absurd (true≢false (sym h ∙ commit_of_is set' (Reset id branch target)))
      own (Pass id line) h known = absurd (true≢false (sym h ∙ commit_of_is set' (Pass id line)))

  -- whoever has a descendant in the set, its parents have
  parent_wanted : (k : ℕ) (e : PlainEvent) (p : ℕ) → slice_get events k ≡ Some e →
      of_commit (λ c. list_any (descends events (c ∷ [])) set') e ≡ true → is_one_of (event_parents e) p ≡ true →
      list_any (descends events (p ∷ [])) set' ≡ true
  unfolding of_commit
  parent_wanted k (Commit id mark branch author committer encoding comment parents ops aliases) p at h among =
      let e : PlainEvent = Commit id mark branch author committer encoding comment parents ops aliases in
      let s = any_some (descends events (id ∷ [])) set' h in
      any_here (descends events (p ∷ [])) set' s.0 s.2 (parent_reaches (past events) (linked_past events sound) p id s.0 (parent_in events k e id p at refl among) s.1)
  parent_wanted k (Blob id mark bytes) p at h among = absurd (true≢false (sym h))
  parent_wanted k (Tag id name target tagger comment mark) p at h among = absurd (true≢false (sym h))
  parent_wanted k (Reset id branch target) p at h among = absurd (true≢false (sym h))
  parent_wanted k (Pass id line) p at h among = absurd (true≢false (sym h))

  -- more flags keep those of commits
  commit_more : (more : List ℕ) (flags new : List Bool) (p : ℕ) → FlagsMore events more flags new →
      is_flagged_commit flags events p ≡ true → is_flagged_commit new events p ≡ true
  commit_more more flags new p f h = by (place_of (any.Commit p) events) refl h
    where
      by : (o : Option ℕ) → place_of (any.Commit p) events ≡ o → flag_at flags o ≡ true → flag_at new o ≡ true
      by None is h = h
      by (Some k) is h = let e = event_placed events (any.Commit p) k is in f.more k e.event e.at ∙ rw h refl

  all_more_flagged : (more : List ℕ) (flags new : List Bool) → FlagsMore events more flags new → (ps : List ℕ) →
      AllByRecursion (λ p. is_flagged_commit flags events p ≡ true) ps →
      AllByRecursion (λ p. is_flagged_commit new events p ≡ true) ps
  all_more_flagged more flags new f [] h = tt
  all_more_flagged more flags new f (p ∷ ps) h =
      (commit_more more flags new p f h.0, all_more_flagged more flags new f ps h.1)

  -- the parents of one that is flagged
  parents_flagged : (flags new : List Bool) (more ps : List ℕ) → FlagsMore events more flags new →
      ((p : ℕ) → is_one_of ps p ≡ true → is_one_of more p ≡ true) →
      AllByRecursion (λ p. has_id events (any.Commit p) ≡ true) ps →
      AllByRecursion (λ p. is_flagged_commit new events p ≡ true) ps
  parents_flagged flags new more [] f sub h = tt
  parents_flagged flags new more (p ∷ ps) f sub h =
      (one, parents_flagged flags new more ps f (λ q t. sub q (rw t (or-true (eqb p q)))) h.1)
    where
      one : is_flagged_commit new events p ≡ true
      one = by (place_of (any.Commit p) events) refl (sym (has_id_place events (any.Commit p)) ∙ h.0)
        where
          by : (o : Option ℕ) → place_of (any.Commit p) events ≡ o → is_some o ≡ true → flag_at new o ≡ true
          by None is some = absurd (true≢false (sym some))
          by (Some k) is some =
              let e = event_placed events (any.Commit p) k is in
              f.more k e.event e.at ∙ rw (commit_of_is more e.event ∙ commit_id (is_one_of more) e.event p e.own ∙ sub p (rw (eq-eqb p p refl) refl)) (or-true (get_or flags k false))

  -- ---- one event more, from the last one back

  pub closed_more : (k : ℕ) (e : PlainEvent) (flags new : List Bool) → slice_get events k ≡ Some e →
      AreClosedFrom events set' (suc k) flags →
      FlagsMore events (cond (get_or flags k false) (event_parents e) []) flags new → AreClosedFrom events set' k new
  closed_more k e flags new here s f = by (get_or flags k false) refl f
    where
      -- the k-th event has no flag, so nothing changes
      none_more : (j : ℕ) (d : PlainEvent) → slice_get events j ≡ Some d → FlagsMore events [] flags new →
          get_or new j false ≡ get_or flags j false
      none_more j d at f = f.more j d at ∙ or-false (get_or flags j false)

      -- a commit that gets a flag is a parent of the k-th event
      either : (j : ℕ) (d : PlainEvent) → slice_get events j ≡ Some d → FlagsMore events (event_parents e) flags new →
          get_or new j false ≡ true → (get_or flags j false ≡ true) ⊎ (is_commit_of (event_parents e) d ≡ true)
      either j d at f h = or_cases (get_or flags j false) (is_commit_of (event_parents e) d) (sym (f.more j d at) ∙ h)

      not_later : (j : ℕ) (d : PlainEvent) → slice_get events j ≡ Some d → k ≤ j →
          is_commit_of (event_parents e) d ≡ true → ⊥
      not_later j d at low h = let earlier = parent_earlier k j e d here at h in omega arith

      wanted : (j : ℕ) (d : PlainEvent) → of_commit (λ c. list_any (descends events (c ∷ [])) set') e ≡ true →
          is_commit_of (event_parents e) d ≡ true → of_commit (λ c. list_any (descends events (c ∷ [])) set') d ≡ true
      wanted j d own h =
          let p = listed_one (λ _. Unit {0}) (event_parents e) d (all_unit (event_parents e)) h in
          commit_id (λ c. list_any (descends events (c ∷ [])) set') d p.0 p.1 ∙ parent_wanted k e p.0 here own p.3

      known : AllByRecursion (λ p. has_id events (any.Commit p) ≡ true) (event_parents e)
      known = all_known (event_parents e) (parents_before [] events k e sound.formed here)
        where
          all_known : (ps : List ℕ) → AllByRecursion (IsCommitOf (take k events)) ps →
              AllByRecursion (λ p. has_id events (any.Commit p) ≡ true) ps
          all_known [] h = tt
          all_known (p ∷ ps) h = (one p h.0, all_known ps h.1)
            where
              one : (p : ℕ) → IsCommitOf (take k events) p → has_id events (any.Commit p) ≡ true
              one p h =
                  let b = is_earlier events k p h in
                  has_id_place events (any.Commit p) ∙ ap is_some (ap (λ i. place_of i events) b.own ∙ (place_found events b.place b.event b.at once).0)

      by : (b : Bool) → get_or flags k false ≡ b → FlagsMore events (cond b (event_parents e) []) flags new →
          AreClosedFrom events set' k new
      by false is f = record {
        count = f.count ∙ s.count;
        sound = λ j d at h. s.sound j d at (sym (none_more j d at f) ∙ h);
        whole = λ j d at h. none_more j d at f ∙ s.whole j d at h;
        closed = λ j d at low h. all_more_flagged [] flags new f (event_parents d) (s.closed j d at (above j d at low h) (sym (none_more j d at f) ∙ h));
      }
        where
          above : (j : ℕ) (d : PlainEvent) → slice_get events j ≡ Some d → k ≤ j → get_or new j false ≡ true → suc k ≤ j
          above j d at low h = elim (cases_eq k j) [
            | inl same ↦ absurd (true≢false (sym (sym (none_more j d at f) ∙ h) ∙ ap (λ i. get_or flags i false) (sym same) ∙ is))
            | inr other ↦ omega arith
          ]
      by true is f = record {
        count = f.count ∙ s.count;
        sound = λ j d at h. elim (either j d at f h) [
          | inl old ↦ s.sound j d at old
          | inr parent ↦ wanted j d (s.sound k e here is) parent
        ];
        whole = λ j d at h. f.more j d at ∙ rw (s.whole j d at h) refl;
        closed = λ j d at low h. elim (either j d at f h) [
          | inl old ↦ elim (cases_eq k j) [
            | inl same ↦
                let is_d : e ≡ d = same_Some e d (sym here ∙ ap (slice_get events) same ∙ at) in
                subst (λ x. AllByRecursion (λ p. is_flagged_commit new events p ≡ true) (event_parents x)) is_d (parents_flagged flags new (event_parents e) (event_parents e) f (λ p t. t) known)
            | inr other ↦ all_more_flagged (event_parents e) flags new f (event_parents d) (s.closed j d at (up j other low) old)
          ]
          | inr parent ↦ absurd (not_later j d at low parent)
        ];
      }
        where
          up : (j : ℕ) → (k ≡ j → ⊥) → k ≤ j → suc k ≤ j
          up j other low = omega arith

  -- in the end they are the ancestors
  pub closed_all : (flags : List Bool) → AreClosedFrom events set' 0 flags →
      flagged_ids flags events ≡ map any.Commit (filter (λ c. list_any (descends events (c ∷ [])) set') (commits events))
  unfolding of_commit
  closed_all flags s = flagged_by (λ c. list_any (descends events (c ∷ [])) set') events flags s.count same
    where
      closure : AllByRecursion (λ n. is_flagged_commit flags events n.id ≡ true → AllByRecursion (λ p. is_flagged_commit flags events p ≡ true) n.parents) (past events)
      closure =
          all_reverse (λ (n : Node). is_flagged_commit flags events n.id ≡ true → AllByRecursion (λ p. is_flagged_commit flags events p ≡ true) n.parents) (nodes events) (nodes_all _ events one)
        where
          node_of : (k : ℕ) (e : PlainEvent) → slice_get events k ≡ Some e →
              (get_or flags k false ≡ true → AllByRecursion (λ p. is_flagged_commit flags events p ≡ true) (event_parents e)) →
              OfNodes (λ n. is_flagged_commit flags events n.id ≡ true → AllByRecursion (λ p. is_flagged_commit flags events p ≡ true) n.parents) e
          node_of k (Commit id mark branch author committer encoding comment parents ops aliases) at more = (λ h. more (sym (flag_of flags events k id (Commit id mark branch author committer encoding comment parents ops aliases) once at refl) ∙ h), tt)
          node_of k (Blob id mark bytes) at more = tt
          node_of k (Tag id name target tagger comment mark) at more = tt
          node_of k (Reset id branch target) at more = tt
          node_of k (Pass id line) at more = tt

          one : (k : ℕ) (e : PlainEvent) → slice_get events k ≡ Some e →
              OfNodes (λ n. is_flagged_commit flags events n.id ≡ true → AllByRecursion (λ p. is_flagged_commit flags events p ≡ true) n.parents) e
          one k e at = node_of k e at (λ h. s.closed k e at (omega arith) h)

      -- a commit from which one of the set descends has a flag
      reached : (c : ℕ) → list_any (descends events (c ∷ [])) set' ≡ true → is_flagged_commit flags events c ≡ true
      reached c h =
          let d = any_some (descends events (c ∷ [])) set' h in
          closed_reaches (is_flagged_commit flags events) (past events) closure c d.0 (top d.0 d.2 (sym (known_past events d.0) ∙ high_known (past events) (c ∷ []) d.0 d.1)) d.1
        where
          top : (m : ℕ) → is_one_of set' m ≡ true → has_id events (any.Commit m) ≡ true →
              is_flagged_commit flags events m ≡ true
          top m among there =
              at (place_of (any.Commit m) events) refl (sym (has_id_place events (any.Commit m)) ∙ there)
            where
              at : (o : Option ℕ) → place_of (any.Commit m) events ≡ o → is_some o ≡ true → flag_at flags o ≡ true
              at None is some = absurd (true≢false (sym some))
              at (Some k) is some =
                  let e = event_placed events (any.Commit m) k is in
                  s.whole k e.event e.at (commit_of_is set' e.event ∙ commit_id (is_one_of set') e.event m e.own ∙ among)

      same : (k : ℕ) (e : PlainEvent) → slice_get events k ≡ Some e →
          get_or flags k false ≡ of_commit (λ c. list_any (descends events (c ∷ [])) set') e
      same k e at = elim (cases_Bool (get_or flags k false)) [
        | inl it ↦ it ∙ sym (s.sound k e at it)
        | inr no_it ↦ no_it ∙ sym (false_from_ne_true (of_commit (λ c. list_any (descends events (c ∷ [])) set') e) (λ h. true≢false (sym (flagged k e at h) ∙ no_it)))
      ]
        where
          flagged : (k : ℕ) (e : PlainEvent) → slice_get events k ≡ Some e →
              of_commit (λ c. list_any (descends events (c ∷ [])) set') e ≡ true → get_or flags k false ≡ true
          flagged k (Commit id mark branch author committer encoding comment parents ops aliases) at h =
              sym (flag_of flags events k id (Commit id mark branch author committer encoding comment parents ops aliases) once at refl) ∙ reached id h
          flagged k (Blob id mark bytes) at h = absurd (true≢false (sym h))
          flagged k (Tag id name target tagger comment mark) at h = absurd (true≢false (sym h))
          flagged k (Reset id branch target) at h = absurd (true≢false (sym h))
          flagged k (Pass id line) at h = absurd (true≢false (sym h))
