-- The removed commits that hang on others, and how many children commits have, event by event.
use Rattle.std.proofs.Common.{◌≡◌, ◌∙◌, ℕ, zero, suc, ◌+◌, ◌<◌, ◌≤◌, Bool, true, false, cond, ◌&&◌, inl, inr, List, [], ◌∷◌, ◌++◌, Option, Some, None, refl, sym, ap, length, get_or, take, drop, arith, append-nil, map, filter, true≢false, length-append}
use Rattle.std.proofs.Math.ListN.{set as set_at}
use Rattle.std.proofs.lemmas.Bool.{cases_eq, cond-true, cond-false, false_from_ne_true, lt-ltb}
use Rattle.std.proofs.lemmas.List.{get_or-set_other, get_or-set_same, length-set, map-append}
use Rattle.std.proofs.lemmas.List.Elements.{filter-append}
use Rattle.std.proofs.lemmas.Option.{none-some, same_Some}
use Rattle.std.specs.Option.{option_or}
use Rattle.std.specs.Prelude.{◌==◌, IsSome, is_some, nat_lt, slice_get}
use Rattle.plain_model.specs.declared.id.AnyId.{AnyId}
use Rattle.plain_model.specs.declared.id.AnyId.TheVariants as any
use Rattle.plain_model.specs.declared.fault.Fault.{Fault}
use Rattle.plain_model.specs.declared.fault.Fault.TheVariants.{PushbackFork}
use Rattle.plain_model.specs.declared.event.PlainEvent.{PlainEvent}
use Rattle.plain_model.specs.declared.event.PlainEvent.TheVariants.{Blob, Commit, Tag, Reset, Pass}
use Rattle.plain_model.specs.Histories.{Node, nodes}
use Rattle.plain_model.specs.Lookups.{commit_id, event_parents, find_event, place_of}
use Rattle.plain_model.specs.Soundness.{IsSound}
use Rattle.history_laws.proofs.Commits.{nodes_append}
use Rattle.history_laws.specs.Once.{AreDistinct}
use Rattle.event_arena.proofs.ListLemmas.{drop_item, take_item}
use Rattle.history_laws.proofs.SoundOnce.{has_id_find, sound_once}
use Rattle.graph_walk.proofs.PlaceLemmas.{place_found}
use Rattle.squash_laws.proofs.Takes.{target_stays}
use Rattle.squash_laws.specs.Squash.{back_fault, first_back_fault, first_children, is_first}
use Rattle.squash_laws.specs.Removed.{is_removed}
use Rattle.squash_laws.specs.Takings.{back_of, forward_of, is_it}
use Rattle.plain_model.specs.declared.policy.Lean.TheVariants as lean
use Rattle.plain_model.specs.declared.policy.Push.TheVariants as push
use Rattle.squash_delete.specs.Backing.{AreCountedTo, own_fault}
use Rattle.squash_delete.specs.Hangings.{AreHungTo, hung}
use Rattle.edit_laws.proofs.Limits.{not_many}
use Rattle.plan_steps.proofs.NodeLemmas.{node_of}
use Rattle.plan_steps.proofs.WayLemmas.{commit_placed, own_commit}

same_number : (c : ℕ) → (c == c) ≡ true
same_number c = grind (arith)

number_same : (p c : ℕ) → (p == c) ≡ true → p ≡ c
number_same p c t = grind (arith)

-- the commits of one event
pub nodes_of_commit : (c : ℕ) (e : PlainEvent) → commit_id e ≡ Some c → nodes (e ∷ []) ≡ node_of c e ∷ []
nodes_of_commit c (Commit id mark branch author committer encoding comment parents ops aliases) is =
    ap (λ i. record { id = i; parents = parents; ops = ops } ∷ []) (same_Some id c is)
nodes_of_commit c (Blob id mark bytes) is = absurd (none-some c is)
nodes_of_commit c (Tag id name target tagger comment mark) is = absurd (none-some c is)
nodes_of_commit c (Reset id branch target) is = absurd (none-some c is)
nodes_of_commit c (Pass id line) is = absurd (none-some c is)

pub nodes_of_none : (e : PlainEvent) → commit_id e ≡ None → nodes (e ∷ []) ≡ []
nodes_of_none (Commit id mark branch author committer encoding comment parents ops aliases) none = absurd (none-some id (sym none))
nodes_of_none (Blob id mark bytes) none = refl
nodes_of_none (Tag id name target tagger comment mark) none = refl
nodes_of_none (Reset id branch target) none = refl
nodes_of_none (Pass id line) none = refl

-- a commit that is found at a place is the one that is looked for
same_commit : (events : List PlainEvent) → AreDistinct events → (d place j : ℕ) (e : PlainEvent) (c : ℕ) → place_of (any.Commit d) events ≡ Some place →
    slice_get events j ≡ Some e → commit_id e ≡ Some c → place ≡ j → d ≡ c
same_commit events once d place j e c there at is same =
    let x = commit_placed events d place there in
    let one : x.event ≡ e = same_Some x.event e (sym x.at ∙ ap (slice_get events) same ∙ at) in
    same_Some d c (sym x.own ∙ ap commit_id one ∙ is)

other_commit : (events : List PlainEvent) → AreDistinct events → (d place j : ℕ) (e : PlainEvent) (c : ℕ) → place_of (any.Commit d) events ≡ Some place →
    slice_get events j ≡ Some e → commit_id e ≡ Some c → (place ≡ j → ⊥) → (d == c) ≡ false
other_commit events once d place j e c there at is other =
    false_from_ne_true (d == c) (λ t. other (same_Some place j (sym there ∙ ap (λ q. place_of (any.Commit q) events) (number_same d c t) ∙ ap (λ id. place_of id events) (own_commit c e is) ∙ (place_found events j e at once).0)))

module _ (set : List AnyId) (events : List PlainEvent) (h : IsSound events) where
  once : AreDistinct events
  once = (sound_once events h).ids

  -- where a removed commit stands is there
  pub back_there : (c d : ℕ) (e : PlainEvent) → find_event (any.Commit c) events ≡ Some e → is_removed set c ≡ true →
      back_of set events c ≡ Some d → IsSome (find_event (any.Commit d) events)
  back_there c d e found gone to =
      let first : (o : Option ℕ) → o ≡ Some d → option_or o (forward_of set events c) ≡ Some d =
      λ o is. ap (λ x. option_or x (forward_of set events c)) is in
      sym (has_id_find events (any.Commit d))
      ∙ (target_stays set events push.Back lean.Back c d (has_id_find events (any.Commit c) ∙ ap is_some found)
      (cond-true (is_removed set c) (option_or (back_of set events c) (forward_of set events c)) (Some c) gone ∙ first (back_of set events c) to)).1

  -- ---- hanging

  abbrev hangs_on : ℕ → Node → Bool
  hangs_on c n = is_removed set n.id && is_it c (back_of set events n.id)

  hung_item : (k : ℕ) (e : PlainEvent) (c : ℕ) → slice_get events k ≡ Some e →
      hung set events (suc k) c ≡ hung set events k c ++ map (λ (n : Node). n.id) (filter (hangs_on c) (nodes (e ∷ [])))
  hung_item k e c at =
      ap (λ (es : List PlainEvent). map (λ (n : Node). n.id) (filter (hangs_on c) (nodes es))) (take_item events k e at)
      ∙ ap (λ (ns : List Node). map (λ (n : Node). n.id) (filter (hangs_on c) ns)) (nodes_append (take k events) (e ∷ []))
      ∙ ap (map (λ (n : Node). n.id)) (filter-append (hangs_on c) (nodes (take k events)) (nodes (e ∷ [])))
      ∙ map-append (λ (n : Node). n.id) (filter (hangs_on c) (nodes (take k events))) (filter (hangs_on c) (nodes (e ∷ [])))

  -- an event that doesn't hang on any commit
  pub hung_same : (k : ℕ) (e : PlainEvent) (rows : List (List ℕ)) → slice_get events k ≡ Some e →
      ((c own : ℕ) → commit_id e ≡ Some own → is_removed set own && is_it c (back_of set events own) ≡ false) →
      AreHungTo set events k rows → AreHungTo set events (suc k) rows
  hung_same k e rows at none a = record {
    count = a.count;
    entry = λ j d here c is. a.entry j d here c is ∙ sym (hung_item k e c at ∙ ap (λ xs. hung set events k c ++ xs) (nothing c (commit_id e) refl) ∙ append-nil (hung set events k c));
  }
    where
      nothing : (c : ℕ) (o : Option ℕ) → commit_id e ≡ o → map (λ (n : Node). n.id) (filter (hangs_on c) (nodes (e ∷ []))) ≡ []
      nothing c None is = ap (λ (ns : List Node). map (λ (n : Node). n.id) (filter (hangs_on c) ns)) (nodes_of_none e is)
      nothing c (Some own) is =
          ap (λ (ns : List Node). map (λ (n : Node). n.id) (filter (hangs_on c) ns)) (nodes_of_commit own e is)
          ∙ ap (λ b. map (λ (n : Node). n.id) (cond b (node_of own e ∷ []) [])) (none c own is)

  -- one that hangs on a commit
  pub hung_more : (k own d place : ℕ) (e : PlainEvent) (rows : List (List ℕ)) → slice_get events k ≡ Some e → commit_id e ≡ Some own →
      is_removed set own ≡ true → back_of set events own ≡ Some d → place_of (any.Commit d) events ≡ Some place → place < length events →
      AreHungTo set events k rows → AreHungTo set events (suc k) (set_at rows place (get_or rows place [] ++ own ∷ []))
  hung_more k own d place e rows at own_is gone to there low a = record { count = length-set rows place (get_or rows place [] ++ own ∷ []) ∙ a.count; entry = more }
    where
      new : (c : ℕ) → hung set events (suc k) c ≡ hung set events k c ++ cond (d == c) (own ∷ []) []
      new c =
          hung_item k e c at
          ∙ ap (λ (ns : List Node). hung set events k c ++ map (λ (n : Node). n.id) (filter (hangs_on c) ns)) (nodes_of_commit own e own_is)
          ∙ ap (λ b. hung set events k c ++ map (λ (n : Node). n.id) (cond b (node_of own e ∷ []) [])) (ap (λ b. b && is_it c (back_of set events own)) gone ∙ ap (is_it c) to)
          ∙ ap (λ xs. hung set events k c ++ xs) (one (d == c))
        where
          one : (b : Bool) → map (λ (n : Node). n.id) (cond b (node_of own e ∷ []) []) ≡ cond b (own ∷ []) []
          one true = refl
          one false = refl

      more : (j : ℕ) (x : PlainEvent) → slice_get events j ≡ Some x → (c : ℕ) → commit_id x ≡ Some c →
          get_or (set_at rows place (get_or rows place [] ++ own ∷ [])) j [] ≡ hung set events (suc k) c
      more j x here c is = elim (cases_eq place j) [
        | inl same ↦
            let eq = same_commit events once d place j x c there here is same in
            let test : (d == c) ≡ true = ap (λ q. q == c) eq ∙ same_number c in
            ap (λ i. get_or (set_at rows place (get_or rows place [] ++ own ∷ [])) i []) (sym same)
            ∙ get_or-set_same rows place (get_or rows place [] ++ own ∷ []) [] (let count = a.count in omega arith)
            ∙ ap (λ i. get_or rows i [] ++ own ∷ []) same
            ∙ ap (λ xs. xs ++ own ∷ []) (a.entry j x here c is)
            ∙ sym (new c ∙ ap (λ b. hung set events k c ++ cond b (own ∷ []) []) test)
        | inr other ↦
            let test = other_commit events once d place j x c there here is other in
            get_or-set_other rows place j (get_or rows place [] ++ own ∷ []) [] (λ e. other (sym e)) ∙ a.entry j x here c is
            ∙ sym (new c ∙ ap (λ b. hung set events k c ++ cond b (own ∷ []) []) test ∙ append-nil (hung set events k c))
      ]

-- ---- children

module _ (events : List PlainEvent) (h : IsSound events) where
  distinct : AreDistinct events
  distinct = (sound_once events h).ids

  children_item : (k : ℕ) (e : PlainEvent) (c : ℕ) → slice_get events k ≡ Some e →
      first_children (take (suc k) events) c ≡ first_children (take k events) c + length (filter (λ (n : Node). is_first c n.parents) (nodes (e ∷ [])))
  children_item k e c at =
      ap (λ (es : List PlainEvent). length (filter (λ (n : Node). is_first c n.parents) (nodes es))) (take_item events k e at)
      ∙ ap (λ (ns : List Node). length (filter (λ (n : Node). is_first c n.parents) ns)) (nodes_append (take k events) (e ∷ []))
      ∙ ap length (filter-append (λ (n : Node). is_first c n.parents) (nodes (take k events)) (nodes (e ∷ [])))
      ∙ length-append (filter (λ (n : Node). is_first c n.parents) (nodes (take k events))) (filter (λ (n : Node). is_first c n.parents) (nodes (e ∷ [])))

  no_child : (ps : List ℕ) (c : ℕ) → slice_get ps 0 ≡ None → is_first c ps ≡ false
  no_child [] c none = refl
  no_child (p ∷ ps) c none = absurd (none-some p (sym none))

  child_of : (ps : List ℕ) (p c : ℕ) → slice_get ps 0 ≡ Some p → is_first c ps ≡ (p == c)
  child_of [] p c first = absurd (none-some p first)
  child_of (q ∷ ps) p c first = ap (λ x. x == c) (same_Some q p first)

  -- an event that has no first parent
  pub counted_same : (k : ℕ) (e : PlainEvent) (counts : List ℕ) → slice_get events k ≡ Some e → slice_get (event_parents e) 0 ≡ None →
      AreCountedTo events k counts → AreCountedTo events (suc k) counts
  counted_same k e counts at none a = record {
    count = a.count;
    entry = λ j d here c is. a.entry j d here c is ∙ sym (children_item k e c at ∙ ap (λ n. first_children (take k events) c + n) (nothing c (commit_id e) refl) ∙ (let z : first_children (take k events) c + 0 ≡ first_children (take k events) c = omega arith in z));
  }
    where
      nothing : (c : ℕ) (o : Option ℕ) → commit_id e ≡ o → length (filter (λ (n : Node). is_first c n.parents) (nodes (e ∷ []))) ≡ 0
      nothing c None is = ap (λ (ns : List Node). length (filter (λ (n : Node). is_first c n.parents) ns)) (nodes_of_none e is)
      nothing c (Some own) is =
          ap (λ (ns : List Node). length (filter (λ (n : Node). is_first c n.parents) ns)) (nodes_of_commit own e is)
          ∙ ap (λ b. length (cond b (node_of own e ∷ []) [])) (no_child (event_parents e) c none)

  -- one more child
  pub counted_more : (k own p place : ℕ) (e : PlainEvent) (counts : List ℕ) → slice_get events k ≡ Some e → commit_id e ≡ Some own →
      slice_get (event_parents e) 0 ≡ Some p → place_of (any.Commit p) events ≡ Some place → place < length events →
      AreCountedTo events k counts → AreCountedTo events (suc k) (set_at counts place (get_or counts place 0 + 1))
  counted_more k own p place e counts at own_is first there low a = record { count = length-set counts place (get_or counts place 0 + 1) ∙ a.count; entry = more }
    where
      new : (c : ℕ) → first_children (take (suc k) events) c ≡ first_children (take k events) c + cond (p == c) 1 0
      new c =
          children_item k e c at
          ∙ ap (λ (ns : List Node). first_children (take k events) c + length (filter (λ (n : Node). is_first c n.parents) ns)) (nodes_of_commit own e own_is)
          ∙ ap (λ b. first_children (take k events) c + length (cond b (node_of own e ∷ []) [])) (child_of (event_parents e) p c first)
          ∙ ap (λ n. first_children (take k events) c + n) (one (p == c))
        where
          one : (b : Bool) → length (cond b (node_of own e ∷ []) []) ≡ cond b 1 0
          one true = refl
          one false = refl

      more : (j : ℕ) (x : PlainEvent) → slice_get events j ≡ Some x → (c : ℕ) → commit_id x ≡ Some c →
          get_or (set_at counts place (get_or counts place 0 + 1)) j 0 ≡ first_children (take (suc k) events) c
      more j x here c is = elim (cases_eq place j) [
        | inl same ↦
            let eq = same_commit events distinct p place j x c there here is same in
            let test : (p == c) ≡ true = ap (λ q. q == c) eq ∙ same_number c in
            ap (λ i. get_or (set_at counts place (get_or counts place 0 + 1)) i 0) (sym same)
            ∙ get_or-set_same counts place (get_or counts place 0 + 1) 0 (let count = a.count in omega arith)
            ∙ ap (λ i. get_or counts i 0 + 1) same
            ∙ ap (λ n. n + 1) (a.entry j x here c is)
            ∙ sym (new c ∙ ap (λ b. first_children (take k events) c + cond b 1 0) test)
        | inr other ↦
            let test = other_commit events distinct p place j x c there here is other in
            get_or-set_other counts place j (get_or counts place 0 + 1) 0 (λ e. other (sym e)) ∙ a.entry j x here c is
            ∙ sym (new c ∙ ap (λ b. first_children (take k events) c + cond b 1 0) test ∙ (let z : first_children (take k events) c + 0 ≡ first_children (take k events) c = omega arith in z))
      ]

  -- there are no more of them than events
  pub few_children : (es : List PlainEvent) (c : ℕ) → first_children es c ≤ length es
  few_children [] c = omega arith
  few_children (Commit id mark branch author committer encoding comment parents ops aliases ∷ es) c = by (is_first c parents) (few_children es c)
    where
      by : (b : Bool) → first_children es c ≤ length es → length (cond b (record { id = id; parents = parents; ops = ops } ∷ filter (λ (n : Node). is_first c n.parents) (nodes es)) (filter (λ (n : Node). is_first c n.parents) (nodes es))) ≤ suc (length es)
      by true h = omega arith
      by false h = omega arith
  few_children (Blob id mark bytes ∷ es) c = let rest = few_children es c in omega arith
  few_children (Tag id name target tagger comment mark ∷ es) c = let rest = few_children es c in omega arith
  few_children (Reset id branch target ∷ es) c = let rest = few_children es c in omega arith
  few_children (Pass id line ∷ es) c = let rest = few_children es c in omega arith

-- ---- faults of commits that can't be pushed back

pub take_short : (k : ℕ) (es : List PlainEvent) → length (take k es) ≤ k
take_short zero [] = omega arith
take_short zero (e ∷ es) = omega arith
take_short (suc k) [] = omega arith
take_short (suc k) (e ∷ es) = let rest = take_short k es in omega arith

pub no_parents : (e : PlainEvent) → commit_id e ≡ None → slice_get (event_parents e) 0 ≡ None
no_parents (Commit id mark branch author committer encoding comment parents ops aliases) none = absurd (none-some id (sym none))
no_parents (Blob id mark bytes) none = refl
no_parents (Tag id name target tagger comment mark) none = refl
no_parents (Reset id branch target) none = refl
no_parents (Pass id line) none = refl

module _ (set : List AnyId) (events : List PlainEvent) where
  pub is_fork : (mark p : ℕ) (ps : List ℕ) → slice_get ps 0 ≡ Some p → 1 < first_children events p → back_fault set events mark ps ≡ Some (PushbackFork mark)
  is_fork mark p [] first many = absurd (none-some p first)
  is_fork mark p (q ∷ ps) first many =
      cond-true (nat_lt 1 (first_children events q)) (Some (PushbackFork mark)) None
      (ap (λ c. nat_lt 1 (first_children events c)) (same_Some q p first) ∙ lt-ltb 1 (first_children events p) many)

  pub no_fork : (mark p : ℕ) (ps : List ℕ) → slice_get ps 0 ≡ Some p → first_children events p ≤ 1 → back_fault set events mark ps ≡ None
  no_fork mark p [] first few = absurd (none-some p first)
  no_fork mark p (q ∷ ps) first few =
      cond-false (nat_lt 1 (first_children events q)) (Some (PushbackFork mark)) None
      (ap (λ c. nat_lt 1 (first_children events c)) (same_Some q p first) ∙ not_many 1 (first_children events p) few)

  pub fault_step : (e : PlainEvent) (es : List PlainEvent) → first_back_fault set events (e ∷ es) ≡ option_or (own_fault set events e) (first_back_fault set events es)
  fault_step (Commit id mark branch author committer encoding comment parents ops aliases) es = refl
  fault_step (Blob id mark bytes) es = refl
  fault_step (Tag id name target tagger comment mark) es = refl
  fault_step (Reset id branch target) es = refl
  fault_step (Pass id line) es = refl

  -- the first event of what is left has a fault, or not
  pub fault_here : (k : ℕ) (e : PlainEvent) (o : Option Fault) → slice_get events k ≡ Some e → own_fault set events e ≡ o → is_some o ≡ true →
      o ≡ first_back_fault set events (drop k events)
  fault_here k e None at own some = absurd (true≢false (sym some))
  fault_here k e (Some why) at own some =
      sym (ap (first_back_fault set events) (drop_item events k e at) ∙ fault_step e (drop (suc k) events)
      ∙ ap (λ o. option_or o (first_back_fault set events (drop (suc k) events))) own)

  pub fault_later : (k : ℕ) (e : PlainEvent) (o : Option Fault) → slice_get events k ≡ Some e → own_fault set events e ≡ o → is_some o ≡ false →
      first_back_fault set events (drop k events) ≡ first_back_fault set events (drop (suc k) events)
  fault_later k e None at own none =
      ap (first_back_fault set events) (drop_item events k e at) ∙ fault_step e (drop (suc k) events)
      ∙ ap (λ o. option_or o (first_back_fault set events (drop (suc k) events))) own
  fault_later k e (Some why) at own none = absurd (true≢false none)
