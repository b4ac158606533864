-- From the first event of the whole list that can be taken to the first that is ready among those that are left.
use Rattle.std.proofs.Common.{◌≡◌, ◌∙◌, ℕ, zero, suc, Bool, true, false, cond, not, ◌||◌, inl, inr, List, [], ◌∷◌, ◌++◌, Option, Some, None, Ok, Err, refl, sym, ap, subst, length, append_assoc, append-nil}
use Rattle.std.proofs.Math.Bool.{or-true}
use Rattle.std.proofs.lemmas.Bool.{cases_Bool, true≢false}
use Rattle.std.proofs.lemmas.Option.{none-some, same_Some}
use Rattle.std.proofs.lemmas.List.Sorted.{IsPermutation-cons, IsPermutation-map, IsPermutation-middle, IsPermutation-pop_more, IsPermutation-refl, IsPermutation-trans}
use Rattle.std.specs.List.Sorted.{IsPermutation}
use Rattle.std.specs.Prelude.{IsSome, MatchOption, find, map, option_map, option_to_list, slice_get, is_some}
use Rattle.plain_model.specs.declared.id.AnyId.{AnyId}
use Rattle.plain_model.specs.declared.event.PlainEvent.{PlainEvent}
use Rattle.plain_model.specs.Lookups.{find_event, id_of, is_listed, referents_of, same_id}
use Rattle.plain_model.specs.Soundness.{has_id}
use Rattle.event_arena.specs.Changes.{in_order, without_all}
use Rattle.history_laws.specs.Once.{AreDistinct}
use Rattle.history_laws.proofs.Ids.{absent_cons, find_id, has_id_cons, same_id_comm, same_id_refl}
use Rattle.graph_walk.specs.Taking.{are_taken, can_be_taken}
use Rattle.graph_walk.specs.Outcome.{GoesOn, IsCircular}
use Rattle.edit_laws.specs.Settling.{first_commit_mark, first_ready, is_ready, settle, settle_on}
use Rattle.std.proofs.lemmas.List.Folds.{list_any-append}
use Rattle.std.proofs.Math.Bool.{or-false}
use Rattle.graph_walk.proofs.SlotLemmas.{all_same}
use Rattle.graph_walk.proofs.PlaceLemmas.{place_found}

-- the taken events and their ids
abbrev pub Follows : List PlainEvent → List AnyId → Type 0
Follows taken order = (id : AnyId) → has_id taken id ≡ is_listed id order

-- events that are found by ids have these ids
pub there_in_order : (events : List PlainEvent) (order : List AnyId) →
    ((id : AnyId) → is_listed id order ≡ true → is_some (find_event id events) ≡ true) →
    Follows (in_order order events) order
there_in_order events [] h id = refl
there_in_order events (x ∷ order) h id =
    by (find_event x events) refl (h x (rw (same_id_refl x) refl))
    (there_in_order events order (λ i t. h i (rw t (or-true (same_id i x)))) id)
  where
    by : (o : Option PlainEvent) → find_event x events ≡ o → is_some o ≡ true →
        has_id (in_order order events) id ≡ is_listed id order →
        has_id (option_to_list o ++ in_order order events) id ≡ same_id id x || is_listed id order
    by None is some later = absurd (true≢false (sym some))
    by (Some e) is some later =
        has_id_cons e (in_order order events) id
        ∙ ap (λ i. same_id id i || has_id (in_order order events) id) (sym (find_id x events e is))
        ∙ ap (λ b. same_id id x || b) later

ready_taken : (taken : List PlainEvent) (order : List AnyId) → Follows taken order → (e : PlainEvent) →
    is_ready taken e ≡ are_taken order (referents_of e)
ready_taken taken order follows e = all_same (has_id taken) (λ id. is_listed id order) follows (referents_of e)

-- without one more id that none of them has
without_absent : (order : List AnyId) (own : AnyId) (es : List PlainEvent) → find_event own es ≡ None →
    without_all (order ++ own ∷ []) es ≡ without_all order es
without_absent order own [] h = refl
without_absent order own (x ∷ es) h =
    let rest = absent_cons own x es h in
    let same : is_listed (id_of x) (order ++ own ∷ []) ≡ is_listed (id_of x) order =
    list_any-append (same_id (id_of x)) order (own ∷ []) ∙ ap (λ b. is_listed (id_of x) order || (b || false)) (same_id_comm (id_of x) own ∙ rest.0) ∙ or-false (is_listed (id_of x) order) in
    rw same (ap (λ ys. cond (not (is_listed (id_of x) order)) (x ∷ ys) ys) (without_absent order own es rest.1))

-- what is found among events differs from what isn't
find_apart : (test : PlainEvent → Bool) (own : AnyId) (es : List PlainEvent) (e : PlainEvent) → find test es ≡ Some e →
    find_event own es ≡ None → same_id own (id_of e) ≡ false
find_apart test own [] e h none = absurd (none-some e h)
find_apart test own (x ∷ es) e h none =
    let rest = absent_cons own x es none in
    elim (cases_Bool (test x)) [
      | inl it ↦ subst (λ y. same_id own (id_of y) ≡ false) (same_Some x e (rw it at h)) rest.0
      | inr no_it ↦ find_apart test own es e (rw no_it at h) rest.1
    ]

-- the first that can be taken is the first that is ready among those that are left
pub first_taken_next : (taken : List PlainEvent) (order : List AnyId) → Follows taken order →
    (es : List PlainEvent) (e : PlainEvent) → AreDistinct es → find (can_be_taken order) es ≡ Some e →
    first_ready taken (without_all order es) ≡ Some (e, without_all (order ++ id_of e ∷ []) es)
first_taken_next taken order follows [] e once h = absurd (none-some e h)
first_taken_next taken order follows (x ∷ es) e once h = elim (cases_Bool (is_listed (id_of x) order)) [
  | inl it ↦
      let listed : is_listed (id_of x) (order ++ id_of e ∷ []) ≡ true = list_any-append (same_id (id_of x)) order (id_of e ∷ []) ∙ rw it refl in
      rw (it, listed) (first_taken_next taken order follows es e once.1 (rw it at h))
  | inr no_it ↦ elim (cases_Bool (are_taken order (referents_of x))) [
    | inl all ↦
        let is : x ≡ e = same_Some x e (rw (no_it, all) at h) in
        let listed : is_listed (id_of x) (order ++ id_of x ∷ []) ≡ true = list_any-append (same_id (id_of x)) order (id_of x ∷ []) ∙ rw (no_it, same_id_refl (id_of x)) refl in
        let ready : is_ready taken x ≡ true = ready_taken taken order follows x ∙ all in
        subst (λ y. first_ready taken (without_all order (x ∷ es)) ≡ Some (y, without_all (order ++ id_of y ∷ []) (x ∷ es))) is
        (rw (no_it, ready, listed, without_absent order (id_of x) es once.0) refl)
    | inr bare ↦
        let later : find (can_be_taken order) es ≡ Some e = rw (no_it, bare) at h in
        let apart = find_apart (can_be_taken order) (id_of x) es e later once.0 in
        let unlisted : is_listed (id_of x) (order ++ id_of e ∷ []) ≡ false = list_any-append (same_id (id_of x)) order (id_of e ∷ []) ∙ rw (no_it, apart) refl in
        let unready : is_ready taken x ≡ false = ready_taken taken order follows x ∙ bare in
        rw (no_it, unready, unlisted, first_taken_next taken order follows es e once.1 later) refl
  ]
]

-- where none can be taken none is ready
pub none_ready : (taken : List PlainEvent) (order : List AnyId) → Follows taken order → (es : List PlainEvent) →
    find (can_be_taken order) es ≡ None → first_ready taken (without_all order es) ≡ None
none_ready taken order follows [] h = refl
none_ready taken order follows (x ∷ es) h = elim (cases_Bool (is_listed (id_of x) order)) [
  | inl it ↦ rw it (none_ready taken order follows es (rw it at h))
  | inr no_it ↦ elim (cases_Bool (are_taken order (referents_of x))) [
    | inl all ↦ absurd (none-some x (sym (rw (no_it, all) at h)))
    | inr bare ↦
        let later : find (can_be_taken order) es ≡ None = rw (no_it, bare) at h in
        let unready : is_ready taken x ≡ false = ready_taken taken order follows x ∙ bare in
        rw (no_it, unready, none_ready taken order follows es later) refl
  ]
]

-- ---- settling goes on

settle_more : (n : ℕ) (taken left : List PlainEvent) (e : PlainEvent) (others : List PlainEvent) →
    first_ready taken left ≡ Some (e, others) → settle_on (suc n) taken left ≡ settle_on n (taken ++ e ∷ []) others
settle_more n taken [] e others h = absurd (none-some (e, others) h)
settle_more n taken (x ∷ left) e others h = rw (h, settle_on) refl

settle_end : (n : ℕ) (taken left : List PlainEvent) → first_ready taken left ≡ None →
    settle_on n taken left ≡ settle_on zero taken left
settle_end n taken [] h = all n
  where
    all : (n : ℕ) → settle_on n taken [] ≡ Ok taken
    all zero = refl
    all (suc n) = refl
settle_end zero taken (x ∷ left) h = refl
settle_end (suc n) taken (x ∷ left) h = rw (h, settle_on) refl

-- the first that is ready and the others are all of them
ready_parts : (taken left : List PlainEvent) (e : PlainEvent) (others : List PlainEvent) →
    first_ready taken left ≡ Some (e, others) → (length left ≡ suc (length others)) × IsPermutation left (e ∷ others)
ready_parts taken [] e others h = absurd (none-some (e, others) h)
ready_parts taken (x ∷ left) e others h = elim (cases_Bool (is_ready taken x)) [
  | inl it ↦
      let is : Some (x, left) ≡ Some (e, others) = rw it at h in
      let both = same_Some (x, left) (e, others) is in
      let head : x ≡ e = ap (λ (r : PlainEvent × List PlainEvent). r.0) both in
      let tail : left ≡ others = ap (λ (r : PlainEvent × List PlainEvent). r.1) both in
      (ap (λ ys. suc (length ys)) tail, subst (λ (r : PlainEvent × List PlainEvent). IsPermutation (x ∷ left) (r.0 ∷ r.1)) both (IsPermutation-refl (x ∷ left)))
  | inr no_it ↦ later (first_ready taken left) (λ r is. ready_parts taken left r.0 r.1 is) (rw no_it at h)
]
  where
    later : (o : Option (PlainEvent × List PlainEvent)) →
        ((r : PlainEvent × List PlainEvent) → o ≡ Some r → (length left ≡ suc (length r.1)) × IsPermutation left (r.0 ∷ r.1)) →
        option_map {U = PlainEvent × List PlainEvent} (λ r. (r.0, x ∷ r.1)) o ≡ Some (e, others) →
        (length (x ∷ left) ≡ suc (length others)) × IsPermutation (x ∷ left) (e ∷ others)
    later None parts h = absurd (none-some (e, others) h)
    later (Some r) parts h =
        let more = parts r refl in
        let both = same_Some (r.0, x ∷ r.1) (e, others) h in
        subst (λ (q : PlainEvent × List PlainEvent). (length (x ∷ left) ≡ suc (length q.1)) × IsPermutation (x ∷ left) (q.0 ∷ q.1)) both (
          ap suc more.0,
          IsPermutation-trans (x ∷ left) (x ∷ r.0 ∷ r.1) (r.0 ∷ x ∷ r.1) (IsPermutation-cons x left (r.0 ∷ r.1) more.1) (IsPermutation-middle (x ∷ []) r.0 r.1),
        )

in_order_push : (events : List PlainEvent) (order : List AnyId) (e : PlainEvent) →
    find_event (id_of e) events ≡ Some e → in_order (order ++ id_of e ∷ []) events ≡ in_order order events ++ e ∷ []
in_order_push events [] e h = rw h refl
in_order_push events (x ∷ order) e h =
    ap (λ ys. option_to_list (find_event x events) ++ ys) (in_order_push events order e h)
    ∙ sym (append_assoc (option_to_list (find_event x events)) (in_order order events) (e ∷ []))

module _ (events : List PlainEvent) (once : AreDistinct events) (order : List AnyId) (known : (id : AnyId) → is_listed id order ≡ true → is_some (find_event id events) ≡ true) where
  pub goes_more : (k : ℕ) (e : PlainEvent) → slice_get events k ≡ Some e → find (can_be_taken order) events ≡ Some e →
      GoesOn events (length (without_all order events)) order →
      GoesOn events (length (without_all (order ++ id_of e ∷ []) events)) (order ++ id_of e ∷ [])
  goes_more k e at earliest g =
      let first = first_taken_next (in_order order events) order (there_in_order events order known) events e once earliest in
      let parts = ready_parts (in_order order events) (without_all order events) e (without_all (order ++ id_of e ∷ []) events) first in
      record {
        goes =
            ap (λ ts. settle_on (length (without_all (order ++ id_of e ∷ []) events)) ts (without_all (order ++ id_of e ∷ []) events)) (in_order_push events order e (place_found events k e at once).1)
            ∙ sym (settle_more (length (without_all (order ++ id_of e ∷ []) events)) (in_order order events) (without_all order events) e (without_all (order ++ id_of e ∷ []) events) first)
            ∙ ap (λ n. settle_on n (in_order order events) (without_all order events)) (sym parts.0) ∙ g.goes;
        whole =
            IsPermutation-pop_more (map id_of events) order (map id_of (without_all order events)) (map id_of (without_all (order ++ id_of e ∷ []) events)) (id_of e) g.whole
            (IsPermutation-map id_of (without_all order events) (e ∷ without_all (order ++ id_of e ∷ []) events) parts.1);
      }

  pub fewer_left : (e : PlainEvent) → find (can_be_taken order) events ≡ Some e →
      length (without_all order events) ≡ suc (length (without_all (order ++ id_of e ∷ []) events))
  fewer_left e earliest =
      let first = first_taken_next (in_order order events) order (there_in_order events order known) events e once earliest in
      (ready_parts (in_order order events) (without_all order events) e (without_all (order ++ id_of e ∷ []) events) first).0

  pub at_end : find (can_be_taken order) events ≡ None → GoesOn events (length (without_all order events)) order →
      GoesOn events zero order
  at_end none g =
      let nothing = none_ready (in_order order events) order (there_in_order events order known) events none in
      record { goes = sym (settle_end (length (without_all order events)) (in_order order events) (without_all order events) nothing) ∙ g.goes; whole = g.whole }

-- at first nothing is taken
pub goes_first : (events : List PlainEvent) → GoesOn events (length (without_all [] events)) []
goes_first events = record {
  goes = ap (λ es. settle_on (length es) [] es) (none_listed events);
  whole = subst (IsPermutation (map id_of events)) (ap (map id_of) (sym (none_listed events))) (IsPermutation-refl (map id_of events));
}
  where
    none_listed : (es : List PlainEvent) → without_all [] es ≡ es
    none_listed [] = refl
    none_listed (x ∷ es) = ap (λ ys. x ∷ ys) (none_listed es)

-- ---- the end

-- either all are taken, or the list runs in a circle
pub end_cases : (events : List PlainEvent) (order : List AnyId) →
    ((left : List PlainEvent) → settle events ≡ Err left → IsSome (first_commit_mark left)) →
    GoesOn events zero order →
    MatchOption (first_commit_mark (without_all order events)) ((settle events ≡ Ok (in_order order events)) × IsPermutation (map id_of events) order) (IsCircular events)
end_cases events order some g = by (without_all order events) refl
  where
    by : (left : List PlainEvent) → without_all order events ≡ left →
        MatchOption (first_commit_mark (without_all order events)) ((settle events ≡ Ok (in_order order events)) × IsPermutation (map id_of events) order) (IsCircular events)
    by [] is = rw is (
      sym g.goes ∙ rw is refl,
      subst (IsPermutation (map id_of events)) (ap (λ (es : List PlainEvent). order ++ map id_of es) is ∙ append-nil order) g.whole,
    )
    by (x ∷ left) is = rw is (one (first_commit_mark (x ∷ left)) refl (some (x ∷ left) never))
      where
        never : settle events ≡ Err (x ∷ left)
        never = sym g.goes ∙ rw is refl

        one : (o : Option ℕ) → first_commit_mark (x ∷ left) ≡ o → IsSome o →
            MatchOption o ((settle events ≡ Ok (in_order order events)) × IsPermutation (map id_of events) order) (IsCircular events)
        one None at h = absurd (true≢false (sym h))
        one (Some mark) at h = record { left = x ∷ left; never = never; first = at }
