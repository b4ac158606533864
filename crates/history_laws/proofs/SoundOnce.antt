-- In a sound history ids, marks and parents occur once, and what isn't there has no children.
use Rattle.std.proofs.Common.{◌≡◌, ◌∙◌, ℕ, Bool, true, false, cond, not, ◌||◌, ◌&&◌, inl, inr, List, [], ◌∷◌, ◌++◌, Option, Some, None, refl, sym, ap, eqb, arith, append_assoc}
use Rattle.std.proofs.lemmas.Bool.{cases_Bool, eqb-true, true≢false}
use Rattle.std.proofs.lemmas.Bool.Decides.{nat_tests}
use Rattle.std.proofs.lemmas.Option.{none-some}
use Rattle.std.specs.List.{AllByRecursion, list_any}
use Rattle.std.specs.Map.{lookup}
use Rattle.std.specs.Prelude.{is_some, map, option_to_list}
use Rattle.plain_model.specs.declared.id.AnyId.{AnyId}
use Rattle.plain_model.specs.declared.id.AnyId.TheVariants as any
use Rattle.plain_model.specs.declared.event.PlainEvent.{PlainEvent}
use Rattle.plain_model.specs.declared.event.PlainEvent.TheVariants as plain
use Rattle.plain_model.specs.Lookups.{children_of, event_marks, event_parents, find_event, id_of, marks_of, own_child, own_marks, same_id}
use Rattle.plain_model.specs.Soundness.{AreSoundAfter, IsCommitOf, IsSound, IsSoundEvent, are_distinct, has_id}
use Rattle.plain_model.specs.Streams.{is_among, is_marked}
use Rattle.history_laws.proofs.Ids.{has_id_cons, has_id_append, event_new, same_id_refl, same_id_true, is_marked_append, absent_cons, cons_absent}
use Rattle.plain_model.proofs.Numbers.{eqb_turned}
use Rattle.std.proofs.Math.Bool.{or-false, or-true}
use Rattle.history_laws.specs.Once.{AreDistinct, AreMarkedOnce, AreParentsOnce, OccursOnce}

self : (n : ℕ) → eqb n n ≡ true
self n = grind (arith, nat_tests)

-- ---- ids

pub has_id_find : (es : List PlainEvent) (id : AnyId) → has_id es id ≡ is_some (find_event id es)
has_id_find [] id = refl
has_id_find (e ∷ es) id = has_id_cons e es id ∙ ap (λ b. same_id id (id_of e) || b) (has_id_find es id) ∙ either (same_id id (id_of e)) (find_event id es)
  where
    either : (b : Bool) (o : Option PlainEvent) → b || is_some o ≡ is_some (cond b (Some e) o)
    either true o = refl
    either false o = refl

-- what is earlier isn't later
apart : (earlier events : List PlainEvent) → AreSoundAfter earlier events → (id : AnyId) → has_id earlier id ≡ true → find_event id events ≡ None
apart earlier [] h id there = refl
apart earlier (e ∷ es) h id there = elim (cases_Bool (same_id id (id_of e))) [
  | inl it ↦ absurd (true≢false (sym there ∙ ap (has_id earlier) (same_id_true id (id_of e) it) ∙ event_new earlier e h.0))
  | inr no_it ↦ cons_absent id e es no_it (apart (earlier ++ e ∷ []) es h.1 id (has_id_append earlier (e ∷ []) id ∙ ap (λ b. b || has_id (e ∷ []) id) there))
]

distinct : (earlier events : List PlainEvent) → AreSoundAfter earlier events → AreDistinct events
distinct earlier [] h = tt
distinct earlier (e ∷ es) h = (apart (earlier ++ e ∷ []) es h.1 (id_of e) own, distinct (earlier ++ e ∷ []) es h.1)
  where
    own : has_id (earlier ++ e ∷ []) (id_of e) ≡ true
    own = has_id_append earlier (e ∷ []) (id_of e)
        ∙ ap (λ b. has_id earlier (id_of e) || b) (has_id_cons e [] (id_of e) ∙ ap (λ b. b || false) (same_id_refl (id_of e)))
        ∙ or-true (has_id earlier (id_of e))

-- ---- marks

lookup_none : (xs ys : List (ℕ × AnyId)) (m : ℕ) → lookup (λ n. eqb m n) xs ≡ None → lookup (λ n. eqb m n) ys ≡ None → lookup (λ n. eqb m n) (xs ++ ys) ≡ None
lookup_none [] ys m h i = i
lookup_none (x ∷ xs) ys m h i = elim (cases_Bool (eqb m x.0)) [
  | inl it ↦ absurd (none-some x.1 (sym h ∙ rw it refl))
  | inr no_it ↦ rw no_it (lookup_none xs ys m (rw no_it at h) i)
]

-- the marks of an event are new
new_marks : (earlier : List PlainEvent) (e : PlainEvent) → IsSoundEvent earlier e → AllByRecursion (λ m. is_marked earlier m ≡ false) (event_marks e)
new_marks earlier (plain.Blob id mark bytes) h = (h.1, tt)
new_marks earlier (plain.Commit id mark branch author committer encoding comment parents ops aliases) h = (h.1, h.10)
new_marks earlier (plain.Tag id name target tagger comment None) h = tt
new_marks earlier (plain.Tag id name target tagger comment (Some mark)) h = (h.4, tt)
new_marks earlier (plain.Reset id branch target) h = tt
new_marks earlier (plain.Pass id line) h = tt

-- and distinct
distinct_marks : (earlier : List PlainEvent) (e : PlainEvent) → IsSoundEvent earlier e → are_distinct (event_marks e) ≡ true
distinct_marks earlier (plain.Blob id mark bytes) h = refl
distinct_marks earlier (plain.Commit id mark branch author committer encoding comment parents ops aliases) h = h.11
distinct_marks earlier (plain.Tag id name target tagger comment None) h = refl
distinct_marks earlier (plain.Tag id name target tagger comment (Some mark)) h = refl
distinct_marks earlier (plain.Reset id branch target) h = refl
distinct_marks earlier (plain.Pass id line) h = refl

other_marks : (earlier : List PlainEvent) (marks : List ℕ) (m : ℕ) (id : AnyId) → AllByRecursion (λ n. is_marked earlier n ≡ false) marks → is_marked earlier m ≡ true →
    lookup (λ n. eqb m n) (map (λ n. (n, id)) marks) ≡ None
other_marks earlier [] m id new there = refl
other_marks earlier (mark ∷ marks) m id new there = elim (cases_Bool (eqb m mark)) [
  | inl it ↦ absurd (true≢false (sym there ∙ ap (is_marked earlier) (eqb-true m mark it) ∙ new.0))
  | inr no_it ↦ rw no_it (other_marks earlier marks m id new.1 there)
]

-- a mark that is earlier isn't later
unmarked : (earlier events : List PlainEvent) → AreSoundAfter earlier events → (m : ℕ) → is_marked earlier m ≡ true → lookup (λ n. eqb m n) (marks_of events) ≡ None
unmarked earlier [] h m there = refl
unmarked earlier (e ∷ es) h m there =
    lookup_none (own_marks e) (marks_of es) m (other_marks earlier (event_marks e) m (id_of e) (new_marks earlier e h.0) there)
    (unmarked (earlier ++ e ∷ []) es h.1 m (is_marked_append earlier (e ∷ []) m ∙ ap (λ b. b || is_marked (e ∷ []) m) there))

-- the marks of one event
pub is_marked_own : (e : PlainEvent) (m : ℕ) → is_marked (e ∷ []) m ≡ is_among (event_marks e) m
is_marked_own (plain.Blob id mark bytes) m = refl
is_marked_own (plain.Commit id mark branch author committer encoding comment parents ops aliases) m = ap (λ b. eqb mark m || b) (or-false (is_among aliases m))
is_marked_own (plain.Tag id name target tagger comment mark) m = or-false (is_among (option_to_list mark) m)
is_marked_own (plain.Reset id branch target) m = refl
is_marked_own (plain.Pass id line) m = refl

own_marked : (earlier : List PlainEvent) (e : PlainEvent) (m : ℕ) → is_among (event_marks e) m ≡ true → is_marked (earlier ++ e ∷ []) m ≡ true
own_marked earlier e m own = is_marked_append earlier (e ∷ []) m ∙ ap (λ b. is_marked earlier m || b) (is_marked_own e m ∙ own) ∙ or-true (is_marked earlier m)

-- marks of one event occur once before others, of which they are none
marked_append : (marks : List ℕ) (id : AnyId) (others : List (ℕ × AnyId)) → are_distinct marks ≡ true → ((m : ℕ) → is_among marks m ≡ true → lookup (λ n. eqb m n) others ≡ None) →
    AreMarkedOnce others → AreMarkedOnce (map (λ m. (m, id)) marks ++ others)
marked_append [] id others distinct apart once = once
marked_append (m ∷ marks) id others distinct apart once =
    let parts = both (is_among marks m) (are_distinct marks) distinct in (
      lookup_none (map (λ n. (n, id)) marks) others m (absent marks parts.0) (apart m (ap (λ b. b || is_among marks m) (self m))),
      marked_append marks id others parts.1 (λ n among. apart n (ap (λ b. eqb m n || b) among ∙ or-true (eqb m n))) once,
    )
  where
    both : (a b : Bool) → not a && b ≡ true → (a ≡ false) × (b ≡ true)
    both true b h = absurd (true≢false (sym h))
    both false b h = (refl, h)

    absent : (ms : List ℕ) → is_among ms m ≡ false → lookup (λ n. eqb m n) (map (λ n. (n, id)) ms) ≡ None
    absent [] h = refl
    absent (n ∷ ms) h = elim (cases_Bool (eqb n m)) [
      | inl it ↦ absurd (true≢false (sym (rw it refl) ∙ h))
      | inr no_it ↦ rw (eqb_turned m n, no_it) (absent ms (rw no_it at h))
    ]

marked_once : (earlier events : List PlainEvent) → AreSoundAfter earlier events → AreMarkedOnce (marks_of events)
marked_once earlier [] h = tt
marked_once earlier (e ∷ es) h =
    marked_append (event_marks e) (id_of e) (marks_of es) (distinct_marks earlier e h.0)
    (λ m own. unmarked (earlier ++ e ∷ []) es h.1 m (own_marked earlier e m own))
    (marked_once (earlier ++ e ∷ []) es h.1)

-- ---- parents

parents_once : (earlier events : List PlainEvent) → AreSoundAfter earlier events → AreParentsOnce events
parents_once earlier [] h = tt
parents_once earlier (e ∷ es) h = (once e h.0, parents_once (earlier ++ e ∷ []) es h.1)
  where
    once : (e : PlainEvent) → IsSoundEvent earlier e → are_distinct (event_parents e) ≡ true
    once (plain.Commit id mark branch author committer encoding comment parents ops aliases) h = h.7
    once (plain.Blob id mark bytes) h = refl
    once (plain.Tag id name target tagger comment mark) h = refl
    once (plain.Reset id branch target) h = refl
    once (plain.Pass id line) h = refl

-- no parent is a commit that isn't earlier
not_among : (earlier : List PlainEvent) (c : ℕ) → has_id earlier (any.Commit c) ≡ false → (ps : List ℕ) → AllByRecursion (IsCommitOf earlier) ps → list_any (λ p. eqb p c) ps ≡ false
not_among earlier c absent [] h = refl
not_among earlier c absent (p ∷ ps) h = elim (cases_Bool (eqb p c)) [
  | inl it ↦ absurd (true≢false (sym h.0 ∙ ap (λ n. has_id earlier (any.Commit n)) (eqb-true p c it) ∙ absent))
  | inr no_it ↦ rw no_it (not_among earlier c absent ps h.1)
]

no-child : (earlier : List PlainEvent) (c : ℕ) → has_id earlier (any.Commit c) ≡ false → (e : PlainEvent) → IsSoundEvent earlier e → own_child c e ≡ []
no-child earlier c absent (plain.Commit id mark branch author committer encoding comment parents ops aliases) h = rw (not_among earlier c absent parents h.6) refl
no-child earlier c absent (plain.Blob id mark bytes) h = refl
no-child earlier c absent (plain.Tag id name target tagger comment mark) h = refl
no-child earlier c absent (plain.Reset id branch target) h = refl
no-child earlier c absent (plain.Pass id line) h = refl

find_front : (xs ys : List PlainEvent) (id : AnyId) → find_event id (xs ++ ys) ≡ None → find_event id xs ≡ None
find_front [] ys id h = refl
find_front (x ∷ xs) ys id h =
    let rest = absent_cons id x (xs ++ ys) h in
    cons_absent id x xs rest.0 (find_front xs ys id rest.1)

childless : (earlier events : List PlainEvent) → AreSoundAfter earlier events → (c : ℕ) → find_event (any.Commit c) (earlier ++ events) ≡ None → children_of c events ≡ []
childless earlier [] h c none = refl
childless earlier (e ∷ es) h c none =
    let absent = has_id_find earlier (any.Commit c) ∙ ap is_some (find_front earlier (e ∷ es) (any.Commit c) none) in
    rw (no-child earlier c absent e h.0)
    (childless (earlier ++ e ∷ []) es h.1 c (ap (find_event (any.Commit c)) (append_assoc earlier (e ∷ []) es) ∙ none))

pub sound_once : (events : List PlainEvent) → IsSound events → OccursOnce events
sound_once events h = record {
  ids = distinct [] events h.formed;
  marks = marked_once [] events h.formed;
  parents = parents_once [] events h.formed;
  childless = childless [] events h.formed;
}

-- a commit that isn't there is nobody's child
no_child : (c n : ℕ) (es : List PlainEvent) → find_event (any.Commit n) es ≡ None → list_any (λ m. eqb m n) (children_of c es) ≡ false
no_child c n [] h = refl
no_child c n (plain.Commit id mark branch author committer encoding comment parents ops aliases ∷ es) h =
    let e = plain.Commit id mark branch author committer encoding comment parents ops aliases in
    let rest = absent_cons (any.Commit n) e es h in
    let later = no_child c n es rest.1 in
    elim (cases_Bool (list_any (λ p. eqb p c) parents)) [
      | inl it ↦ rw it (rw (eqb_turned id n, rest.0) later)
      | inr no_it ↦ rw no_it later
    ]
no_child c n (plain.Blob id mark bytes ∷ es) h = no_child c n es h
no_child c n (plain.Tag id name target tagger comment mark ∷ es) h = no_child c n es h
no_child c n (plain.Reset id branch target ∷ es) h = no_child c n es h
no_child c n (plain.Pass id line ∷ es) h = no_child c n es h

-- each child occurs once
pub children_once : (c : ℕ) (es : List PlainEvent) → AreDistinct es → are_distinct (children_of c es) ≡ true
children_once c [] h = refl
children_once c (plain.Commit id mark branch author committer encoding comment parents ops aliases ∷ es) h =
    let later = children_once c es h.1 in
    elim (cases_Bool (list_any (λ p. eqb p c) parents)) [
      | inl it ↦ rw it (rw (no_child c id es h.0) later)
      | inr no_it ↦ rw no_it later
    ]
children_once c (plain.Blob id mark bytes ∷ es) h = children_once c es h.1
children_once c (plain.Tag id name target tagger comment mark ∷ es) h = children_once c es h.1
children_once c (plain.Reset id branch target ∷ es) h = children_once c es h.1
children_once c (plain.Pass id line ∷ es) h = children_once c es h.1
