-- Ids in lists of events, and whether an id is that of some event.
use Rattle.std.proofs.Common.{◌≡◌, ℕ, ◌<◌, subst, true, false, List, [], ◌∷◌, ◌++◌, refl, sym, ap, ◌∙◌, inl, inr, eqb-true, eq-eqb, Some, None, zero, suc, Option, length, arith, ◌+◌, ◌≤◌, max, ◌⊎◌}
use Rattle.std.specs.Prelude.{◌==◌, ◌||◌, option_to_list, IsSome, option_map, slice_get}
use Rattle.std.specs.List.{AllByRecursion, fold}
use Rattle.std.proofs.Math.Bool.{or_assoc}
use Rattle.std.proofs.lemmas.Bool.{cases_Bool, cond-false, cond-true, or_left, or_right, true≢false, or_parts}
use Rattle.std.proofs.lemmas.Option.{none-some, same_Some}
use Rattle.plain_model.specs.declared.id.AnyId.{AnyId}
use Rattle.plain_model.specs.declared.id.AnyId.TheVariants as any
use Rattle.plain_model.specs.declared.event.PlainEvent.{PlainEvent}
use Rattle.plain_model.specs.declared.event.PlainEvent.TheVariants.{Blob, Commit, Tag, Reset, Pass}
use Rattle.plain_model.specs.Lookups.{AreIdsBelow, id_of, id_number, same_id, find_event, place_of, next_number}
use Rattle.plain_model.specs.Soundness.{IsSoundEvent, has_id}
use Rattle.plain_model.specs.Streams.{is_among, is_marked}
use Rattle.plain_model.proofs.Numbers.{eqb_turned}
use Rattle.history_laws.specs.Once.{AreDistinct}

-- ---- the test of ids

pub same_id_true : (a b : AnyId) → same_id a b ≡ true → a ≡ b
same_id_true (any.Blob a) (any.Blob b) h = ap any.Blob (eqb-true a b h)
same_id_true (any.Commit a) (any.Commit b) h = ap any.Commit (eqb-true a b h)
same_id_true (any.Tag a) (any.Tag b) h = ap any.Tag (eqb-true a b h)
same_id_true (any.Reset a) (any.Reset b) h = ap any.Reset (eqb-true a b h)
same_id_true (any.Pass a) (any.Pass b) h = ap any.Pass (eqb-true a b h)
same_id_true _ _ h = absurd (true≢false (sym h))

pub same_id_refl : (id : AnyId) → same_id id id ≡ true
same_id_refl (any.Blob n) = eq-eqb n n refl
same_id_refl (any.Commit n) = eq-eqb n n refl
same_id_refl (any.Tag n) = eq-eqb n n refl
same_id_refl (any.Reset n) = eq-eqb n n refl
same_id_refl (any.Pass n) = eq-eqb n n refl

-- ids may be compared either way
pub same_id_comm : (a b : AnyId) → same_id a b ≡ same_id b a
same_id_comm (any.Blob a) (any.Blob b) = eqb_turned a b
same_id_comm (any.Commit a) (any.Commit b) = eqb_turned a b
same_id_comm (any.Tag a) (any.Tag b) = eqb_turned a b
same_id_comm (any.Reset a) (any.Reset b) = eqb_turned a b
same_id_comm (any.Pass a) (any.Pass b) = eqb_turned a b
same_id_comm (any.Blob a) (any.Commit b) = refl
same_id_comm (any.Blob a) (any.Tag b) = refl
same_id_comm (any.Blob a) (any.Reset b) = refl
same_id_comm (any.Blob a) (any.Pass b) = refl
same_id_comm (any.Commit a) (any.Blob b) = refl
same_id_comm (any.Commit a) (any.Tag b) = refl
same_id_comm (any.Commit a) (any.Reset b) = refl
same_id_comm (any.Commit a) (any.Pass b) = refl
same_id_comm (any.Tag a) (any.Blob b) = refl
same_id_comm (any.Tag a) (any.Commit b) = refl
same_id_comm (any.Tag a) (any.Reset b) = refl
same_id_comm (any.Tag a) (any.Pass b) = refl
same_id_comm (any.Reset a) (any.Blob b) = refl
same_id_comm (any.Reset a) (any.Commit b) = refl
same_id_comm (any.Reset a) (any.Tag b) = refl
same_id_comm (any.Reset a) (any.Pass b) = refl
same_id_comm (any.Pass a) (any.Blob b) = refl
same_id_comm (any.Pass a) (any.Commit b) = refl
same_id_comm (any.Pass a) (any.Tag b) = refl
same_id_comm (any.Pass a) (any.Reset b) = refl

-- ids that are the same have one number
pub same_number : (a b : AnyId) → same_id a b ≡ true → id_number a ≡ id_number b
same_number a b h = ap id_number (same_id_true a b h)

-- ---- the ids of lists

-- whether an id is that of an event or of one after it
pub has_id_step : (e : PlainEvent) (events : List PlainEvent) (wanted : AnyId) → has_id (e ∷ events) wanted ≡ (same_id (id_of e) wanted || has_id events wanted)
has_id_step (Blob id mark bytes) events (any.Blob n) = refl
has_id_step (Blob id mark bytes) events _ = refl
has_id_step (Commit id mark branch author committer encoding comment parents ops aliases) events (any.Commit n) = refl
has_id_step (Commit id mark branch author committer encoding comment parents ops aliases) events _ = refl
has_id_step (Tag id name target tagger comment mark) events (any.Tag n) = refl
has_id_step (Tag id name target tagger comment mark) events _ = refl
has_id_step (Reset id branch target) events (any.Reset n) = refl
has_id_step (Reset id branch target) events _ = refl
has_id_step (Pass id line) events (any.Pass n) = refl
has_id_step (Pass id line) events _ = refl

-- the same, with the id that is looked for first
pub has_id_cons : (e : PlainEvent) (events : List PlainEvent) (wanted : AnyId) → has_id (e ∷ events) wanted ≡ (same_id wanted (id_of e) || has_id events wanted)
has_id_cons e events wanted = has_id_step e events wanted ∙ ap (λ t. t || has_id events wanted) (same_id_comm (id_of e) wanted)

-- an id of two lists is one of either
pub has_id_append : (a b : List PlainEvent) (wanted : AnyId) → has_id (a ++ b) wanted ≡ (has_id a wanted || has_id b wanted)
has_id_append [] b wanted = refl
has_id_append (e ∷ a) b wanted =
    has_id_step e (a ++ b) wanted ∙ ap (λ t. same_id (id_of e) wanted || t) (has_id_append a b wanted)
    ∙ sym (or_assoc (same_id (id_of e) wanted) (has_id a wanted) (has_id b wanted))
    ∙ ap (λ t. t || has_id b wanted) (sym (has_id_step e a wanted))

-- an id that is there stays there
pub has_id_still : (a b : List PlainEvent) (wanted : AnyId) → has_id a wanted ≡ true → has_id (a ++ b) wanted ≡ true
has_id_still a b wanted h = has_id_append a b wanted ∙ or_left (has_id a wanted) (has_id b wanted) h

-- an id of the second list
pub has_id_after : (a b : List PlainEvent) (wanted : AnyId) → has_id b wanted ≡ true → has_id (a ++ b) wanted ≡ true
has_id_after a b wanted h = has_id_append a b wanted ∙ or_right (has_id a wanted) (has_id b wanted) h

-- a sound event has an id of its own
pub event_new : (earlier : List PlainEvent) (e : PlainEvent) → IsSoundEvent earlier e → has_id earlier (id_of e) ≡ false
event_new earlier (Blob id mark bytes) h = h.0
event_new earlier (Commit id mark branch author committer encoding comment parents ops aliases) h = h.0
event_new earlier (Tag id name target tagger comment mark) h = h.0
event_new earlier (Reset id branch target) h = h.0
event_new earlier (Pass id line) h = h.0

-- an event has its own id
pub has_own : (a b : List PlainEvent) (e : PlainEvent) → has_id (a ++ e ∷ b) (id_of e) ≡ true
has_own a b e = has_id_after a (e ∷ b) (id_of e) (has_id_step e b (id_of e) ∙ or_left (same_id (id_of e) (id_of e)) (has_id b (id_of e)) (same_id_refl (id_of e)))

-- ---- the marks of lists

-- marks of two lists
pub is_marked_append : (a b : List PlainEvent) (m : ℕ) → is_marked (a ++ b) m ≡ (is_marked a m || is_marked b m)
is_marked_append [] b m = refl
is_marked_append (Blob id mark bytes ∷ a) b m = ap (λ t. (mark == m) || t) (is_marked_append a b m) ∙ sym (or_assoc (mark == m) (is_marked a m) (is_marked b m))
is_marked_append (Commit id mark branch author committer encoding comment parents ops aliases ∷ a) b m =
    ap (λ t. (mark == m) || (is_among aliases m || t)) (is_marked_append a b m)
    ∙ ap (λ t. (mark == m) || t) (sym (or_assoc (is_among aliases m) (is_marked a m) (is_marked b m)))
    ∙ sym (or_assoc (mark == m) (is_among aliases m || is_marked a m) (is_marked b m))
is_marked_append (Tag id name target tagger comment mark ∷ a) b m =
    ap (λ t. is_among (option_to_list mark) m || t) (is_marked_append a b m) ∙ sym (or_assoc (is_among (option_to_list mark) m) (is_marked a m) (is_marked b m))
is_marked_append (Reset id branch target ∷ a) b m = is_marked_append a b m
is_marked_append (Pass id line ∷ a) b m = is_marked_append a b m

-- ids of events that are below a bound, one by one, are below it
pub ids_below : (bound : ℕ) (es : List PlainEvent) → AllByRecursion (λ e. id_number (id_of e) < bound) es → AreIdsBelow bound es
ids_below bound [] h id there = absurd (true≢false (sym there))
ids_below bound (e ∷ es) h id there = elim (cases_Bool (same_id id (id_of e))) [
  | inl it ↦ subst (λ x. id_number x < bound) (sym (same_id_true id (id_of e) it)) h.0
  | inr no_it ↦ ids_below bound es h.1 id (rw no_it at there)
]

-- ---- what is found

-- an id that isn't there is neither the first event's nor a later one's
pub absent_cons : (id : AnyId) (e : PlainEvent) (es : List PlainEvent) → find_event id (e ∷ es) ≡ None →
    (same_id id (id_of e) ≡ false) × (find_event id es ≡ None)
absent_cons id e es h = elim (cases_Bool (same_id id (id_of e))) [
  | inl it ↦ absurd (none-some e (sym h ∙ rw it refl))
  | inr no_it ↦ (no_it, rw no_it at h)
]

pub cons_absent : (id : AnyId) (e : PlainEvent) (es : List PlainEvent) → same_id id (id_of e) ≡ false → find_event id es ≡ None → find_event id (e ∷ es) ≡ None
cons_absent id e es no_it h = rw no_it h

-- an event that is found has the id
pub find_id : (id : AnyId) (es : List PlainEvent) (e : PlainEvent) → find_event id es ≡ Some e → id ≡ id_of e
find_id id [] e h = absurd (none-some e h)
find_id id (x ∷ es) e h = elim (cases_Bool (same_id id (id_of x))) [
  | inl it ↦ same_id_true id (id_of x) it ∙ ap id_of (found (rw it at h))
  | inr no_it ↦ find_id id es e (rw no_it at h)
]
  where
    found : Some x ≡ Some e → x ≡ e
    found h = cc

-- ---- places

pub some_suc : (o : Option ℕ) (k : ℕ) → option_map suc o ≡ Some k → (j : ℕ) × (o ≡ Some j) × (suc j ≡ k)
some_suc None k h = absurd (none-some k h)
some_suc (Some j) k h = (j, refl, same_Some (suc j) k h)

pub no_suc : (o : Option ℕ) → option_map suc o ≡ None → o ≡ None
no_suc None h = refl
no_suc (Some k) h = absurd (none-some (suc k) (sym h))

-- what has no place isn't there
pub placeless : (es : List PlainEvent) (id : AnyId) → place_of id es ≡ None → find_event id es ≡ None
placeless [] id h = refl
placeless (e ∷ es) id h = elim (cases_Bool (same_id id (id_of e))) [
  | inl it ↦ absurd (none-some 0 (sym h ∙ rw it refl))
  | inr no_it ↦ cons_absent id e es no_it (placeless es id (no_suc (place_of id es) (rw no_it at h)))
]

-- at the place of an id is the event that has it
pub place_at : (id : AnyId) (es : List PlainEvent) (k : ℕ) → place_of id es ≡ Some k →
    (e : PlainEvent) × (slice_get es k ≡ Some e) × (find_event id es ≡ Some e) × (id ≡ id_of e)
place_at id [] k h = absurd (none-some k h)
place_at id (e ∷ es) k h = elim (cases_Bool (same_id id (id_of e))) [
  | inl it ↦
      let first : 0 ≡ k = same_Some 0 k (rw it at h) in
      (e, ap (slice_get (e ∷ es)) (sym first), rw it refl, same_id_true id (id_of e) it)
  | inr no_it ↦
      let later = some_suc (place_of id es) k (rw no_it at h) in
      let rest = place_at id es later.0 later.1 in
      (rest.0, ap (slice_get (e ∷ es)) (sym later.2) ∙ rest.1, rw no_it rest.2, rest.3)
]

-- the id of an event that is there has a place
pub place_some : (es : List PlainEvent) (k : ℕ) (e : PlainEvent) → slice_get es k ≡ Some e → (j : ℕ) × (place_of (id_of e) es ≡ Some j)
place_some [] k e h = absurd (none-some e h)
place_some (x ∷ es) zero e h = (0, subst (λ y. place_of (id_of y) (x ∷ es) ≡ Some 0) (same_Some x e h) (rw (same_id_refl (id_of x)) refl))
place_some (x ∷ es) (suc k) e h = elim (cases_Bool (same_id (id_of e) (id_of x))) [
  | inl it ↦ (0, rw it refl)
  | inr no_it ↦ let rest = place_some es k e h in (suc rest.0, rw no_it (ap (option_map suc) rest.1))
]

pub place_within : (es : List PlainEvent) (k : ℕ) (e : PlainEvent) → slice_get es k ≡ Some e → k < length es
place_within [] k e h = absurd (none-some e h)
place_within (x ∷ es) zero e h = omega arith
place_within (x ∷ es) (suc k) e h = let rest = place_within es k e h in omega arith

-- an event whose id is none of those before it comes right after them
pub place_after : (xs ys : List PlainEvent) (e : PlainEvent) → has_id xs (id_of e) ≡ false → place_of (id_of e) (xs ++ e ∷ ys) ≡ Some (length xs)
place_after [] ys e none = cond-true (same_id (id_of e) (id_of e)) (Some 0) (option_map suc (place_of (id_of e) ys)) (same_id_refl (id_of e))
place_after (x ∷ xs) ys e none =
    let parts = or_parts (same_id (id_of e) (id_of x)) (has_id xs (id_of e)) (sym (has_id_cons x xs (id_of e)) ∙ none) in
    cond-false (same_id (id_of e) (id_of x)) (Some 0) (option_map suc (place_of (id_of e) (xs ++ e ∷ ys))) parts.0
    ∙ ap (option_map suc) (place_after xs ys e parts.1)

-- an event that is there has a place
pub found_place : (id : AnyId) (es : List PlainEvent) → IsSome (find_event id es) → IsSome (place_of id es)
found_place id es there = by (place_of id es) refl
  where
    by : (o : Option ℕ) → place_of id es ≡ o → IsSome o
    by None h = subst IsSome (placeless es id h) there
    by (Some k) h = refl

-- each id is below one above the greatest
pub below_next : (es : List PlainEvent) → AreIdsBelow (next_number es) es
below_next es = along es 1
  where
    grows : (es : List PlainEvent) (a : ℕ) → a ≤ fold (λ n e. max n (id_number (id_of e) + 1)) a es
    grows [] a = omega arith
    grows (e ∷ es) a = let h = grows es (max a (id_number (id_of e) + 1)) in omega arith

    along : (es : List PlainEvent) (a : ℕ) (id : AnyId) → IsSome (find_event id es) → id_number id < fold (λ n e. max n (id_number (id_of e) + 1)) a es
    along [] a id h = absurd (true≢false (sym h))
    along (e ∷ es) a id h = elim (cases_Bool (same_id id (id_of e))) [
      | inl it ↦
          let here = grows es (max a (id_number (id_of e) + 1)) in
          let same = ap id_number (same_id_true id (id_of e) it) in
          omega arith
      | inr no_it ↦ along es (max a (id_number (id_of e) + 1)) id (rw no_it at h)
    ]

pub found_later : (e : PlainEvent) (es xs : List PlainEvent) → find_event (id_of e) es ≡ None →
    AllByRecursion (λ x. find_event (id_of x) es ≡ Some x) xs → AllByRecursion (λ x. find_event (id_of x) (e ∷ es) ≡ Some x) xs
found_later e es [] none f = tt
found_later e es (x ∷ xs) none f = (its (cases_Bool (same_id (id_of x) (id_of e))), found_later e es xs none f.1)
  where
    its : (same_id (id_of x) (id_of e) ≡ true) ⊎ (same_id (id_of x) (id_of e) ≡ false) → find_event (id_of x) (e ∷ es) ≡ Some x
    its (inl same) =
        let is : ◌≡◌ {A = Option PlainEvent} None (Some x) = sym none ∙ ap (λ id. find_event id es) (sym (same_id_true (id_of x) (id_of e) same)) ∙ f.0 in
        absurd cc
    its (inr other) = cond-false (same_id (id_of x) (id_of e)) (Some e) (find_event (id_of x) es) other ∙ f.0

pub each_found : (es : List PlainEvent) → AreDistinct es → AllByRecursion (λ e. find_event (id_of e) es ≡ Some e) es
each_found [] d = tt
each_found (e ∷ es) d = (
  cond-true (same_id (id_of e) (id_of e)) (Some e) (find_event (id_of e) es) (same_id_refl (id_of e)),
  found_later e es es d.0 (each_found es d.1),
)

-- two ids at one place are one
pub one_place : (a b : AnyId) (es : List PlainEvent) (k : ℕ) → place_of a es ≡ Some k → place_of b es ≡ Some k → a ≡ b
one_place a b es k p q =
    let x = place_at a es k p in
    let y = place_at b es k q in
    x.3 ∙ ap id_of (same_Some x.0 y.0 (sym x.1 ∙ y.1)) ∙ sym y.3
