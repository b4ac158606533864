-- Commits whose children are linked anew.
use Rattle.std.proofs.Common.{◌≡◌, ◌∙◌, ℕ, zero, suc, ◌<◌, ◌≤◌, true, false, ◌||◌, inl, inr, List, [], ◌∷◌, ◌++◌, Some, None, refl, sym, ap, append_assoc, subst, length, get_or, drop, eqb, arith}
use Rattle.std.proofs.lemmas.Bool.{cases_Bool, cases_lt, eq-eqb, eqb-true, or_cases, or_left, or_parts, or_right, true≢false}
use Rattle.std.proofs.lemmas.List.{append-nil, map-append}
use Rattle.std.proofs.lemmas.List.Folds.{list_any-append}
use Rattle.std.proofs.lemmas.Option.{none-some, same_Some}
use Rattle.std.proofs.Math.Bool.{or-false, or-true}
use Rattle.std.proofs.Math.ListN.{set}
use Rattle.std.specs.List.{AllByRecursion, list_any}
use Rattle.std.specs.List.Sorted.{IsNonDecreasingBy}
use Rattle.std.specs.Prelude.{flat_map, if◌then◌else◌, map, option_to_list, slice_get}
use Rattle.plain_model.specs.declared.id.AnyId.{AnyId}
use Rattle.plain_model.specs.declared.id.AnyId.TheVariants as any
use Rattle.plain_model.specs.declared.event.PlainEvent.{PlainEvent}
use Rattle.plain_model.specs.declared.event.PlainEvent.TheVariants as plain
use Rattle.plain_model.specs.Lookups.{children_of, event_parents, find_event, id_of, is_listed, own_child, place_of, same_id}
use Rattle.history_laws.proofs.Ids.{each_found, one_place, same_id_refl, same_id_true}
use Rattle.history_laws.specs.Once.{AreDistinct}
use Rattle.event_arena.specs.Changes.{without_all}
use Rattle.event_arena.specs.Families.{Families, IsRoomKept}
use Rattle.event_arena.specs.Indices.{HasChildren}
use Rattle.event_arena.specs.Relinked.{AreAllKnown, AreKnown, AreRelinked, HasChildPlaces, HasPlaces, IsPart, IsPut, IsPutBefore, is_child, parents_at, parents_of}
use Rattle.event_arena.specs.Touched.{DifferAtMost, indexed_of}
use Rattle.event_arena.proofs.ChangeLemmas.{is_listed_append}
use Rattle.event_arena.proofs.LinkLemmas.{same_commit, set_here, set_there}
use Rattle.event_arena.proofs.ListLemmas.{drop_item}
use Rattle.event_arena.proofs.OnceLemmas.{found_at}

-- ---- places

-- an event's place is where it is
pub own_place : (es : List PlainEvent) (k : ℕ) (e : PlainEvent) → AreDistinct es → slice_get es k ≡ Some e → place_of (id_of e) es ≡ Some k
own_place [] k e once h = absurd (none-some e h)
own_place (x ∷ es) zero e once h = subst (λ y. place_of (id_of y) (x ∷ es) ≡ Some 0) (same_Some x e h) (rw (same_id_refl (id_of x)) refl)
own_place (x ∷ es) (suc k) e once h = elim (cases_Bool (same_id (id_of e) (id_of x))) [
  | inl it ↦ absurd (none-some e (sym once.0 ∙ ap (λ i. find_event i es) (sym (same_id_true (id_of e) (id_of x) it)) ∙ found_at es k e once.1 h))
  | inr no_it ↦ rw (no_it, own_place es k e once.1 h) refl
]

pub no_places : (es : List PlainEvent) (places : List ℕ) → HasPlaces [] es places
no_places es places id k h at = absurd (true≢false (sym h))

pub places_more : (ids : List AnyId) (id : AnyId) (es : List PlainEvent) (old new : List ℕ) →
    HasPlaces ids es old → IsPart old new → HasPlaces (id ∷ []) es new → HasPlaces (ids ++ id ∷ []) es new
places_more ids id es old new has part more x k h at = elim (or_cases (is_listed x ids) (is_listed x (id ∷ [])) (sym (is_listed_append ids (id ∷ []) x) ∙ h)) [
  | inl earlier ↦ part k (has x k earlier at)
  | inr last ↦ more x k last at
]

pub child_places : (c : ℕ) (touched : List AnyId) (children : List ℕ) (es : List PlainEvent) (some all : List ℕ) → AreDistinct es →
    HasPlaces (map any.Commit children) es some → IsPart some all → HasPlaces touched es all →
    AreKnown c touched children es → HasChildPlaces c es all
child_places c touched children es some all once has part more known k e at child =
    let place = own_place es k e once at in
    elim (or_cases (is_listed (id_of e) touched) (is_listed (id_of e) (map any.Commit children)) (known k e at child)) [
      | inl it ↦ more (id_of e) k it place
      | inr was ↦ part k (has (id_of e) k was place)
    ]

-- ---- children from a place on

pub no_own_child : (c : ℕ) (e : PlainEvent) → is_child c e ≡ false → own_child c e ≡ []
no_own_child c (plain.Commit id mark branch author committer encoding comment parents ops aliases) h = rw h refl
no_own_child c (plain.Blob id mark bytes) h = refl
no_own_child c (plain.Tag id name target tagger comment mark) h = refl
no_own_child c (plain.Reset id branch target) h = refl
no_own_child c (plain.Pass id line) h = refl

-- where no child is between two places, the children from either on are the same
pub none_between : (c : ℕ) (es : List PlainEvent) (a b : ℕ) → a ≤ b →
    ((j : ℕ) (e : PlainEvent) → a ≤ j → j < b → slice_get es j ≡ Some e → is_child c e ≡ false) → children_of c (drop a es) ≡ children_of c (drop b es)
none_between c [] zero zero le none = refl
none_between c [] zero (suc b) le none = refl
none_between c [] (suc a) zero le none = refl
none_between c [] (suc a) (suc b) le none = refl
none_between c (x ∷ es) zero zero le none = refl
none_between c (x ∷ es) zero (suc b) le none =
    ap (λ t. t ++ children_of c es) (no_own_child c x (none 0 x (omega arith) (omega arith) refl))
    ∙ none_between c es zero b (omega arith) (λ j e low high at. none (suc j) e (omega arith) (omega arith) at)
none_between c (x ∷ es) (suc a) zero le none = absurd (omega arith)
none_between c (x ∷ es) (suc a) (suc b) le none = none_between c es a b (omega arith) (λ j e low high at. none (suc j) e (omega arith) (omega arith) at)

module _ (c : ℕ) (es : List PlainEvent) (places : List ℕ) (all : HasChildPlaces c es places) where
  -- behind one of the places in their order and before the next one is no child
  pub apart_between : IsNonDecreasingBy (λ place. place) places → (m at next : ℕ) → m < length places → ((d : ℕ) → get_or places m d ≡ at) →
      ((k d : ℕ) → k < length places → m < k → next ≤ get_or places k d) →
      (j : ℕ) (e : PlainEvent) → suc at ≤ j → j < next → slice_get es j ≡ Some e → is_child c e ≡ false
  apart_between rising m at next within is later j e low high here = elim (cases_Bool (is_child c e)) [
    | inr no_it ↦ no_it
    | inl it ↦
        let there = all j e here it in
        let same = there.2 in
        elim (cases_lt m there.0) [
          | inl behind ↦ let far = later there.0 j there.1 behind in absurd (omega (arith, same))
          | inr before ↦ let near = rising there.0 m j before within in let own = is j in absurd (omega (arith, same, own))
        ]
  ]

  -- before all of the places is none
  pub none_before : (next : ℕ) → ((k d : ℕ) → k < length places → next ≤ get_or places k d) →
      (j : ℕ) (e : PlainEvent) → 0 ≤ j → j < next → slice_get es j ≡ Some e → is_child c e ≡ false
  none_before next later j e low high here = elim (cases_Bool (is_child c e)) [
    | inr no_it ↦ no_it
    | inl it ↦
        let there = all j e here it in
        let same = there.2 in
        let far = later there.0 j there.1 in
        absurd (omega (arith, same))
  ]

-- a place without children has those from the end on
pub start_put : (c place : ℕ) (es : List PlainEvent) (old new : List (List ℕ)) (count : ℕ) → count ≡ length es → place < length old → new ≡ set old place [] →
    IsPut place (children_of c (drop count es)) old new
start_put c place es old new count all within is k = elim (cases_Bool (eqb k place)) [
  | inl it ↦
      let same = eqb-true k place it in
      rw (is, it, all, none_left es, same) (set_here old place [] within)
  | inr no_it ↦ rw (is, no_it) (set_there old place k [] (λ same. true≢false (sym (eq-eqb place place refl) ∙ ap (λ n. eqb n place) same ∙ no_it)))
]
  where
    none_left : (es : List PlainEvent) → drop (length es) es ≡ []
    none_left [] = refl
    none_left (e ∷ es) = none_left es

-- one event more is put before the children that are linked
pub put_more : (c at next place : ℕ) (es : List PlainEvent) (e : PlainEvent) (old mid new : List (List ℕ)) → at < next → slice_get es at ≡ Some e →
    ((j : ℕ) (e : PlainEvent) → suc at ≤ j → j < next → slice_get es j ≡ Some e → is_child c e ≡ false) →
    IsPut place (children_of c (drop next es)) old mid → IsPutBefore place (own_child c e) mid new → IsPut place (children_of c (drop at es)) old new
put_more c at next place es e old mid new low here none put before k =
    let all : own_child c e ++ children_of c (drop next es) ≡ children_of c (drop at es) =
    ap (λ t. own_child c e ++ t) (sym (none_between c es (suc at) next low none)) ∙ sym (ap (children_of c) (drop_item es at e here)) in
    elim (cases_Bool (eqb k place)) [
      | inl it ↦ before k ∙ rw it (ap (λ t. own_child c e ++ t) (put k ∙ rw it refl) ∙ all)
      | inr no_it ↦ before k ∙ rw no_it (put k ∙ rw no_it refl)
    ]

-- room that is kept twice
pub room_still : {old mid new : Families} → IsRoomKept old mid → IsRoomKept mid new → IsRoomKept old new
room_still first more = record {
  places = more.places ∙ first.places;
  place_room = more.place_room ∙ first.place_room;
  link_room = more.link_room ∙ first.link_room;
}

-- ---- commits, one after another

pub relinked_then : (xs ys : List ℕ) (es : List PlainEvent) (old mid new : List (List ℕ)) →
    AreRelinked xs es old mid → AreRelinked ys es mid new → AreRelinked (xs ++ ys) es old new
relinked_then xs ys es old mid new first more c k place =
    let any = list_any-append (λ p. eqb p c) xs ys in
    elim (cases_Bool (list_any (λ p. eqb p c) ys)) [
      | inl it ↦ more c k place ∙ rw (any, it, or-true (list_any (λ p. eqb p c) xs)) refl
      | inr no_it ↦ more c k place ∙ rw (any, no_it, or-false (list_any (λ p. eqb p c) xs)) (first c k place)
    ]

pub put_relinked : (c place : ℕ) (es : List PlainEvent) (old new : List (List ℕ)) → place_of (any.Commit c) es ≡ Some place →
    IsPut place (children_of c es) old new → AreRelinked (c ∷ []) es old new
put_relinked c place es old new at put x k there = elim (cases_Bool (eqb c x)) [
  | inl it ↦
      let e = eqb-true c x it in
      let same : k ≡ place = same_Some k place (sym there ∙ ap (λ n. place_of (any.Commit n) es) (sym e) ∙ at) in
      put k ∙ rw (it, same, eq-eqb place place refl) (ap (λ n. children_of n es) e)
  | inr no_it ↦
      elim (cases_Bool (eqb k place)) [
        | inl same ↦
            let p = eqb-true k place same in
            absurd (true≢false (sym (eq-eqb c c refl) ∙ ap (eqb c) (same_commit c x (one_place (any.Commit c) (any.Commit x) es k (at ∙ ap Some (sym p)) there)) ∙ no_it))
        | inr other ↦ put k ∙ rw (other, no_it) refl
      ]
]

pub gone_relinked : (c : ℕ) (es : List PlainEvent) (lists : List (List ℕ)) → place_of (any.Commit c) es ≡ None → AreRelinked (c ∷ []) es lists lists
gone_relinked c es lists at x k there = elim (cases_Bool (eqb c x)) [
  | inl it ↦ absurd (none-some k (sym at ∙ ap (λ n. place_of (any.Commit n) es) (eqb-true c x it) ∙ there))
  | inr no_it ↦ rw no_it refl
]

-- ---- what can be a child

-- a commit's children among the events that aren't listed are among its children there
pub known_here : (c : ℕ) (ids : List AnyId) (es : List PlainEvent) (k : ℕ) (e : PlainEvent) → slice_get es k ≡ Some e → is_child c e ≡ true → is_listed (id_of e) ids ≡ false →
    is_listed (id_of e) (map any.Commit (children_of c (without_all ids es))) ≡ true
known_here c ids [] k e at child free = absurd (none-some e at)
known_here c ids (x ∷ es) zero e at child free =
    let same = same_Some x e at in
    rw (same, free) (own e child)
  where
    own : (e : PlainEvent) → is_child c e ≡ true → is_listed (id_of e) (map any.Commit (own_child c e ++ children_of c (without_all ids es))) ≡ true
    own (plain.Commit id mark branch author committer encoding comment parents ops aliases) h = rw (h, eq-eqb id id refl) refl
    own (plain.Blob id mark bytes) h = absurd (true≢false (sym h))
    own (plain.Tag id name target tagger comment mark) h = absurd (true≢false (sym h))
    own (plain.Reset id branch target) h = absurd (true≢false (sym h))
    own (plain.Pass id line) h = absurd (true≢false (sym h))
known_here c ids (x ∷ es) (suc k) e at child free =
    let later = known_here c ids es k e at child free in
    elim (cases_Bool (is_listed (id_of x) ids)) [
      | inl it ↦ rw it later
      | inr no_it ↦ rw no_it (beside (own_child c x) (children_of c (without_all ids es)) (id_of e) later)
    ]
  where
    beside : (more ns : List ℕ) (id : AnyId) → is_listed id (map any.Commit ns) ≡ true → is_listed id (map any.Commit (more ++ ns)) ≡ true
    beside more ns id h =
        ap (is_listed id) (map-append any.Commit more ns) ∙ is_listed_append (map any.Commit more) (map any.Commit ns) id
        ∙ ap (λ b. is_listed id (map any.Commit more) || b) h ∙ or-true (is_listed id (map any.Commit more))

-- and those are among all of its children
pub fewer_children : (c : ℕ) (ids : List AnyId) (es : List PlainEvent) (id : AnyId) →
    is_listed id (map any.Commit (children_of c (without_all ids es))) ≡ true → is_listed id (map any.Commit (children_of c es)) ≡ true
fewer_children c ids [] id h = h
fewer_children c ids (x ∷ es) id h = elim (cases_Bool (is_listed (id_of x) ids)) [
  | inl it ↦ split (own_child c x) (children_of c es) (or_right _ _ (fewer_children c ids es id (rw it at h)))
  | inr no_it ↦
      split (own_child c x) (children_of c es) (
      elim (or_cases (is_listed id (map any.Commit (own_child c x))) _ (sym (joined (own_child c x) (children_of c (without_all ids es))) ∙ rw no_it at h)) [
        | inl own ↦ or_left _ _ own
        | inr other ↦ or_right _ _ (fewer_children c ids es id other)
      ])
]
  where
    joined : (a b : List ℕ) → is_listed id (map any.Commit (a ++ b)) ≡ is_listed id (map any.Commit a) || is_listed id (map any.Commit b)
    joined a b = ap (is_listed id) (map-append any.Commit a b) ∙ is_listed_append (map any.Commit a) (map any.Commit b) id

    split : (a b : List ℕ) → is_listed id (map any.Commit a) || is_listed id (map any.Commit b) ≡ true → is_listed id (map any.Commit (a ++ b)) ≡ true
    split a b s = joined a b ∙ s

-- children by what indices are made from
abbrev child_by : ℕ → AnyId × List ℕ × List ℕ → List ℕ
child_by c (any.Commit n, parents, marks) = if list_any (λ p. eqb p c) parents then n ∷ [] else []
child_by c (any.Blob n, parents, marks) = []
child_by c (any.Tag n, parents, marks) = []
child_by c (any.Reset n, parents, marks) = []
child_by c (any.Pass n, parents, marks) = []

-- what indices are made from tells a commit's children
same_children : (c : ℕ) (a b : List PlainEvent) → map indexed_of a ≡ map indexed_of b → children_of c a ≡ children_of c b
same_children c a b h = by_parts a ∙ ap (flat_map (child_by c)) h ∙ sym (by_parts b)
  where
    own : (e : PlainEvent) → own_child c e ≡ child_by c (indexed_of e)
    own (plain.Commit id mark branch author committer encoding comment parents ops aliases) = refl
    own (plain.Blob id mark bytes) = refl
    own (plain.Tag id name target tagger comment mark) = refl
    own (plain.Reset id branch target) = refl
    own (plain.Pass id line) = refl

    by_parts : (es : List PlainEvent) → children_of c es ≡ flat_map (child_by c) (map indexed_of es)
    by_parts [] = refl
    by_parts (e ∷ es) = λ i. own e i ++ by_parts es i

module _ (before after : List PlainEvent) (ids : List AnyId) (differ : DifferAtMost (Some ids) before after) where
  -- what a commit had, and the touched events, are all that can be its children
  known_before : (c : ℕ) → AreKnown c ids (children_of c before) after
  known_before c k e at child = elim (cases_Bool (is_listed (id_of e) ids)) [
    | inl it ↦ rw it refl
    | inr no_it ↦
        rw no_it
        (fewer_children c ids before (id_of e)
        (ap (λ ns. is_listed (id_of e) (map any.Commit ns)) (same_children c (without_all ids before) (without_all ids after) differ) ∙ known_here c ids after k e at child no_it))
  ]

-- its own are known, of course
known_after : (c : ℕ) (ids : List AnyId) (es : List PlainEvent) → AreKnown c ids (children_of c es) es
known_after c ids es k e at child = elim (cases_Bool (is_listed (id_of e) ids)) [
  | inl it ↦ rw it refl
  | inr no_it ↦ rw no_it (fewer_children c ids es (id_of e) (known_here c ids es k e at child no_it))
]

-- so they are when some commits have been linked anew
pub all_known : (xs : List ℕ) (ids : List AnyId) (es : List PlainEvent) (old new : List (List ℕ)) →
    AreAllKnown ids es old → AreRelinked xs es old new → AreAllKnown ids es new
all_known xs ids es old new known linked c k place = elim (cases_Bool (list_any (λ p. eqb p c) xs)) [
  | inl it ↦ subst (λ ns. AreKnown c ids ns es) (sym (linked c k place ∙ rw it refl)) (known_after c ids es)
  | inr no_it ↦ subst (λ ns. AreKnown c ids ns es) (sym (linked c k place ∙ rw no_it refl)) (known c k place)
]

pub first_known : (before after : List PlainEvent) (ids : List AnyId) (lists : List (List ℕ)) → DifferAtMost (Some ids) before after →
    HasChildren lists after before → AreAllKnown ids after lists
first_known before after ids lists differ children c k place =
    subst (λ ns. AreKnown c ids ns after) (sym (children c k place)) (known_before before after ids differ c)

-- ---- commits that are no parents of touched events

-- what isn't a child may go
without_others : (c : ℕ) (ids : List AnyId) (es : List PlainEvent) → AllByRecursion (λ e. is_listed (id_of e) ids ≡ true → is_child c e ≡ false) es →
    children_of c (without_all ids es) ≡ children_of c es
without_others c ids [] h = refl
without_others c ids (e ∷ es) h = elim (cases_Bool (is_listed (id_of e) ids)) [
  | inl it ↦ rw it (without_others c ids es h.1 ∙ ap (λ t. t ++ children_of c es) (sym (no_own_child c e (h.0 it))))
  | inr no_it ↦ rw no_it (ap (λ t. own_child c e ++ t) (without_others c ids es h.1))
]

module _ (before after : List PlainEvent) (c : ℕ) where
  -- a parent of none has none of these events as its child
  no_parent : (ids : List AnyId) (id : AnyId) → list_any (λ p. eqb p c) (parents_of before after ids) ≡ false → is_listed id ids ≡ true →
      (list_any (λ p. eqb p c) (parents_at id before) ≡ false) × (list_any (λ p. eqb p c) (parents_at id after) ≡ false)
  no_parent [] id none h = absurd (true≢false (sym h))
  no_parent (x ∷ ids) id none h =
      let parts = or_parts _ _ (sym (list_any-append (λ p. eqb p c) (parents_at x before ++ parents_at x after) (parents_of before after ids)) ∙ none) in
      let own = or_parts _ _ (sym (list_any-append (λ p. eqb p c) (parents_at x before) (parents_at x after)) ∙ parts.0) in
      elim (cases_Bool (same_id id x)) [
        | inl it ↦ subst (λ y. (list_any (λ p. eqb p c) (parents_at y before) ≡ false) × (list_any (λ p. eqb p c) (parents_at y after) ≡ false)) (sym (same_id_true id x it)) own
        | inr no_it ↦ no_parent ids id parts.1 (rw no_it at h)
      ]

  found_parents : (e : PlainEvent) (es : List PlainEvent) → find_event (id_of e) es ≡ Some e → list_any (λ p. eqb p c) (parents_at (id_of e) es) ≡ false → is_child c e ≡ false
  found_parents e es found none =
      sym (or-false (is_child c e)) ∙ sym (list_any-append (λ p. eqb p c) (event_parents e) []) ∙ sym (ap (λ o. list_any (λ p. eqb p c) (flat_map event_parents (option_to_list o))) found) ∙ none

  apart_all : (ids : List AnyId) (whole es : List PlainEvent) →
      ((id : AnyId) → is_listed id ids ≡ true → list_any (λ p. eqb p c) (parents_at id whole) ≡ false) →
      AllByRecursion (λ e. find_event (id_of e) whole ≡ Some e) es → AllByRecursion (λ e. is_listed (id_of e) ids ≡ true → is_child c e ≡ false) es
  apart_all ids whole [] none h = tt
  apart_all ids whole (e ∷ es) none h = (λ it. found_parents e whole h.0 (none (id_of e) it), apart_all ids whole es none h.1)

  pub untouched_children : (ids : List AnyId) → AreDistinct before → AreDistinct after → DifferAtMost (Some ids) before after →
      list_any (λ p. eqb p c) (parents_of before after ids) ≡ false → children_of c before ≡ children_of c after
  untouched_children ids once_before once_after differ none =
      sym (without_others c ids before (apart_all ids before before (λ id it. (no_parent ids id none it).0) (each_found before once_before)))
      ∙ same_children c (without_all ids before) (without_all ids after) differ
      ∙ without_others c ids after (apart_all ids after after (λ id it. (no_parent ids id none it).1) (each_found after once_after))

-- where the parents of all touched events are linked anew, all commits are linked to their children
pub all_linked : (before after : List PlainEvent) (ids : List AnyId) (old new : List (List ℕ)) → AreDistinct before → AreDistinct after →
    DifferAtMost (Some ids) before after → HasChildren old after before → AreRelinked (parents_of before after ids) after old new → HasChildren new after after
all_linked before after ids old new once_before once_after differ children linked c k place = elim (cases_Bool (list_any (λ p. eqb p c) (parents_of before after ids))) [
  | inl it ↦ linked c k place ∙ rw it refl
  | inr no_it ↦ linked c k place ∙ rw no_it (children c k place ∙ untouched_children before after c ids once_before once_after differ no_it)
]

-- the parents of one touched event more
pub parents_more : (before after : List PlainEvent) (ids : List AnyId) (id : AnyId) →
    parents_of before after (ids ++ id ∷ []) ≡ (parents_of before after ids ++ parents_at id before) ++ parents_at id after
parents_more before after [] id = append-nil (parents_at id before ++ parents_at id after)
parents_more before after (x ∷ ids) id =
    let own = parents_at x before ++ parents_at x after in
    let rest = parents_of before after ids in
    ap (λ t. own ++ t) (parents_more before after ids id ∙ append_assoc rest (parents_at id before) (parents_at id after))
    ∙ sym (append_assoc own rest (parents_at id before ++ parents_at id after)) ∙ sym (append_assoc (own ++ rest) (parents_at id before) (parents_at id after))
