-- What is left of a list is in order, where that holds of the events near the set.
use Rattle.std.proofs.Common.{◌≡◌, ◌∙◌, ℕ, Bool, true, false, cond, not, inl, inr, List, [], ◌∷◌, ◌++◌, Some, None, refl, sym, ap, subst, length, take, filter, flat_map, map, append_assoc, append-nil, true≢false}
use Rattle.std.proofs.lemmas.Bool.{and_from, and_parts, cases_Bool, false_from_ne_true, or_cases, or_left, or_parts, or_right}
use Rattle.std.proofs.lemmas.Grind.{flat_map-append}
use Rattle.std.specs.List.{list_all, list_any}
use Rattle.std.specs.Prelude.{IsTrue, is_some, slice_get, unwrap_or}
use Rattle.std.proofs.lemmas.List.Elements.{filter-append}
use Rattle.plain_model.specs.declared.id.AnyId.{AnyId}
use Rattle.plain_model.specs.declared.id.AnyId.TheVariants as any
use Rattle.plain_model.specs.declared.event.PlainEvent.{PlainEvent}
use Rattle.plain_model.specs.declared.event.PlainEvent.TheVariants.{Blob, Commit, Tag, Reset, Pass}
use Rattle.plain_model.specs.Histories.{past}
use Rattle.plain_model.specs.Lookups.{event_parents, id_of, op_blobs, place_of, referents_of, same_id}
use Rattle.plain_model.specs.Soundness.{IsSound, are_distinct, has_id}
use Rattle.history_laws.proofs.Ids.{has_id_append, has_id_cons, same_id_true, place_after}
use Rattle.history_laws.specs.Once.{AreDistinct}
use Rattle.event_arena.proofs.OnceLemmas.{distinct_absent}
use Rattle.history_laws.proofs.SoundOnce.{has_id_find, sound_once}
use Rattle.edit_laws.specs.Parts.{AreComplete, AreInOrder}
use Rattle.edit_laws.specs.Settling.{is_ready}
use Rattle.edit_laws.specs.Sweeping.{is_left_over, swept}
use Rattle.edit_laws.proofs.Sound.{in_parts}
use Rattle.graph_walk.proofs.TurnLemmas.{all_at}
use Rattle.squash_laws.specs.Removed.{Takings, all_left, is_removed, left_of, parents_after}
use Rattle.plan_steps.specs.Leaving.{event_after, goes}
use Rattle.plan_steps.specs.Near.{AreReadyNear, is_near}
use Rattle.plan_steps.proofs.LeavingLemmas.{after_id, left_one, unremoved_parents}
use Rattle.plan_steps.proofs.NearLemmas.{IsApart, is_apart, kept_on}

-- ---- an event after others

get_behind : (xs ys : List PlainEvent) (e : PlainEvent) → slice_get (xs ++ e ∷ ys) (length xs) ≡ Some e
get_behind [] ys e = refl
get_behind (x ∷ xs) ys e = get_behind xs ys e

take_front : (xs ys : List PlainEvent) → take (length xs) (xs ++ ys) ≡ xs
take_front [] ys = refl
take_front (x ∷ xs) ys = ap (λ l. x ∷ l) (take_front xs ys)

-- an id of earlier events is none of those that come later
not_later : (pre rest : List PlainEvent) (id : AnyId) → AreDistinct (pre ++ rest) → has_id pre id ≡ true → has_id rest id ≡ false
not_later [] rest id once there = absurd (true≢false (sym there))
not_later (e ∷ pre) rest id once there = elim (or_cases (same_id id (id_of e)) (has_id pre id) (sym (has_id_cons e pre id) ∙ there)) [
  | inl same ↦
      let none : has_id (pre ++ rest) (id_of e) ≡ false = has_id_find (pre ++ rest) (id_of e) ∙ ap is_some once.0 in
      ap (has_id rest) (same_id_true id (id_of e) same)
      ∙ (or_parts (has_id pre (id_of e)) (has_id rest (id_of e)) (sym (has_id_append pre rest (id_of e)) ∙ none)).1
  | inr later ↦ not_later pre rest id once.1 later
]

ready_at : (earlier pre rest : List PlainEvent) (e : PlainEvent) → AreInOrder earlier (pre ++ e ∷ rest) → is_ready (earlier ++ pre) e ≡ true
ready_at earlier [] rest e order = ap (λ es. is_ready es e) (append-nil earlier) ∙ order.0
ready_at earlier (x ∷ pre) rest e order = ap (λ es. is_ready es e) (sym (append_assoc earlier (x ∷ []) pre)) ∙ ready_at (earlier ++ x ∷ []) pre rest e order.1

-- ---- a list of which each event leaves one with its id, or nothing

abbrev pub LeavesOwn : (PlainEvent → List PlainEvent) → Type 0
LeavesOwn left = (e d : PlainEvent) (rest : List PlainEvent) → left e ≡ d ∷ rest → (id_of d ≡ id_of e) × (rest ≡ [])

module _ (left : PlainEvent → List PlainEvent) (own : LeavesOwn left) where
  one_there : (e : PlainEvent) (id : AnyId) (ds : List PlainEvent) → left e ≡ ds → has_id ds id ≡ true → same_id id (id_of e) ≡ true
  one_there e id [] is h = absurd (true≢false (sym h))
  one_there e id (d ∷ rest) is h =
      let o = own e d rest is in
      elim (or_cases (same_id id (id_of d)) (has_id rest id) (sym (has_id_cons d rest id) ∙ h)) [
        | inl same ↦ ap (same_id id) (sym o.0) ∙ same
        | inr later ↦ absurd (true≢false (sym later ∙ ap (λ (es : List PlainEvent). has_id es id) o.1))
      ]

  -- what is left was there
  left_there : (es : List PlainEvent) (id : AnyId) → has_id (flat_map left es) id ≡ true → has_id es id ≡ true
  left_there [] id h = h
  left_there (e ∷ es) id h =
      has_id_cons e es id ∙ elim (or_cases (has_id (left e) id) (has_id (flat_map left es) id) (sym (has_id_append (left e) (flat_map left es) id) ∙ h)) [
        | inl now ↦ or_left (same_id id (id_of e)) (has_id es id) (one_there e id (left e) refl now)
        | inr later ↦ or_right (same_id id (id_of e)) (has_id es id) (left_there es id later)
      ]

  -- what was ready among the events before it, and is ready among all that are left, is ready among those left of them
  ready_before : (pre rest : List PlainEvent) (d e : PlainEvent) → AreDistinct (pre ++ rest) → referents_of d ≡ referents_of e →
      is_ready pre e ≡ true → is_ready (flat_map left (pre ++ rest)) d ≡ true → is_ready (flat_map left pre) d ≡ true
  ready_before pre rest d e once same was now =
      each (referents_of d) (ap (list_all (has_id pre)) same ∙ was) now
    where
      each : (ids : List AnyId) → list_all (has_id pre) ids ≡ true → list_all (has_id (flat_map left (pre ++ rest))) ids ≡ true →
          list_all (has_id (flat_map left pre)) ids ≡ true
      each [] was now = refl
      each (id ∷ ids) was now =
          let a = and_parts (has_id pre id) (list_all (has_id pre) ids) was in
          let b = and_parts (has_id (flat_map left (pre ++ rest)) id) (list_all (has_id (flat_map left (pre ++ rest))) ids) now in
          let both = sym (has_id_append (flat_map left pre) (flat_map left rest) id) ∙ ap (λ (es : List PlainEvent). has_id es id) (sym (flat_map-append left pre rest)) ∙ b.0 in
          and_from (has_id (flat_map left pre) id) (list_all (has_id (flat_map left pre)) ids)
          (elim (or_cases (has_id (flat_map left pre) id) (has_id (flat_map left rest) id) both) [
            | inl first ↦ first
            | inr later ↦ absurd (true≢false (sym (left_there rest id later) ∙ not_later pre rest id once a.0))
          ])
          (each ids a.1 b.1)

  whole_at : (pre rest : List PlainEvent) (e d : PlainEvent) → left e ≡ d ∷ [] → flat_map left (pre ++ e ∷ rest) ≡ flat_map left pre ++ d ∷ flat_map left rest
  whole_at pre rest e d is = flat_map-append left pre (e ∷ rest) ∙ ap (λ (ds : List PlainEvent). flat_map left pre ++ (ds ++ flat_map left rest)) is

  more_at : (pre : List PlainEvent) (e : PlainEvent) (ds : List PlainEvent) → left e ≡ ds → flat_map left (pre ++ e ∷ []) ≡ flat_map left pre ++ ds
  more_at pre e ds is = flat_map-append left pre (e ∷ []) ∙ ap (λ (xs : List PlainEvent). flat_map left pre ++ xs) (append-nil (left e) ∙ is)

  -- where each is ready among those left of the events before it, they are in order
  abbrev pub AreReady : List PlainEvent → Type 0
  AreReady events = (pre rest : List PlainEvent) (e d : PlainEvent) → pre ++ e ∷ rest ≡ events → left e ≡ d ∷ [] → is_ready (flat_map left pre) d ≡ true

  in_order : (events pre rest : List PlainEvent) → AreReady events → pre ++ rest ≡ events → AreInOrder (flat_map left pre) (flat_map left rest)
  in_order events pre [] ready whole = tt
  in_order events pre (e ∷ rest) ready whole = by (left e) refl (in_order events (pre ++ e ∷ []) rest ready (append_assoc pre (e ∷ []) rest ∙ whole))
    where
      by : (ds : List PlainEvent) → left e ≡ ds → AreInOrder (flat_map left (pre ++ e ∷ [])) (flat_map left rest) → AreInOrder (flat_map left pre) (flat_map left (e ∷ rest))
      by [] is more =
          subst (λ (xs : List PlainEvent). AreInOrder (flat_map left pre) (xs ++ flat_map left rest)) (sym is)
          (subst (λ (xs : List PlainEvent). AreInOrder xs (flat_map left rest)) (more_at pre e [] is ∙ append-nil (flat_map left pre)) more)
      by (d ∷ ds) is more =
          let o = own e d ds is in
          let one : left e ≡ d ∷ [] = is ∙ ap (λ (xs : List PlainEvent). d ∷ xs) o.1 in
          subst (λ (xs : List PlainEvent). AreInOrder (flat_map left pre) (xs ++ flat_map left rest)) (sym one)
          (ready pre rest e d whole one, subst (λ (xs : List PlainEvent). AreInOrder xs (flat_map left rest)) (more_at pre e (d ∷ []) one) more)

  pub left_in_order : (events : List PlainEvent) → AreReady events → AreInOrder [] (flat_map left events)
  left_in_order events ready = in_order events [] events ready refl

  -- an event is ready there: it was looked at, or it refers to what it did
  pub each_ready : (events : List PlainEvent) → AreDistinct events → AreInOrder [] events → AreComplete (flat_map left events) → (near : PlainEvent → Bool) →
      ((k p : ℕ) (e d : PlainEvent) → slice_get events k ≡ Some e → near e ≡ true → place_of (id_of e) (flat_map left events) ≡ Some p →
      slice_get (flat_map left events) p ≡ Some d → is_ready (take p (flat_map left events)) d ≡ true) →
      ((k : ℕ) (e d : PlainEvent) → slice_get events k ≡ Some e → near e ≡ false → left e ≡ d ∷ [] → referents_of d ≡ referents_of e) → AreReady events
  each_ready events once order complete near looked apart pre rest e d whole is =
      elim (cases_Bool (near e)) [
        | inl it ↦
            let none : has_id pre (id_of e) ≡ false = has_id_find pre (id_of e) ∙ ap is_some (distinct_absent pre rest e once_parts) in
            let gone : has_id front (id_of d) ≡ false =
            false_from_ne_true (has_id front (id_of d)) (λ t. true≢false (sym (left_there pre (id_of d) t) ∙ ap (has_id pre) (own e d [] is).0 ∙ none)) in
            let place : place_of (id_of e) (flat_map left events) ≡ Some (length front) =
            ap (λ id. place_of id (flat_map left events)) (sym (own e d [] is).0) ∙ ap (place_of (id_of d)) parts ∙ place_after front (flat_map left rest) d gone in
            ap (λ es. is_ready es d) (sym (ap (take (length front)) parts ∙ take_front front (d ∷ flat_map left rest)))
            ∙ looked (length pre) (length front) e d here it place (ap (λ es. slice_get es (length front)) parts ∙ get_behind front (flat_map left rest) d)
        | inr no_it ↦
            let now : is_ready (flat_map left events) d ≡ true =
            all_at (λ x. IsTrue (is_ready (flat_map left events) x)) (flat_map left events) (length front) d complete (ap (λ es. slice_get es (length front)) parts ∙ get_behind front (flat_map left rest) d) in
            ready_before pre (e ∷ rest) d e once_parts (apart (length pre) e d here no_it is) (ready_at [] pre rest e (subst (AreInOrder []) (sym whole) order))
            (ap (λ es. is_ready (flat_map left es) d) whole ∙ now)
      ]
    where
      front : List PlainEvent
      front = flat_map left pre

      once_parts : AreDistinct (pre ++ e ∷ rest)
      once_parts = subst AreDistinct (sym whole) once

      parts : flat_map left events ≡ front ++ d ∷ flat_map left rest
      parts = ap (flat_map left) (sym whole) ∙ whole_at pre rest e d is

      here : slice_get events (length pre) ≡ Some e
      here = ap (λ es. slice_get es (length pre)) (sym whole) ∙ get_behind pre rest e

-- ---- what is left without a set, and without the blobs that were named before

filter_flat : (test : PlainEvent → Bool) (f : PlainEvent → List PlainEvent) (es : List PlainEvent) → filter test (flat_map f es) ≡ flat_map (λ e. filter test (f e)) es
filter_flat test f [] = refl
filter_flat test f (e ∷ es) = filter-append test (f e) (flat_map f es) ∙ ap (λ (xs : List PlainEvent). filter test (f e) ++ xs) (filter_flat test f es)

module _ (before : List PlainEvent) (set : List AnyId) (events : List PlainEvent) (h : IsSound events) (taking : Takings) where
  abbrev still : PlainEvent → Bool
  still d = not (is_left_over before (all_left set events taking) d)

  abbrev pub left_by : PlainEvent → List PlainEvent
  left_by e = filter still (left_of set events taking e)

  abbrev becomes : PlainEvent → PlainEvent
  becomes e = event_after (parents_after set events taking) taking e

  pub left_flat : swept before (all_left set events taking) ≡ flat_map left_by events
  left_flat = filter_flat still (left_of set events taking) events

  left_is : (e d : PlainEvent) (rest : List PlainEvent) → left_by e ≡ d ∷ rest → (d ≡ becomes e) × (rest ≡ [])
  left_is e d rest is = by (goes set taking e) (sym (ap (filter still) (left_one set events taking e)) ∙ is)
    where
      by : (b : Bool) → filter still (cond b [] (becomes e ∷ [])) ≡ d ∷ rest → (d ≡ becomes e) × (rest ≡ [])
      by true same = absurd cc
      by false same = one (still (becomes e)) same
        where
          one : (b : Bool) → cond b (becomes e ∷ []) [] ≡ d ∷ rest → (d ≡ becomes e) × (rest ≡ [])
          one true same = (cc, cc)
          one false same = absurd cc

  pub leaves_own : LeavesOwn left_by
  leaves_own e d rest is = let l = left_is e d rest is in (ap id_of l.0 ∙ after_id (parents_after set events taking) taking e, l.1)

  -- an event that isn't near refers to what it did, where it takes over no operations
  same_referents : ((c : ℕ) → is_removed set c ≡ false → taking.target c ≡ Some c) →
      (e : PlainEvent) → IsTrue (are_distinct (event_parents e)) → IsApart set e →
      ((id : ℕ) (parents : List ℕ) (ops : _) → list_any (is_removed set) parents ≡ false → taking.ops id parents ops ≡ ops) →
      referents_of (becomes e) ≡ referents_of e
  same_referents stays (Commit id mark branch author committer encoding comment parents ops aliases) distinct a same =
      ap (λ ps. map any.Commit ps ++ flat_map op_blobs (taking.ops id parents ops)) (unremoved_parents (is_removed set) (past events) parents distinct a.parents)
      ∙ ap (λ os. map any.Commit parents ++ flat_map op_blobs os) (same id parents ops a.parents)
  same_referents stays (Blob id mark bytes) distinct a same = refl
  same_referents stays (Tag id name target tagger comment mark) distinct a same =
      ap (λ o. any.Commit (unwrap_or o target) ∷ []) (stays target (kept_on set target (Tag id name target tagger comment mark) a.target refl))
  same_referents stays (Reset id branch (Some target)) distinct a same =
      ap (λ o. any.Commit (unwrap_or o target) ∷ []) (stays target (kept_on set target (Reset id branch (Some target)) a.target refl))
  same_referents stays (Reset id branch None) distinct a same = refl
  same_referents stays (Pass id line) distinct a same = refl

  pub near_settled : ((c : ℕ) → is_removed set c ≡ false → taking.target c ≡ Some c) →
      ((id : ℕ) (parents : List ℕ) (ops : _) → list_any (is_removed set) parents ≡ false → taking.ops id parents ops ≡ ops) →
      AreComplete (swept before (all_left set events taking)) → AreReadyNear set events (swept before (all_left set events taking)) →
      AreInOrder [] (swept before (all_left set events taking))
  near_settled stays same complete looked =
      let once = sound_once events h in
      subst (AreInOrder []) (sym left_flat)
      (left_in_order left_by leaves_own events
      (each_ready left_by leaves_own events once.ids (in_parts events h).in_order (subst AreComplete left_flat complete) (is_near set)
      (subst (λ es. AreReadyNear set events es) left_flat looked)
      (λ k e d at off is. ap referents_of (left_is e d [] is).0
      ∙ same_referents stays e (all_at (λ x. IsTrue (are_distinct (event_parents x))) events k e once.parents at) (is_apart set e off) same)))
