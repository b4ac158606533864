-- Flags of what is near a set, and what becomes of the events that aren't.
use Rattle.std.proofs.Common.{◌≡◌, ◌∙◌, ℕ, Bool, true, false, cond, not, ◌||◌, ◌&&◌, inl, inr, List, [], ◌∷◌, ◌++◌, Option, Some, None, refl, sym, ap, subst, get_or, true≢false}
use Rattle.std.proofs.lemmas.Bool.{cases_Bool, false_from_ne_true, or_from, or_left, or_parts, or_right}
use Rattle.std.proofs.lemmas.List.Concat.{flat_map-cons}
use Rattle.std.proofs.lemmas.List.Folds.{list_any-append}
use Rattle.std.proofs.lemmas.Option.{none-some, same_Some}
use Rattle.std.specs.List.{list_any}
use Rattle.std.specs.Option.{option_map_or}
use Rattle.std.specs.Prelude.{flat_map, is_some, option_and_then, slice_get}
use Rattle.plain_model.specs.declared.id.AnyId.{AnyId}
use Rattle.plain_model.specs.declared.id.AnyId.TheVariants as any
use Rattle.plain_model.specs.declared.event.PlainEvent.{PlainEvent}
use Rattle.plain_model.specs.declared.event.PlainEvent.TheVariants.{Blob, Commit, Tag, Reset, Pass}
use Rattle.plain_model.specs.Lookups.{event_parents, find_event, id_of, is_listed, same_id}
use Rattle.plain_model.specs.Soundness.{IsSound}
use Rattle.history_laws.proofs.Ids.{same_id_refl, same_id_true}
use Rattle.event_arena.specs.Pointers.{AreAmong, HasPointers, is_pointer}
use Rattle.history_laws.proofs.SoundOnce.{sound_once}
use Rattle.graph_walk.specs.Children.{children_of_all}
use Rattle.graph_walk.specs.Flags.{FlagsOf, is_flagged_commit}
use Rattle.graph_walk.proofs.ChildLemmas.{no_child}
use Rattle.graph_walk.proofs.FlagLemmas.{flag_of}
use Rattle.graph_walk.proofs.PlaceLemmas.{place_found}
use Rattle.squash_laws.specs.Removed.{Takings, is_removed}
use Rattle.plan_steps.specs.Leaving.{goes}
use Rattle.plan_steps.specs.Near.{AreNear, is_near, is_on, on_flagged}
use Rattle.plan_steps.specs.Targets.{lost_target, target_for}
use Rattle.plan_steps.proofs.NodeLemmas.{found_at, target_there}

-- ---- ids among others

pub all_front : (xs ys : List AnyId) → AreAmong xs (xs ++ ys)
all_front xs ys id h = list_any-append (same_id id) xs ys ∙ or_left (is_listed id xs) (is_listed id ys) h

pub all_back : (xs ys : List AnyId) → AreAmong ys (xs ++ ys)
all_back xs ys id h = list_any-append (same_id id) xs ys ∙ or_right (is_listed id xs) (is_listed id ys) h

-- what one of the ids gives is among what all of them give
among_all : (f : AnyId → List AnyId) (ids : List AnyId) (id x : AnyId) → is_listed id ids ≡ true → is_listed x (f id) ≡ true →
    is_listed x (flat_map f ids) ≡ true
among_all f [] id x h own = absurd (true≢false (sym h))
among_all f (y ∷ ids) id x h own = elim (cases_Bool (same_id id y)) [
  | inl it ↦
      ap (is_listed x) (flat_map-cons f y ids)
      ∙ all_front (f y) (flat_map f ids) x (subst (λ z. is_listed x (f z) ≡ true) (same_id_true id y it) own)
  | inr other ↦ ap (is_listed x) (flat_map-cons f y ids) ∙ all_back (f y) (flat_map f ids) x (among_all f ids id x (rw other at h) own)
]

-- ---- what is near

module _ (set : List AnyId) (events : List PlainEvent) (sound : IsSound events) (flags : List Bool) (f : FlagsOf events set flags) where
  flag_is : (k t : ℕ) (e : PlainEvent) → slice_get events k ≡ Some e → target_for Some e ≡ Some t → is_flagged_commit flags events t ≡ is_removed set t
  flag_is k t e at is = by (find_event (any.Commit t) events) refl (target_there events sound k t e at is)
    where
      by : (o : Option PlainEvent) → find_event (any.Commit t) events ≡ o → is_some o ≡ true → is_flagged_commit flags events t ≡ is_removed set t
      by None found there = absurd (true≢false (sym there))
      by (Some d) found there =
          let a = found_at events sound t d found in
          flag_of flags events a.place t d (sound_once events sound).ids a.at a.own ∙ f.flag a.place d a.at ∙ ap (λ id. is_listed id set) (sym a.own)

  -- one on a removed commit is found under its id
  on_listed : (k t : ℕ) (e : PlainEvent) → slice_get events k ≡ Some e → target_for Some e ≡ Some t → is_removed set t ≡ true →
      is_listed (id_of e) (on_flagged flags events (id_of e)) ≡ true
  on_listed k t e at is gone =
      let found = (place_found events k e at (sound_once events sound).ids).1 in
      let on : option_map_or (is_on (is_flagged_commit flags events)) (find_event (id_of e) events) false ≡ true =
      ap (λ o. option_map_or (is_on (is_flagged_commit flags events)) o false) found
      ∙ ap (λ o. option_map_or (is_flagged_commit flags events) o false) is ∙ flag_is k t e at is ∙ gone in
      ap (λ b. is_listed (id_of e) (cond b (id_of e ∷ []) [])) on ∙ or_left (same_id (id_of e) (id_of e)) false (same_id_refl (id_of e))

  points : (t : ℕ) (e : PlainEvent) → target_for Some e ≡ Some t → is_pointer (id_of e) ≡ true
  points t (Tag id name target tagger comment mark) is = refl
  points t (Reset id branch target) is = refl
  points t (Blob id mark bytes) is = absurd (none-some t is)
  points t (Commit id mark branch author committer encoding comment parents ops aliases) is = absurd (none-some t is)
  points t (Pass id line) is = absurd (none-some t is)

  on_is : (k t : ℕ) (e : PlainEvent) (pointers ids : List AnyId) → HasPointers pointers events →
      AreAmong (flat_map (on_flagged flags events) pointers) ids → slice_get events k ≡ Some e → target_for Some e ≡ Some t →
      is_removed set t ≡ true → is_listed (id_of e) ids ≡ true
  on_is k t e pointers ids all more at is gone =
      let place = (place_found events k e at (sound_once events sound).ids).0 in
      more (id_of e) (among_all (on_flagged flags events) pointers (id_of e) (id_of e) (all (id_of e) k (points t e is) place) (on_listed k t e at is gone))

  -- flags of all these are flags of what is near
  pub near_flagged : (pointers ids : List AnyId) (near : List Bool) → HasPointers pointers events → FlagsOf events ids near →
      AreAmong (children_of_all events set) ids → AreAmong set ids → AreAmong (flat_map (on_flagged flags events) pointers) ids →
      AreNear set events near
  near_flagged pointers ids near all n children own on = record { count = n.count; apart = apart }
    where
      apart : (k : ℕ) (e : PlainEvent) → slice_get events k ≡ Some e → get_or near k false ≡ false → is_near set e ≡ false
      apart k e at off =
          let out : is_listed (id_of e) ids ≡ false = sym (n.flag k e at) ∙ off in
          let one = false_from_ne_true (is_listed (id_of e) set) (λ t. true≢false (sym (own (id_of e) t) ∙ out)) in
          let two = no_child k e events set at (false_from_ne_true (is_listed (id_of e) (children_of_all events set)) (λ t. true≢false (sym (children (id_of e) t) ∙ out))) in
          let three = false_from_ne_true (is_on (is_removed set) e) (λ t. by (target_for Some e) refl t) in
          or_from (is_listed (id_of e) set) (list_any (is_removed set) (event_parents e) || is_on (is_removed set) e) one
          (or_from (list_any (is_removed set) (event_parents e)) (is_on (is_removed set) e) two three)
        where
          by : (o : Option ℕ) → target_for Some e ≡ o → option_map_or (is_removed set) o false ≡ true → ⊥
          by None is t = true≢false (sym t)
          by (Some c) is t = true≢false (sym (on_is k c e pointers ids all on at is t) ∙ (sym (n.flag k e at) ∙ off))

-- ---- what isn't near

-- it is none of the set, no child of a removed commit, and no tag or reset on one
pub record IsApart (set : List AnyId) (e : PlainEvent) : Type 0 where
  pub own : is_listed (id_of e) set ≡ false
  pub parents : list_any (is_removed set) (event_parents e) ≡ false
  pub target : lost_target set e ≡ None

pub is_apart : (set : List AnyId) (e : PlainEvent) → is_near set e ≡ false → IsApart set e
is_apart set e h =
    let first = or_parts (is_listed (id_of e) set) (list_any (is_removed set) (event_parents e) || is_on (is_removed set) e) h in
    let rest = or_parts (list_any (is_removed set) (event_parents e)) (is_on (is_removed set) e) first.1 in
    record { own = first.0; parents = rest.0; target = by (target_for Some e) rest.1 }
  where
    by : (o : Option ℕ) → option_map_or (is_removed set) o false ≡ false → option_and_then (λ c. cond (is_removed set c) (Some c) None) o ≡ None
    by None h = refl
    by (Some c) h = ap (λ b. cond b (Some c) None) h

-- a tag or a reset on a removed commit
pub lost_is : (set : List AnyId) (c : ℕ) (e : PlainEvent) → lost_target set e ≡ Some c → (target_for Some e ≡ Some c) × (is_removed set c ≡ true)
lost_is set c e h = by (target_for Some e) refl h
  where
    by : (o : Option ℕ) → target_for Some e ≡ o → option_and_then (λ c. cond (is_removed set c) (Some c) None) o ≡ Some c → (target_for Some e ≡ Some c) × (is_removed set c ≡ true)
    by None is h = absurd (none-some c h)
    by (Some d) is h = elim (cases_Bool (is_removed set d)) [
      | inl gone ↦
          let same : d ≡ c = same_Some d c (sym (ap (λ b. cond b (Some d) None) gone) ∙ h) in
          (is ∙ ap Some same, subst (λ x. is_removed set x ≡ true) same gone)
      | inr stays ↦ absurd (none-some c (sym (ap (λ b. cond b (Some d) None) stays) ∙ h))
    ]

-- one on a commit that stays
pub kept_on : (set : List AnyId) (c : ℕ) (e : PlainEvent) → lost_target set e ≡ None → target_for Some e ≡ Some c → is_removed set c ≡ false
kept_on set c e none is = false_from_ne_true (is_removed set c) (λ gone.
    none-some c (sym none ∙ ap (option_and_then (λ d. cond (is_removed set d) (Some d) None)) is ∙ ap (λ b. cond b (Some c) None) gone))

module _ (set : List AnyId) (takes : Takings) (stays : (c : ℕ) → is_removed set c ≡ false → takes.target c ≡ Some c) where
  -- it doesn't go
  pub apart_stays : (e : PlainEvent) → IsApart set e → goes set takes e ≡ false
  apart_stays (Blob id mark bytes) a = refl
  apart_stays (Commit id mark branch author committer encoding comment parents ops aliases) a = a.own
  apart_stays (Tag id name target tagger comment mark) a =
      or_from (is_listed (any.Tag id) set) (not (is_some (takes.target target))) a.own
      (ap (λ o. not (is_some o)) (stays target (kept_on set target (Tag id name target tagger comment mark) a.target refl)))
  apart_stays (Reset id branch (Some target)) a =
      or_from (is_listed (any.Reset id) set) (not (is_some (takes.target target))) a.own
      (ap (λ o. not (is_some o)) (stays target (kept_on set target (Reset id branch (Some target)) a.target refl)))
  apart_stays (Reset id branch None) a = a.own
  apart_stays (Pass id line) a = a.own

  -- a tag or a reset that isn't one of the set goes where it is on a removed commit and no other is left for it
  pub lost_goes : (e : PlainEvent) (entry : Option ℕ) → is_listed (id_of e) set ≡ false →
      ((c : ℕ) → lost_target set e ≡ Some c → entry ≡ takes.target c) → is_some (lost_target set e) && not (is_some entry) ≡ goes set takes e
  lost_goes (Blob id mark bytes) entry out is = refl
  lost_goes (Commit id mark branch author committer encoding comment parents ops aliases) entry out is = sym out
  lost_goes (Tag id name target tagger comment mark) entry out is =
      either (is_removed set target) refl ∙ sym (ap (λ b. b || not (is_some (takes.target target))) out)
    where
      either : (b : Bool) → is_removed set target ≡ b → is_some (lost_target set (Tag id name target tagger comment mark)) && not (is_some entry) ≡ not (is_some (takes.target target))
      either true gone =
          let on : lost_target set (Tag id name target tagger comment mark) ≡ Some target = ap (λ b. cond b (Some target) None) gone in
          ap (λ o. is_some o && not (is_some entry)) on ∙ ap (λ o. not (is_some o)) (is target on)
      either false kept =
          ap (λ b. is_some (cond b (Some target) None) && not (is_some entry)) kept ∙ sym (ap (λ o. not (is_some o)) (stays target kept))
  lost_goes (Reset id branch (Some target)) entry out is =
      either (is_removed set target) refl ∙ sym (ap (λ b. b || not (is_some (takes.target target))) out)
    where
      either : (b : Bool) → is_removed set target ≡ b → is_some (lost_target set (Reset id branch (Some target))) && not (is_some entry) ≡ not (is_some (takes.target target))
      either true gone =
          let on : lost_target set (Reset id branch (Some target)) ≡ Some target = ap (λ b. cond b (Some target) None) gone in
          ap (λ o. is_some o && not (is_some entry)) on ∙ ap (λ o. not (is_some o)) (is target on)
      either false kept =
          ap (λ b. is_some (cond b (Some target) None) && not (is_some entry)) kept ∙ sym (ap (λ o. not (is_some o)) (stays target kept))
  lost_goes (Reset id branch None) entry out is = sym out
  lost_goes (Pass id line) entry out is = sym out

-- ---- where a tag or a reset goes

-- one on a removed commit
pub goes_on : (set : List AnyId) (goes_to : ℕ → Option ℕ) (e : PlainEvent) (c : ℕ) → lost_target set e ≡ Some c → target_for goes_to e ≡ goes_to c
goes_on set goes_to e c lost = on e (lost_is set c e lost).0
  where
    on : (e : PlainEvent) → target_for Some e ≡ Some c → target_for goes_to e ≡ goes_to c
    on (Tag id name target tagger comment mark) is = ap goes_to (same_Some target c is)
    on (Reset id branch (Some target)) is = ap goes_to (same_Some target c is)
    on (Reset id branch None) is = absurd (none-some c is)
    on (Blob id mark bytes) is = absurd (none-some c is)
    on (Commit id mark branch author committer encoding comment parents ops aliases) is = absurd (none-some c is)
    on (Pass id line) is = absurd (none-some c is)

-- and any other, where those on commits that stay stay
pub stays_on : (set : List AnyId) (goes_to : ℕ → Option ℕ) → ((c : ℕ) → is_removed set c ≡ false → goes_to c ≡ Some c) → (e : PlainEvent) → lost_target set e ≡ None →
    target_for goes_to e ≡ target_for Some e
stays_on set goes_to stays (Tag id name target tagger comment mark) none = stays target (kept_on set target (Tag id name target tagger comment mark) none refl)
stays_on set goes_to stays (Reset id branch (Some target)) none = stays target (kept_on set target (Reset id branch (Some target)) none refl)
stays_on set goes_to stays (Reset id branch None) none = refl
stays_on set goes_to stays (Blob id mark bytes) none = refl
stays_on set goes_to stays (Commit id mark branch author committer encoding comment parents ops aliases) none = refl
stays_on set goes_to stays (Pass id line) none = refl
