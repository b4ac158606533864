-- Flags of the commits of a set, and which ids have a flag.
use Rattle.std.proofs.Common.{◌≡◌, ◌∙◌, ℕ, zero, suc, ◌<◌, Bool, true, false, cond, ◌||◌, inl, inr, List, [], ◌∷◌, ◌++◌, Some, None, Result, Ok, Err, refl, sym, ap, subst, length, get_or, take, drop, eqb, arith, append-nil, filter}
use Rattle.std.proofs.Math.Bool.{or-false, or-true}
use Rattle.std.proofs.Math.ListN.{drop_of_length-le, set}
use Rattle.std.proofs.lemmas.Bool.{cases_Bool, cases_eq, false_from_ne_true}
use Rattle.std.proofs.lemmas.List.{length-replicate, get_or-set_other, get_or-set_same, length-set}
use Rattle.std.proofs.lemmas.List.Folds.{list_any-append}
use Rattle.std.proofs.lemmas.Option.{none-some, same_Some}
use Rattle.std.specs.Prelude.{IfOk, map, replicate, slice_get}
use Rattle.plain_model.specs.declared.id.AnyId.{AnyId}
use Rattle.plain_model.specs.declared.id.AnyId.TheVariants as any
use Rattle.plain_model.specs.declared.event.PlainEvent.{PlainEvent}
use Rattle.plain_model.specs.declared.event.PlainEvent.TheVariants.{Blob, Commit, Tag, Reset, Pass}
use Rattle.plain_model.specs.Lookups.{id_of, is_listed, place_of, same_id}
use Rattle.plain_model.proofs.Numbers.{eqb_turned}
use Rattle.history_laws.proofs.Ids.{one_place, same_id_refl, same_id_true}
use Rattle.history_laws.specs.Once.{AreDistinct}
use Rattle.event_arena.proofs.ListLemmas.{take_all}
use Rattle.ancestry_laws.specs.Ancestry.{commits, is_one_of}
use Rattle.graph_walk.specs.Flags.{FlagsMore, FlagsOf, flag_at, flagged_ids, is_commit_of, is_flagged, is_flagged_commit}
use Rattle.graph_walk.proofs.PlaceLemmas.{place_found, place_within}

-- ---- flags of a set

commits_push : (set : List ℕ) (c : ℕ) → map any.Commit (set ++ c ∷ []) ≡ map any.Commit set ++ any.Commit c ∷ []
commits_push [] c = refl
commits_push (s ∷ set) c = ap (λ ids. any.Commit s ∷ ids) (commits_push set c)

commit_of_push : (set : List ℕ) (c : ℕ) (e : PlainEvent) →
    is_commit_of (set ++ c ∷ []) e ≡ is_commit_of set e || (same_id (id_of e) (any.Commit c) || false)
commit_of_push set c e =
    ap (is_listed (id_of e)) (commits_push set c)
    ∙ list_any-append (same_id (id_of e)) (map any.Commit set) (any.Commit c ∷ [])

-- one commit more that is there
pub flags_push : (events : List PlainEvent) (set' : List ℕ) (c p : ℕ) (old mid : List Bool) → AreDistinct events →
    length old ≡ length events → place_of (any.Commit c) events ≡ Some p →
    FlagsMore events set' old mid → FlagsMore events (set' ++ c ∷ []) old (set mid p true)
flags_push events set' c p old mid once counted there f = record {
  count = length-set mid p true ∙ f.count;
  more = more;
}
  where
    low : p < length mid
    low = let a = place_within events (any.Commit c) p there in let b = f.count in omega arith

    more : (k : ℕ) (e : PlainEvent) → slice_get events k ≡ Some e →
        get_or (set mid p true) k false ≡ get_or old k false || is_commit_of (set' ++ c ∷ []) e
    more k e at = elim (cases_eq p k) [
      | inl is ↦
          let own : any.Commit c ≡ id_of e = one_place (any.Commit c) (id_of e) events p there ((place_found events k e at once).0 ∙ ap Some (sym is)) in
          let here : same_id (id_of e) (any.Commit c) ≡ true = ap (same_id (id_of e)) own ∙ same_id_refl (id_of e) in
          ap (λ j. get_or (set mid p true) j false) (sym is) ∙ get_or-set_same mid p true false low
          ∙ sym (ap (λ b. get_or old k false || b) (commit_of_push set' c e ∙ ap (λ b. is_commit_of set' e || (b || false)) here ∙ or-true (is_commit_of set' e)) ∙ or-true (get_or old k false))
      | inr other ↦
          let apart : same_id (id_of e) (any.Commit c) ≡ false =
          false_from_ne_true (same_id (id_of e) (any.Commit c)) (λ t. other (same_Some p k (sym there ∙ ap (λ id. place_of id events) (sym (same_id_true (id_of e) (any.Commit c) t)) ∙ (place_found events k e at once).0))) in
          get_or-set_other mid p k true false (λ e. other (sym e)) ∙ f.more k e at
          ∙ sym (ap (λ b. get_or old k false || b) (commit_of_push set' c e ∙ ap (λ b. is_commit_of set' e || (b || false)) apart ∙ or-false (is_commit_of set' e)))
    ]

-- one that isn't
pub flags_skip : (events : List PlainEvent) (set' : List ℕ) (c : ℕ) (old mid : List Bool) → AreDistinct events →
    place_of (any.Commit c) events ≡ None →
    FlagsMore events set' old mid → FlagsMore events (set' ++ c ∷ []) old mid
flags_skip events set' c old mid once absent f = record {
  count = f.count;
  more = λ k e at.
      let apart : same_id (id_of e) (any.Commit c) ≡ false =
      false_from_ne_true (same_id (id_of e) (any.Commit c)) (λ t. none-some k (sym absent ∙ ap (λ id. place_of id events) (sym (same_id_true (id_of e) (any.Commit c) t)) ∙ (place_found events k e at once).0)) in
      f.more k e at ∙ sym (ap (λ b. get_or old k false || b) (commit_of_push set' c e ∙ ap (λ b. is_commit_of set' e || (b || false)) apart ∙ or-false (is_commit_of set' e)));
}

-- ---- a test of commits

unfoldable pub of_commit : (ℕ → Bool) → PlainEvent → Bool
of_commit f (Commit id mark branch author committer encoding comment parents ops aliases) = f id
of_commit f (Blob id mark bytes) = false
of_commit f (Tag id name target tagger comment mark) = false
of_commit f (Reset id branch target) = false
of_commit f (Pass id line) = false

listed_commit : (set' : List ℕ) (c : ℕ) → is_listed (any.Commit c) (map any.Commit set') ≡ is_one_of set' c
listed_commit [] c = refl
listed_commit (s ∷ set') c =
    ap (λ b. b || is_listed (any.Commit c) (map any.Commit set')) (eqb_turned c s)
    ∙ ap (λ b. eqb s c || b) (listed_commit set' c)

unlisted : (own : AnyId) → ((s : ℕ) → same_id own (any.Commit s) ≡ false) → (set' : List ℕ) →
    is_listed own (map any.Commit set') ≡ false
unlisted own h [] = refl
unlisted own h (s ∷ set') = rw (h s) (unlisted own h set')

pub commit_of_is : (set' : List ℕ) (e : PlainEvent) → is_commit_of set' e ≡ of_commit (is_one_of set') e
unfolding of_commit
commit_of_is set' (Commit id mark branch author committer encoding comment parents ops aliases) = listed_commit set' id
commit_of_is set' (Blob id mark bytes) = unlisted (any.Blob id) (λ s. refl) set'
commit_of_is set' (Tag id name target tagger comment mark) = unlisted (any.Tag id) (λ s. refl) set'
commit_of_is set' (Reset id branch target) = unlisted (any.Reset id) (λ s. refl) set'
commit_of_is set' (Pass id line) = unlisted (any.Pass id) (λ s. refl) set'

-- flags that go by a test of commits
pub flagged_by : (f : ℕ → Bool) (es : List PlainEvent) (flags : List Bool) → length flags ≡ length es →
    ((k : ℕ) (e : PlainEvent) → slice_get es k ≡ Some e → get_or flags k false ≡ of_commit f e) →
    flagged_ids flags es ≡ map any.Commit (filter f (commits es))
unfolding of_commit
flagged_by f [] flags counted h = refl
flagged_by f (e ∷ es) [] counted h = absurd (omega arith)
flagged_by f (e ∷ es) (flag ∷ flags) counted h =
    one e flag (h 0 e refl) (flagged_by f es flags (omega arith) (λ k d at. h (suc k) d at))
  where
    one : (e : PlainEvent) (flag : Bool) → flag ≡ of_commit f e →
        flagged_ids flags es ≡ map any.Commit (filter f (commits es)) →
        flagged_ids (flag ∷ flags) (e ∷ es) ≡ map any.Commit (filter f (commits (e ∷ es)))
    one (Commit id mark branch author committer encoding comment parents ops aliases) flag is more =
        elim (cases_Bool (f id)) [
          | inl it ↦ rw (is, it) (ap (λ ids. any.Commit id ∷ ids) more)
          | inr no_it ↦ rw (is, no_it) more
        ]
    one (Blob id mark bytes) flag is more = rw is more
    one (Tag id name target tagger comment mark) flag is more = rw is more
    one (Reset id branch target) flag is more = rw is more
    one (Pass id line) flag is more = rw is more

-- an event with a commit's id is that commit
pub commit_id : (f : ℕ → Bool) (e : PlainEvent) (c : ℕ) → any.Commit c ≡ id_of e → of_commit f e ≡ f c
unfolding of_commit
commit_id f (Commit id mark branch author committer encoding comment parents ops aliases) c h = let is : c ≡ id = cc in ap f (sym is)
commit_id f (Blob id mark bytes) c h = absurd cc
commit_id f (Tag id name target tagger comment mark) c h = absurd cc
commit_id f (Reset id branch target) c h = absurd cc
commit_id f (Pass id line) c h = absurd cc

-- its flag by its id is the flag at its place
pub flag_of : (flags : List Bool) (events : List PlainEvent) (k c : ℕ) (e : PlainEvent) → AreDistinct events →
    slice_get events k ≡ Some e → any.Commit c ≡ id_of e → is_flagged_commit flags events c ≡ get_or flags k false
flag_of flags events k c e once at own =
    ap (is_flagged flags events) own ∙ ap (flag_at flags) (place_found events k e at once).0

-- ---- what the calls leave

-- one place more
pub flagged_item : (flags : List Bool) (es : List PlainEvent) (k : ℕ) (e : PlainEvent) (flag : Bool) →
    slice_get es k ≡ Some e → slice_get flags k ≡ Some flag →
    flagged_ids (take (suc k) flags) (take (suc k) es) ≡ flagged_ids (take k flags) (take k es) ++ (cond flag (id_of e ∷ []) [])
flagged_item flags [] k e flag h g = absurd (none-some e h)
flagged_item [] (x ∷ es) k e flag h g = absurd (none-some flag g)
flagged_item (f ∷ flags) (x ∷ es) zero e flag h g =
    subst (λ y. flagged_ids (take 1 (f ∷ flags)) (take 1 (x ∷ es)) ≡ cond flag (id_of y ∷ []) []) (same_Some x e h)
    (subst (λ b. flagged_ids (take 1 (f ∷ flags)) (take 1 (x ∷ es)) ≡ cond b (id_of x ∷ []) []) (same_Some f flag g) refl)
flagged_item (f ∷ flags) (x ∷ es) (suc k) e flag h g = by f (flagged_item flags es k e flag h g)
  where
    by : (f : Bool) →
        flagged_ids (take (suc k) flags) (take (suc k) es) ≡ flagged_ids (take k flags) (take k es) ++ (cond flag (id_of e ∷ []) []) →
        flagged_ids (take (suc (suc k)) (f ∷ flags)) (take (suc (suc k)) (x ∷ es)) ≡ flagged_ids (take (suc k) (f ∷ flags)) (take (suc k) (x ∷ es)) ++ (cond flag (id_of e ∷ []) [])
    by true more = ap (λ ids. id_of x ∷ ids) more
    by false more = more

-- a slice that is written back whole
pub refilled : (n : ℕ) (new old : List Bool) → length new ≡ n → length old ≡ n →
    take n (new ++ drop (length new) old) ≡ new
refilled n new old a b =
    ap (λ ys. take n (new ++ ys)) (drop_of_length-le old (omega arith)) ∙ ap (take n) (append-nil new)
    ∙ take_all new n (omega arith)

-- what holds of each value holds of the one that a call gives
pub if_ok : {T E : Type 0} (r : Result T E) (P Q : T → Type 0) → ((x : T) → P x → Q x) → IfOk r P → IfOk r Q
if_ok (Ok x) P Q f h = f x h
if_ok (Err e) P Q f h = tt

-- nowhere is a flag
pub no_flag : (n k : ℕ) → get_or (replicate n false) k false ≡ false
no_flag zero k = refl
no_flag (suc n) zero = refl
no_flag (suc n) (suc k) = no_flag n k

-- ---- flags of ids

pub ids_first : (events : List PlainEvent) → FlagsOf events [] (replicate (length events) false)
ids_first events = record { count = length-replicate (length events) false; flag = λ k e at. no_flag (length events) k }

pub ids_push : (events : List PlainEvent) (ids : List AnyId) (own : AnyId) (p : ℕ) (flags : List Bool) →
    AreDistinct events → place_of own events ≡ Some p → FlagsOf events ids flags →
    FlagsOf events (ids ++ own ∷ []) (set flags p true)
ids_push events ids own p flags once there f = record { count = length-set flags p true ∙ f.count; flag = flag }
  where
    low : p < length flags
    low = let a = place_within events own p there in let b = f.count in omega arith

    flag : (k : ℕ) (e : PlainEvent) → slice_get events k ≡ Some e →
        get_or (set flags p true) k false ≡ is_listed (id_of e) (ids ++ own ∷ [])
    flag k e at = elim (cases_eq p k) [
      | inl is ↦
          let same : own ≡ id_of e = one_place own (id_of e) events p there ((place_found events k e at once).0 ∙ ap Some (sym is)) in
          let here : same_id (id_of e) own ≡ true = ap (same_id (id_of e)) same ∙ same_id_refl (id_of e) in
          ap (λ j. get_or (set flags p true) j false) (sym is) ∙ get_or-set_same flags p true false low
          ∙ sym (list_any-append (same_id (id_of e)) ids (own ∷ []) ∙ ap (λ b. is_listed (id_of e) ids || (b || false)) here ∙ or-true (is_listed (id_of e) ids))
      | inr other ↦
          let apart : same_id (id_of e) own ≡ false =
          false_from_ne_true (same_id (id_of e) own) (λ t. other (same_Some p k (sym there ∙ ap (λ id. place_of id events) (sym (same_id_true (id_of e) own t)) ∙ (place_found events k e at once).0))) in
          get_or-set_other flags p k true false (λ e. other (sym e)) ∙ f.flag k e at
          ∙ sym (list_any-append (same_id (id_of e)) ids (own ∷ []) ∙ ap (λ b. is_listed (id_of e) ids || (b || false)) apart ∙ or-false (is_listed (id_of e) ids))
    ]

pub ids_skip : (events : List PlainEvent) (ids : List AnyId) (own : AnyId) (flags : List Bool) → AreDistinct events →
    place_of own events ≡ None → FlagsOf events ids flags → FlagsOf events (ids ++ own ∷ []) flags
ids_skip events ids own flags once absent f = record {
  count = f.count;
  flag = λ k e at.
      let apart : same_id (id_of e) own ≡ false =
      false_from_ne_true (same_id (id_of e) own) (λ t. none-some k (sym absent ∙ ap (λ id. place_of id events) (sym (same_id_true (id_of e) own t)) ∙ (place_found events k e at once).0)) in
      f.flag k e at ∙ sym (list_any-append (same_id (id_of e)) ids (own ∷ []) ∙ ap (λ b. is_listed (id_of e) ids || (b || false)) apart ∙ or-false (is_listed (id_of e) ids));
}
