-- A history under places as ids is sound, and each id's place is its new id.
use Rattle.std.proofs.Common.{◌≡◌, ℕ, suc, ◌+◌, Bool, true, false, not, List, [], ◌∷◌, ◌++◌, length, map, refl, sym, ap, subst, ◌∙◌, inl, inr, ◌⊎◌, Option, Some, None, arith, append_assoc, length-append, eqb-true, eq-eqb, ne_eqb}
use Rattle.std.specs.Prelude.{◌==◌, ◌||◌, ◌&&◌, option_map, unwrap_or, IsFalse}
use Rattle.plain_model.specs.Streams.{is_marked}
use Rattle.std.specs.List.{AllByRecursion, list_any}
use Rattle.std.proofs.lemmas.Bool.{cases_Bool, false_from_ne_true, or_cases}
use Rattle.plain_model.specs.declared.id.AnyId.{AnyId}
use Rattle.plain_model.specs.declared.id.AnyId.TheVariants as any
use Rattle.plain_model.specs.declared.operation.Mode.TheVariants.{Plain, Executable, Link, Gitlink}
use Rattle.plain_model.specs.declared.operation.Content.TheVariants.{Blob as OfBlob, Object}
use Rattle.plain_model.specs.declared.operation.FileOp.{FileOp}
use Rattle.plain_model.specs.declared.operation.FileOp.TheVariants.{Modify, Delete, Copy, Rename, DeleteAll}
use Rattle.plain_model.specs.declared.event.PlainEvent.{PlainEvent}
use Rattle.plain_model.specs.declared.event.PlainEvent.TheVariants.{Blob, Commit, Tag, Reset, Pass}
use Rattle.plain_model.specs.Lookups.{id_of, id_number}
use Rattle.plain_model.specs.Snapshots.{refs}
use Rattle.plain_model.specs.Soundness.{AreSoundAfter, IsCommitOf, IsFormedEvent, IsFormedOp, IsSoundEvent, RefersBack, are_distinct, has_id}
use Rattle.plain_model.specs.Trees.{TreeOf}
use Rattle.round_trip_laws.specs.AsRead.{AreRootedAfter, IsRooted}
use Rattle.history_laws.proofs.Ids.{place_after}
use Rattle.history_laws.proofs.Commits.{refs_append}
use Rattle.history_laws.proofs.PlacedIds.{id_below}
use Rattle.history_laws.specs.Finding.{event_number}
use Rattle.shown_laws.specs.AsWritten.{renamed, renamed_from, renamed_op}
use Rattle.shown_laws.proofs.Known.{AreFitAfter, IsFitEvent}
use Rattle.shown_laws.proofs.Places.{Agree, agree_front, append_under, blob_under, commit_under, length_under, marks_under, one_place, placed}
use Rattle.shown_laws.proofs.Resets.{AreRootedOn, IsRootedOn}

-- ---- places

-- one event more
more : (earlier : List PlainEvent) (e : PlainEvent) (k : ℕ) → k ≡ length earlier + 1 → suc k ≡ length (earlier ++ e ∷ []) + 1
more earlier e k is = let many = length-append earlier (e ∷ []) in omega arith

one_more : (earlier : List PlainEvent) (e : PlainEvent) (k : ℕ) → k ≡ 1 + length earlier → suc k ≡ 1 + length (earlier ++ e ∷ [])
one_more earlier e k is = let many = length-append earlier (e ∷ []) in omega arith

place_is : (earlier events : List PlainEvent) (e : PlainEvent) (k : ℕ) → k ≡ length earlier + 1 → has_id earlier (id_of e) ≡ false → event_number (earlier ++ e ∷ events) (id_of e) ≡ k
place_is earlier events e k is h = ap (λ (o : Option ℕ). unwrap_or (option_map (λ n. n + 1) o) 0) (place_after earlier events e h) ∙ sym is

module _ (whole : List PlainEvent) where
  abbrev blob_in : ℕ → ℕ
  blob_in b = event_number whole (any.Blob b)

  abbrev commit_in : ℕ → ℕ
  commit_in c = event_number whole (any.Commit c)

  agree_after : (earlier events : List PlainEvent) (k : ℕ) → whole ≡ earlier ++ events → k ≡ length earlier + 1 → AreFitAfter earlier events → Agree blob_in commit_in k events
  agree_after earlier [] k w is h = tt
  agree_after earlier (Blob id mark bytes ∷ events) k w is h =
      let e : PlainEvent = Blob id mark bytes in (
        ap (λ (l : List PlainEvent). event_number l (any.Blob id)) w ∙ place_is earlier events e k is h.0.0,
        agree_after (earlier ++ e ∷ []) events (suc k) (w ∙ sym (append_assoc earlier (e ∷ []) events)) (more earlier e k is) h.1,
      )
  agree_after earlier (Commit id mark branch author committer encoding comment parents ops aliases ∷ events) k w is h =
      let e : PlainEvent = Commit id mark branch author committer encoding comment parents ops aliases in (
        ap (λ (l : List PlainEvent). event_number l (any.Commit id)) w ∙ place_is earlier events e k is h.0.0,
        agree_after (earlier ++ e ∷ []) events (suc k) (w ∙ sym (append_assoc earlier (e ∷ []) events)) (more earlier e k is) h.1,
      )
  agree_after earlier (Tag id name target tagger comment mark ∷ events) k w is h =
      let e : PlainEvent = Tag id name target tagger comment mark in
      agree_after (earlier ++ e ∷ []) events (suc k) (w ∙ sym (append_assoc earlier (e ∷ []) events)) (more earlier e k is) h.1
  agree_after earlier (Reset id branch target ∷ events) k w is h =
      let e : PlainEvent = Reset id branch target in
      agree_after (earlier ++ e ∷ []) events (suc k) (w ∙ sym (append_assoc earlier (e ∷ []) events)) (more earlier e k is) h.1
  agree_after earlier (Pass id line ∷ events) k w is h =
      let e : PlainEvent = Pass id line in
      agree_after (earlier ++ e ∷ []) events (suc k) (w ∙ sym (append_assoc earlier (e ∷ []) events)) (more earlier e k is) h.1

-- the ids of blobs and commits become their places
pub places_agree : (events : List PlainEvent) → AreFitAfter [] events → Agree (λ b. event_number events (any.Blob b)) (λ c. event_number events (any.Commit c)) 1 events
places_agree events h = agree_after events [] events 1 refl refl h

-- ---- soundness

module _ (blob commit : ℕ → ℕ) where
  abbrev under : ℕ → List PlainEvent → List PlainEvent
  under k events = renamed_from blob commit k events

  module _ (old : List PlainEvent) (agree : Agree blob commit 1 old) where
    -- the next place is no id yet
    fresh : (k : ℕ) (wanted : AnyId) → k ≡ 1 + length old → id_number wanted ≡ k → has_id (under 1 old) wanted ≡ false
    fresh k wanted is own =
        let many = length_under blob commit 1 old in
        false_from_ne_true (has_id (under 1 old) wanted) (λ h. let below = id_below 1 (under 1 old) (placed blob commit 1 old) wanted h in absurd (omega arith))

    parents_there : (parents : List ℕ) → AllByRecursion (IsCommitOf old) parents → AllByRecursion (IsCommitOf (under 1 old)) (map commit parents)
    parents_there [] h = tt
    parents_there (p ∷ ps) h = (commit_under blob commit 1 p old agree h.0, parents_there ps h.1)

    same_test : (m n : ℕ) → IsCommitOf old m → IsCommitOf old n → (commit m == commit n) ≡ (m == n)
    same_test m n h i = elim (cases_Bool (m == n)) [
      | inl is ↦ eq-eqb (commit m) (commit n) (ap commit (eqb-true m n is)) ∙ sym is
      | inr other ↦ ne_eqb (commit m) (commit n) (λ e. let is = eq-eqb m n (one_place blob commit 1 m n old agree h i e) in absurd cc) ∙ sym other
    ]

    none_twice : (n : ℕ) (ns : List ℕ) → IsCommitOf old n → AllByRecursion (IsCommitOf old) ns → list_any (λ m. m == commit n) (map commit ns) ≡ list_any (λ m. m == n) ns
    none_twice n [] h i = refl
    none_twice n (m ∷ ns) h i =
        ap (λ t. t || list_any (λ x. x == commit n) (map commit ns)) (same_test m n i.0 h) ∙ ap (λ t. (m == n) || t) (none_twice n ns h i.1)

    distinct_still : (ns : List ℕ) → AllByRecursion (IsCommitOf old) ns → are_distinct (map commit ns) ≡ are_distinct ns
    distinct_still [] h = refl
    distinct_still (n ∷ ns) h =
        ap (λ t. not t && are_distinct (map commit ns)) (none_twice n ns h.0 h.1) ∙ ap (λ t. not (list_any (λ m. m == n) ns) && t) (distinct_still ns h.1)

    as_many : (ns : List ℕ) → length (map commit ns) ≡ length ns
    as_many [] = refl
    as_many (n ∷ ns) = ap suc (as_many ns)

    op_refers : (op : FileOp) → RefersBack old op → RefersBack (under 1 old) (renamed_op blob commit op)
    op_refers (Modify Gitlink (OfBlob b) path) h = h
    op_refers (Modify Plain (OfBlob b) path) h = blob_under blob commit 1 b old agree h
    op_refers (Modify Executable (OfBlob b) path) h = blob_under blob commit 1 b old agree h
    op_refers (Modify Link (OfBlob b) path) h = blob_under blob commit 1 b old agree h
    op_refers (Modify Gitlink (Object digits) path) h = tt
    op_refers (Modify Plain (Object digits) path) h = tt
    op_refers (Modify Executable (Object digits) path) h = tt
    op_refers (Modify Link (Object digits) path) h = tt
    op_refers (Delete path) h = tt
    op_refers (Copy source target) h = tt
    op_refers (Rename source target) h = tt
    op_refers DeleteAll h = tt

    ops_refer : (ops : List FileOp) → AllByRecursion (RefersBack old) ops → AllByRecursion (RefersBack (under 1 old)) (map (renamed_op blob commit) ops)
    ops_refer [] h = tt
    ops_refer (op ∷ ops) h = (op_refers op h.0, ops_refer ops h.1)

    none_marked : (marks : List ℕ) → AllByRecursion (λ m. IsFalse (is_marked old m)) marks → AllByRecursion (λ m. IsFalse (is_marked (under 1 old) m)) marks
    none_marked [] h = tt
    none_marked (m ∷ marks) h = (marks_under blob commit 1 m old ∙ h.0, none_marked marks h.1)

    event_sound : (k : ℕ) → k ≡ 1 + length old → (e : PlainEvent) → IsFitEvent old e → IsSoundEvent (under 1 old) (renamed blob commit k e)
    event_sound k is (Blob id mark bytes) h = (fresh k (any.Blob k) is refl, marks_under blob commit 1 mark old ∙ h.1)
    event_sound k is (Commit id mark branch author committer encoding comment parents ops aliases) h = (
      fresh k (any.Commit k) is refl,
      marks_under blob commit 1 mark old ∙ h.1,
      h.2,
      h.3,
      h.4,
      h.5,
      parents_there parents h.6,
      distinct_still parents h.6 ∙ h.7,
      (let few = h.8 in let many = as_many parents in omega arith),
      ops_refer ops h.9,
      none_marked aliases h.10,
      h.11,
    )
    event_sound k is (Tag id name target tagger comment None) h = (fresh k (any.Tag k) is refl, h.0, commit_under blob commit 1 target old agree h.1, h.2, tt)
    event_sound k is (Tag id name target tagger comment (Some mark)) h = (fresh k (any.Tag k) is refl, h.0, commit_under blob commit 1 target old agree h.1, h.2, marks_under blob commit 1 mark old ∙ h.3)
    event_sound k is (Reset id branch None) h = (fresh k (any.Reset k) is refl, h.0, tt)
    event_sound k is (Reset id branch (Some c)) h = (fresh k (any.Reset k) is refl, h.0, commit_under blob commit 1 c old agree h.1)
    event_sound k is (Pass id line) h = (fresh k (any.Pass k) is refl, h)

  sound_after : (old events : List PlainEvent) (k : ℕ) → Agree blob commit 1 (old ++ events) → k ≡ 1 + length old → AreFitAfter old events → AreSoundAfter (under 1 old) (under k events)
  sound_after old [] k a is h = tt
  sound_after old (e ∷ events) k a is h = (
    event_sound old (agree_front blob commit 1 old (e ∷ events) a) k is e h.0,
    subst (λ (l : List PlainEvent). AreSoundAfter l (under (suc k) events)) (append_under blob commit 1 k old (e ∷ []) is)
        (sound_after (old ++ e ∷ []) events (suc k) (subst (λ (l : List PlainEvent). Agree blob commit 1 l) (sym (append_assoc old (e ∷ []) events)) a) (one_more old e k is) h.1),
  )

  pub sound_under : (events : List PlainEvent) → Agree blob commit 1 events → AreFitAfter [] events → AreSoundAfter [] (under 1 events)
  sound_under events a h = sound_after [] events 1 a refl h

  -- ---- commits by their new ids

  pub record CameFrom (events : List PlainEvent) (new : ℕ) : Type 0 where
    pub commit_id : ℕ
    pub was : IsCommitOf events commit_id
    pub is : commit commit_id ≡ new

  pub came_from : (k c : ℕ) (events : List PlainEvent) → Agree blob commit k events → has_id (under k events) (any.Commit c) ≡ true → CameFrom events c
  came_from k c [] a h = absurd cc
  came_from k c (Commit id mark branch author committer encoding comment parents ops aliases ∷ events) a h =
      go (or_cases (k == c) (has_id (under (suc k) events) (any.Commit c)) h) (λ x. came_from (suc k) c events a.1 x)
    where
      go : ((k == c) ≡ true) ⊎ (has_id (under (suc k) events) (any.Commit c) ≡ true) → (has_id (under (suc k) events) (any.Commit c) ≡ true → CameFrom events c)
          → CameFrom (Commit id mark branch author committer encoding comment parents ops aliases ∷ events) c
      go (inl here) more = record { commit_id = id; was = ap (λ t. t || has_id events (any.Commit id)) (eq-eqb id id refl); is = a.0 ∙ eqb-true k c here }
      go (inr later) more = let r = more later in record { commit_id = r.commit_id; was = there (id == r.commit_id) (has_id events (any.Commit r.commit_id)) r.was; is = r.is }
        where
          there : (b t : Bool) → t ≡ true → (b || t) ≡ true
          there true t h = refl
          there false t h = h
  came_from k c (Blob id mark bytes ∷ events) a h = let r = came_from (suc k) c events a.1 h in record { commit_id = r.commit_id; was = r.was; is = r.is }
  came_from k c (Tag id name target tagger comment mark ∷ events) a h = let r = came_from (suc k) c events a h in record { commit_id = r.commit_id; was = r.was; is = r.is }
  came_from k c (Reset id branch target ∷ events) a h = let r = came_from (suc k) c events a h in record { commit_id = r.commit_id; was = r.was; is = r.is }
  came_from k c (Pass id line ∷ events) a h = let r = came_from (suc k) c events a h in record { commit_id = r.commit_id; was = r.was; is = r.is }

  -- ---- fields

  op_formed : (op : FileOp) → IsFormedOp op → IsFormedOp (renamed_op blob commit op)
  op_formed (Modify mode (OfBlob b) path) h = h
  op_formed (Modify mode (Object digits) path) h = h
  op_formed (Delete path) h = h
  op_formed (Copy source target) h = h
  op_formed (Rename source target) h = h
  op_formed DeleteAll h = h

  ops_formed : (ops : List FileOp) → AllByRecursion IsFormedOp ops → AllByRecursion IsFormedOp (map (renamed_op blob commit) ops)
  ops_formed [] h = tt
  ops_formed (op ∷ ops) h = (op_formed op h.0, ops_formed ops h.1)

  pub formed_under : (k : ℕ) (events : List PlainEvent) → AllByRecursion IsFormedEvent events → AllByRecursion IsFormedEvent (under k events)
  formed_under k [] h = tt
  formed_under k (Blob id mark bytes ∷ events) h = (h.0, formed_under (suc k) events h.1)
  formed_under k (Commit id mark branch author committer encoding comment parents ops aliases ∷ events) h = ((h.0.0, ops_formed ops h.0.1, h.0.2), formed_under (suc k) events h.1)
  formed_under k (Tag id name target tagger comment mark ∷ events) h = (h.0, formed_under (suc k) events h.1)
  formed_under k (Reset id branch target ∷ events) h = (h.0, formed_under (suc k) events h.1)
  formed_under k (Pass id line ∷ events) h = (h.0, formed_under (suc k) events h.1)

-- ---- roots

event_rooted : (earlier : List PlainEvent) (e : PlainEvent) → IsRootedOn (refs earlier) e → IsRooted earlier e
event_rooted earlier (Commit id mark branch author committer encoding comment [] ops aliases) h = h
event_rooted earlier (Commit id mark branch author committer encoding comment (p ∷ ps) ops aliases) h = tt
event_rooted earlier (Blob id mark bytes) h = tt
event_rooted earlier (Tag id name target tagger comment mark) h = tt
event_rooted earlier (Reset id branch target) h = tt
event_rooted earlier (Pass id line) h = tt

pub rooted_after : (earlier events : List PlainEvent) → AreRootedOn (refs earlier) events → AreRootedAfter earlier events
rooted_after earlier [] h = tt
rooted_after earlier (e ∷ events) h = (
  event_rooted earlier e h.0,
  rooted_after (earlier ++ e ∷ []) events (subst (λ (t : TreeOf ℕ). AreRootedOn t events) (sym (refs_append [] earlier (e ∷ []))) h.1),
)
