-- In a sound history events have ids of their own, and the tips of branches are events.
use Rattle.std.proofs.Common.{◌≡◌, ℕ, Bool, true, false, not, List, [], ◌∷◌, ◌++◌, map, Some, None, refl, sym, subst, ◌∙◌, append_assoc}
use Rattle.std.specs.Prelude.{◌||◌, ◌==◌, bytes_eq, if◌then◌else◌}
use Rattle.std.specs.List.{AllByRecursion}
use Rattle.std.specs.Ordering.{nat_cmp, eq_by_cmp}
use Rattle.std.specs.Cmp.Lexicographic.{slice_cmp}
use Rattle.std.specs.FinMap.Entries as entries
use Rattle.std.specs.declared.cmp.Ordering.{Ordering}
use Rattle.std.specs.declared.cmp.Ordering.TheVariants.{Less, Equal, Greater}
use Rattle.plain_model.proofs.Numbers.{eqb_turned}
use Rattle.plain_model.specs.Lookups.{id_of, is_listed, same_id}
use Rattle.plain_model.specs.Paths.{Bytes}
use Rattle.plain_model.specs.Snapshots.{refs, refs_after}
use Rattle.plain_model.specs.Soundness.{AreSoundAfter, IsSound, IsSoundEvent, has_id}
use Rattle.plain_model.specs.Trees.{TreeOf, put, where_path}
use Rattle.plain_model.specs.declared.id.AnyId.{AnyId}
use Rattle.plain_model.specs.declared.id.AnyId.TheVariants as any
use Rattle.plain_model.specs.declared.event.PlainEvent.{PlainEvent}
use Rattle.plain_model.specs.declared.event.PlainEvent.TheVariants.{Blob, Commit, Tag, Reset, Pass}
use Rattle.history_laws.proofs.Ids.{same_id_refl, same_id_true}
use Rattle.event_sets.specs.Once.{AreLive, IsOnce}
use Rattle.selection_eval.specs.Given.{AreTipsLive, HaveOwnIds}
use Rattle.selection_eval.specs.Spots.{tip_of}
use Rattle.selection_eval.proofs.LiveParts.{Stand, all_part, stand_all}
use Rattle.selection_eval.proofs.OnceParts.{or_second}

-- ---- ids

or_same : (a b c d : Bool) → a ≡ b → c ≡ d → (a || c) ≡ (b || d)
or_same a b c d e f = rw (e, f) refl

pub has_listed : (events : List PlainEvent) (id : AnyId) → has_id events id ≡ is_listed id (map id_of events)
has_listed [] id = refl
has_listed (Blob id mark bytes ∷ events) (any.Blob b) = or_same (id == b) (b == id) _ _ (eqb_turned id b) (has_listed events (any.Blob b))
has_listed (Commit id mark branch author committer encoding comment parents ops aliases ∷ events) (any.Commit b) = or_same (id == b) (b == id) _ _ (eqb_turned id b) (has_listed events (any.Commit b))
has_listed (Tag id name target tagger comment mark ∷ events) (any.Tag b) = or_same (id == b) (b == id) _ _ (eqb_turned id b) (has_listed events (any.Tag b))
has_listed (Reset id branch target ∷ events) (any.Reset b) = or_same (id == b) (b == id) _ _ (eqb_turned id b) (has_listed events (any.Reset b))
has_listed (Pass id line ∷ events) (any.Pass b) = or_same (id == b) (b == id) _ _ (eqb_turned id b) (has_listed events (any.Pass b))
has_listed (e ∷ events) other = has_listed events other

-- the id of an event is new after earlier ones
new_id : (earlier : List PlainEvent) (e : PlainEvent) → IsSoundEvent earlier e → is_listed (id_of e) (map id_of earlier) ≡ false
new_id earlier (Blob id mark bytes) h = sym (has_listed earlier (any.Blob id)) ∙ h.0
new_id earlier (Commit id mark branch author committer encoding comment parents ops aliases) h = sym (has_listed earlier (any.Commit id)) ∙ h.0
new_id earlier (Tag id name target tagger comment mark) h = sym (has_listed earlier (any.Tag id)) ∙ h.0
new_id earlier (Reset id branch target) h = sym (has_listed earlier (any.Reset id)) ∙ h.0
new_id earlier (Pass id line) h = sym (has_listed earlier (any.Pass id)) ∙ h.0

listed_front : (id : AnyId) (a b : List PlainEvent) → is_listed id (map id_of a) ≡ true → is_listed id (map id_of (a ++ b)) ≡ true
listed_front id [] b h = absurd cc
listed_front id (e ∷ a) b h = go (same_id id (id_of e)) h (listed_front id a b)
  where
    go : (x : Bool) → (x || is_listed id (map id_of a)) ≡ true → (is_listed id (map id_of a) ≡ true → is_listed id (map id_of (a ++ b)) ≡ true) → (x || is_listed id (map id_of (a ++ b))) ≡ true
    go true h rec = refl
    go false h rec = rec h

listed_last : (e : PlainEvent) (a : List PlainEvent) → is_listed (id_of e) (map id_of (a ++ e ∷ [])) ≡ true
listed_last e [] = rw (same_id_refl (id_of e)) refl
listed_last e (x ∷ a) = or_second (same_id (id_of e) (id_of x)) (is_listed (id_of e) (map id_of (a ++ e ∷ []))) (listed_last e a)

-- events after earlier ones stand once, and are none of those
own_after : (earlier events : List PlainEvent) → AreSoundAfter earlier events
    → IsOnce (map id_of events) × ((id : AnyId) → is_listed id (map id_of earlier) ≡ true → is_listed id (map id_of events) ≡ false)
own_after earlier [] h = (refl, λ id listed. refl)
own_after earlier (e ∷ events) h =
    let rec = own_after (earlier ++ e ∷ []) events h.1 in (
      rw (rec.1 (id_of e) (listed_last e earlier)) rec.0,
      λ id listed. go (same_id id (id_of e)) id refl listed (rec.1 id (listed_front id earlier (e ∷ []) listed)),
    )
  where
    go : (x : Bool) (id : AnyId) → same_id id (id_of e) ≡ x → is_listed id (map id_of earlier) ≡ true → is_listed id (map id_of events) ≡ false → (x || is_listed id (map id_of events)) ≡ false
    go true id is listed off =
        let there : is_listed (id_of e) (map id_of earlier) ≡ true = subst (λ (y : AnyId). is_listed y (map id_of earlier) ≡ true) (same_id_true id (id_of e) is) listed in
        let new : is_listed (id_of e) (map id_of earlier) ≡ false = new_id earlier e h.0 in
        absurd cc
    go false id is listed off = off

-- ---- tips

abbrev AreIn : List PlainEvent → TreeOf ℕ → Type 0
AreIn whole tips = AllByRecursion (λ t. is_listed (any.Commit t.1) (map id_of whole) ≡ true) tips

put_in : (whole : List PlainEvent) (branch : Bytes) (c : ℕ) (tips : TreeOf ℕ) → is_listed (any.Commit c) (map id_of whole) ≡ true → AreIn whole tips → AreIn whole (put branch c tips)
put_in whole branch c [] h k = (h, tt)
put_in whole branch c (t ∷ tips) h k = go (slice_cmp nat_cmp branch t.0) (put_in whole branch c tips h k.1)
  where
    go : (o : Ordering) → AreIn whole (put branch c tips) → AreIn whole (entries.by_order o ((branch, c) ∷ t ∷ tips) ((t.0, c) ∷ tips) (t ∷ put branch c tips))
    go Less rec = (h, k)
    go Equal rec = (h, k.1)
    go Greater rec = (k.0, rec)

-- the rest of a history after earlier events
tips_after : (whole earlier events : List PlainEvent) (tips : TreeOf ℕ) → earlier ++ events ≡ whole → Stand whole events → AreSoundAfter earlier events → AreIn whole tips → AreIn whole (refs_after tips events)
tips_after whole earlier [] tips is stand sound h = h
tips_after whole earlier (Commit id mark branch author committer encoding comment parents ops aliases ∷ events) tips is stand sound h =
    tips_after whole (earlier ++ Commit id mark branch author committer encoding comment parents ops aliases ∷ []) events (put branch id tips)
    (append_assoc earlier (Commit id mark branch author committer encoding comment parents ops aliases ∷ []) events ∙ is) stand.1 sound.1 (put_in whole branch id tips stand.0 h)
tips_after whole earlier (Reset id branch (Some c) ∷ events) tips is stand sound h =
    let there : is_listed (any.Commit c) (map id_of earlier) ≡ true = sym (has_listed earlier (any.Commit c)) ∙ sound.0.2 in
    tips_after whole (earlier ++ Reset id branch (Some c) ∷ []) events (put branch c tips) (append_assoc earlier (Reset id branch (Some c) ∷ []) events ∙ is) stand.1 sound.1
    (put_in whole branch c tips (subst (λ (l : List PlainEvent). is_listed (any.Commit c) (map id_of l) ≡ true) is (listed_front (any.Commit c) earlier (Reset id branch (Some c) ∷ events) there)) h)
tips_after whole earlier (Reset id branch None ∷ events) tips is stand sound h =
    tips_after whole (earlier ++ Reset id branch None ∷ []) events (where_path (λ b. not (bytes_eq branch b)) tips) (append_assoc earlier (Reset id branch None ∷ []) events ∙ is) stand.1 sound.1
    (all_part _ (λ t. not (bytes_eq branch t.0)) tips h)
tips_after whole earlier (Blob id mark bytes ∷ events) tips is stand sound h =
    tips_after whole (earlier ++ Blob id mark bytes ∷ []) events tips (append_assoc earlier (Blob id mark bytes ∷ []) events ∙ is) stand.1 sound.1 h
tips_after whole earlier (Tag id name target tagger comment mark ∷ events) tips is stand sound h =
    tips_after whole (earlier ++ Tag id name target tagger comment mark ∷ []) events tips (append_assoc earlier (Tag id name target tagger comment mark ∷ []) events ∙ is) stand.1 sound.1 h
tips_after whole earlier (Pass id line ∷ events) tips is stand sound h =
    tips_after whole (earlier ++ Pass id line ∷ []) events tips (append_assoc earlier (Pass id line ∷ []) events ∙ is) stand.1 sound.1 h

tip_in : (whole : List PlainEvent) (branch : Bytes) (tips : TreeOf ℕ) → AreIn whole tips → AreLive whole (tip_of (entries.find (slice_cmp nat_cmp) branch tips))
tip_in whole branch [] h = tt
tip_in whole branch (t ∷ tips) h = go (eq_by_cmp (slice_cmp nat_cmp) branch t.0) (tip_in whole branch tips h.1)
  where
    go : (b : Bool) → AreLive whole (tip_of (entries.find (slice_cmp nat_cmp) branch tips)) → AreLive whole (tip_of (if b then Some t.1 else entries.find (slice_cmp nat_cmp) branch tips))
    go true rec = (h.0, tt)
    go false rec = rec

-- ---- a sound history

pub sound_ids : (events : List PlainEvent) → IsSound events → HaveOwnIds events
sound_ids events h = (own_after [] events h.formed).0

pub sound_tips : (events : List PlainEvent) → IsSound events → AreTipsLive events
sound_tips events h = λ branch. tip_in events branch (refs events) (tips_after events [] events [] refl (stand_all events) h.formed tt)
