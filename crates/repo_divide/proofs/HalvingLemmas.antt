-- Flags of commits and of the blobs that they name, and the events that go with them.
use Rattle.std.proofs.Common.{◌≡◌, ◌∙◌, ℕ, zero, suc, ◌<◌, Bool, true, false, not, ◌&&◌, ◌||◌, List, [], ◌∷◌, Some, None, refl, sym, ap, subst, length, get_or, arith, filter, map, true≢false, IsTrue}
use Rattle.std.proofs.lemmas.Option.{none-some, same_Some, slice_get_within}
use Rattle.std.specs.List.{AllByRecursion, list_all}
use Rattle.std.specs.Prelude.{is_some, slice_get}
use Rattle.plain_model.specs.declared.id.AnyId.TheVariants as any
use Rattle.plain_model.specs.declared.event.PlainEvent.{PlainEvent}
use Rattle.plain_model.specs.declared.event.PlainEvent.TheVariants.{Blob, Commit, Tag, Reset, Pass}
use Rattle.plain_model.specs.Lookups.{id_of, place_of, referents_of}
use Rattle.plain_model.specs.Soundness.{IsCommitOf, has_id}
use Rattle.edit_laws.specs.Parts.{AreComplete}
use Rattle.edit_laws.specs.Settling.{is_ready}
use Rattle.edit_laws.proofs.Lists.{all_true}
use Rattle.divide_laws.specs.Sides.{goes, is_commit_among, is_early, is_named_among}
use Rattle.graph_walk.proofs.PlaceLemmas.{event_placed, has_id_place}
use Rattle.plan_steps.specs.Flags.{FlagsNamed}
use Rattle.plan_steps.proofs.SweepLemmas.{named_by_ops}
use Rattle.plan_steps.proofs.Tables.{map_at}
use Rattle.repo_divide.specs.BlobFlags.{AreBlobFlags, IsBlobFlag}
use Rattle.repo_divide.proofs.WalkLemmas.{among_id}

-- ---- flags by a test

pub other_flag : (has : ℕ → Bool) (e : PlainEvent) → (is_commit_among (λ c. true) e && not (is_commit_among has e)) ≡ is_commit_among (is_early has) e
other_flag has (Commit id mark branch author committer encoding comment parents ops aliases) = refl
other_flag has (Blob id mark bytes) = refl
other_flag has (Tag id name target tagger comment mark) = refl
other_flag has (Reset id branch target) = refl
other_flag has (Pass id line) = refl

-- ---- flags of blobs

pub named_flags : (has : ℕ → Bool) (events : List PlainEvent) (flags : List Bool) → FlagsNamed events (filter (is_commit_among has) events) flags →
    AreBlobFlags events (is_named_among has events) flags
named_flags has events flags f = record { count = f.count; flag = λ k e at. one k e at }
  where
    one : (k : ℕ) (e : PlainEvent) → slice_get events k ≡ Some e → IsBlobFlag (is_named_among has events) (get_or flags k false) e
    one k (Blob id mark bytes) at = f.flag k (Blob id mark bytes) at ∙ sym (named_by_ops id (filter (is_commit_among has) events))
    one k (Commit id mark branch author committer encoding comment parents ops aliases) at = tt
    one k (Tag id name target tagger comment mark) at = tt
    one k (Reset id branch target) at = tt
    one k (Pass id line) at = tt

pub either_flags : (events : List PlainEvent) (ours theirs : ℕ → Bool) (early late flags : List Bool) → length flags ≡ length early →
    ((k : ℕ) → k < length early → get_or flags k false ≡ get_or early k false || not (get_or late k false)) →
    AreBlobFlags events ours early → AreBlobFlags events theirs late → AreBlobFlags events (λ b. ours b || not (theirs b)) flags
either_flags events ours theirs early late flags count f a b = record {
  count = count ∙ a.count;
  flag = λ k e at. one k e at (f k (let within = slice_get_within events k e at in let as_many = a.count in omega arith));
}
  where
    one : (k : ℕ) (e : PlainEvent) → slice_get events k ≡ Some e → get_or flags k false ≡ get_or early k false || not (get_or late k false) → IsBlobFlag (λ x. ours x || not (theirs x)) (get_or flags k false) e
    one k (Blob id mark bytes) at is = is ∙ (λ i. a.flag k (Blob id mark bytes) at i || not (b.flag k (Blob id mark bytes) at i))
    one k (Commit id mark branch author committer encoding comment parents ops aliases) at is = tt
    one k (Tag id name target tagger comment mark) at is = tt
    one k (Reset id branch target) at is = tt
    one k (Pass id line) at is = tt

-- ---- what goes with them

pub commit_flag : (has : ℕ → Bool) (events : List PlainEvent) (flags : List Bool) (c k : ℕ) → flags ≡ map (is_commit_among has) events → place_of (any.Commit c) events ≡ Some k → get_or flags k false ≡ has c
commit_flag has events flags c k is at =
    let e = event_placed events (any.Commit c) k at in
    ap (λ (fs : List Bool). get_or fs k false) is ∙ map_at (is_commit_among has) events k e.event e.at ∙ among_id has e.event c e.own

pub no_place : (events : List PlainEvent) (c : ℕ) → place_of (any.Commit c) events ≡ None → IsCommitOf events c → ⊥
no_place events c none there = true≢false (sym there ∙ has_id_place events (any.Commit c) ∙ ap is_some none)

ready_at : (P : PlainEvent → Type 0) (es : List PlainEvent) (k : ℕ) (e : PlainEvent) → AllByRecursion P es → slice_get es k ≡ Some e → P e
ready_at P [] k e a h = absurd (none-some e h)
ready_at P (x ∷ es) zero e a h = subst P (same_Some x e h) a.0
ready_at P (x ∷ es) (suc k) e a h = ready_at P es k e a.1 h

pub target_there : (events : List PlainEvent) (k : ℕ) (e : PlainEvent) (target : ℕ) → AreComplete events → slice_get events k ≡ Some e → referents_of e ≡ any.Commit target ∷ [] → IsCommitOf events target
target_there events k e target a at is =
    let ready : is_ready events e ≡ true = ready_at (λ x. IsTrue (is_ready events x)) events k e a at in
    (all_true (has_id events) (any.Commit target ∷ []) (ap (list_all (has_id events)) (sym is) ∙ ready)).0

pub goes_blob : (has kept : ℕ → Bool) (events : List PlainEvent) (flags : List Bool) (k b : ℕ) (e : PlainEvent) → id_of e ≡ any.Blob b → slice_get events k ≡ Some e → AreBlobFlags events kept flags → get_or flags k false ≡ goes has kept e
goes_blob has kept events flags k b (Blob id mark bytes) is at a = a.flag k (Blob id mark bytes) at
goes_blob has kept events flags k b (Commit id mark branch author committer encoding comment parents ops aliases) is at a = absurd cc
goes_blob has kept events flags k b (Tag id name target tagger comment mark) is at a = absurd cc
goes_blob has kept events flags k b (Reset id branch target) is at a = absurd cc
goes_blob has kept events flags k b (Pass id line) is at a = absurd cc

pub goes_commit : (has kept : ℕ → Bool) (e : PlainEvent) (c : ℕ) → id_of e ≡ any.Commit c → is_commit_among has e ≡ goes has kept e
goes_commit has kept (Commit id mark branch author committer encoding comment parents ops aliases) c is = refl
goes_commit has kept (Blob id mark bytes) c is = absurd cc
goes_commit has kept (Tag id name target tagger comment mark) c is = absurd cc
goes_commit has kept (Reset id branch target) c is = absurd cc
goes_commit has kept (Pass id line) c is = absurd cc

pub goes_tag : (has kept : ℕ → Bool) (e : PlainEvent) (t target : ℕ) → id_of e ≡ any.Tag t → referents_of e ≡ any.Commit target ∷ [] → has target ≡ goes has kept e
goes_tag has kept (Tag id name to tagger comment mark) t target is refers = let same : to ≡ target = cc in ap has (sym same)
goes_tag has kept (Commit id mark branch author committer encoding comment parents ops aliases) t target is refers = absurd cc
goes_tag has kept (Blob id mark bytes) t target is refers = absurd cc
goes_tag has kept (Reset id branch to) t target is refers = absurd cc
goes_tag has kept (Pass id line) t target is refers = absurd cc

pub goes_reset : (has kept : ℕ → Bool) (e : PlainEvent) (r target : ℕ) → id_of e ≡ any.Reset r → referents_of e ≡ any.Commit target ∷ [] → has target ≡ goes has kept e
goes_reset has kept (Reset id branch (Some to)) r target is refers = let same : to ≡ target = cc in ap has (sym same)
goes_reset has kept (Reset id branch None) r target is refers = absurd cc
goes_reset has kept (Tag id name to tagger comment mark) r target is refers = absurd cc
goes_reset has kept (Commit id mark branch author committer encoding comment parents ops aliases) r target is refers = absurd cc
goes_reset has kept (Blob id mark bytes) r target is refers = absurd cc
goes_reset has kept (Pass id line) r target is refers = absurd cc
