-- The whole: what is not refused, and why it is refused.
use Rattle.std.proofs.Common.{◌≡◌, ℕ, ◌+◌, ◌≤◌, ◌⊎◌, Bool, true, false, cond, not, List, [], ◌∷◌, ◌++◌, length, refl, sym, ap, subst, ◌∙◌, arith, append_assoc, Option, Some, None, Result, Ok, Err}
use Rattle.std.specs.Prelude.{◌&&◌, IsFalse, IsTrue}
use Rattle.std.specs.List.{AllByRecursion}
use Rattle.std.proofs.lemmas.Bool.{and_parts}
use Rattle.plain_model.specs.declared.fault.Fault.{Fault}
use Rattle.plain_model.specs.declared.fault.Fault.TheVariants as fault
use Rattle.plain_model.specs.declared.limit.TheConstants.{MAX_EVENTS, MAX_OPERATIONS}
use Rattle.plain_model.specs.declared.operation.FileOp.{FileOp}
use Rattle.plain_model.specs.declared.id.AnyId.{AnyId}
use Rattle.plain_model.specs.declared.id.AnyId.TheVariants as any
use Rattle.plain_model.specs.declared.event.PlainEvent.{PlainEvent}
use Rattle.plain_model.specs.declared.event.PlainEvent.TheVariants.{Blob, Commit, Tag, Reset, Pass}
use Rattle.plain_model.specs.Histories.{nodes, tree}
use Rattle.plain_model.specs.Lookups.{AreIdsBelow, alias_count, id_of, is_listed}
use Rattle.plain_model.specs.Paths.{Bytes}
use Rattle.plain_model.specs.Snapshots.{shown_tree}
use Rattle.plain_model.specs.Soundness.{IsCommitOf, IsSound, has_id}
use Rattle.history_laws.specs.FirstParents.{ops_along}
use Rattle.history_laws.proofs.Ids.{has_own}
use Rattle.history_laws.proofs.Lists.{all_join}
use Rattle.edit_laws.specs.Blobs.{HasBytesOf}
use Rattle.edit_laws.specs.Editing.{IsEdit, LeavesLawful, with_number}
use Rattle.edit_laws.specs.Keeping.{HasTreesOf}
use Rattle.edit_laws.specs.Parts.{HasFewParents}
use Rattle.edit_laws.specs.Passing.{IsWithinLimits}
use Rattle.edit_laws.proofs.Settles.{sound_settles}
use Rattle.edit_laws.proofs.Shown.{has_own_bytes, shown_alike}
use Rattle.edit_laws.proofs.Sound.{in_parts}
use Rattle.squash_laws.specs.Removed.{is_removed}
use Rattle.plain_model.specs.declared.policy.Lean.TheVariants as lean
use Rattle.expunge_laws.specs.PushForward.{pushed_forward}
use Rattle.expunge_laws.proofs.Forwarded.{pushed_commits, pushed_sound, pushed_trees}
use Rattle.tagify_laws.specs.InPlace.{in_place, moved}
use Rattle.tagify_laws.specs.Remaining.{IsFirstTaken, IsNewTag, apart_from_commits, tag_count}
use Rattle.tagify_laws.specs.Tagify.{becomes_tag, has_tag_named, name_for, new_tag, or_as_it_was, tagged, tagified, tagify_of, taken_name, with_tags}
use Rattle.tagify_laws.proofs.Counted.{all_below, all_in_place, comes_new, counted, few_in_place, fewer_aliases, nothing_goes, same_length, same_ops, tags_more}
use Rattle.tagify_laws.proofs.InOrder.{tagified_is}
use Rattle.tagify_laws.proofs.Put.{put_sound, same_commits, same_tree}
use Rattle.tagify_laws.proofs.Tagged.{tagged_each}

-- ---- names

abbrev answer : List PlainEvent → Option Bytes → Result (List PlainEvent) (List PlainEvent) → Result (List PlainEvent) Fault
answer events taken done = elim taken [ Some name ↦ Err (fault.NameTaken name) | None ↦ or_as_it_was events done ]

abbrev IsFree : List AnyId → List PlainEvent → PlainEvent → Type 0
IsFree selected events e = IsTrue (becomes_tag selected e) → IsFalse (has_tag_named events (name_for e))

module _ (selected : List AnyId) (events : List PlainEvent) where
  free_here : (e : PlainEvent) → becomes_tag selected e && has_tag_named events (name_for e) ≡ false → IsFree selected events e
  free_here e free b = sym (ap (λ x. x && has_tag_named events (name_for e)) b) ∙ free

  none_taken : (es : List PlainEvent) → taken_name selected events es ≡ None → AllByRecursion (IsFree selected events) es
  none_taken [] is = tt
  none_taken (e ∷ es) is = go (becomes_tag selected e && has_tag_named events (name_for e)) refl is (none_taken es)
    where
      go : (b : Bool) → becomes_tag selected e && has_tag_named events (name_for e) ≡ b → cond b (Some (name_for e)) (taken_name selected events es) ≡ None → (taken_name selected events es ≡ None → AllByRecursion (IsFree selected events) es) → AllByRecursion (IsFree selected events) (e ∷ es)
      go true free x f = absurd cc
      go false free x f = (free_here e free, f x)

  first_taken : (xs es : List PlainEvent) → events ≡ xs ++ es → AllByRecursion (IsFree selected events) xs → (name : Bytes) → taken_name selected events es ≡ Some name → IsFirstTaken selected events (fault.NameTaken name)
  first_taken xs [] split before name is = absurd cc
  first_taken xs (e ∷ es) split before name is =
      go (becomes_tag selected e && has_tag_named events (name_for e)) refl is (λ free x. first_taken (xs ++ e ∷ []) es (split ∙ sym (append_assoc xs (e ∷ []) es)) (all_join (IsFree selected events) xs (e ∷ []) before (free, tt)) name x)
    where
      go : (b : Bool) → becomes_tag selected e && has_tag_named events (name_for e) ≡ b → cond b (Some (name_for e)) (taken_name selected events es) ≡ Some name → (IsFree selected events e → taken_name selected events es ≡ Some name → IsFirstTaken selected events (fault.NameTaken name)) → IsFirstTaken selected events (fault.NameTaken name)
      go true taken x f =
          let parts = and_parts (becomes_tag selected e) (has_tag_named events (name_for e)) taken in
          let its : name_for e ≡ name = cc in
          record { before = xs; first = e; after = es; split = split; wants = parts.0; taken = parts.1; none_before = before; is = ap (λ n. fault.NameTaken n) (sym its) }
      go false free x f = f (free_here e free) x

-- ---- what isn't refused

module _ (next : ℕ) (selected : List AnyId) (events new : List PlainEvent) where
  not_refused : (taken : Option Bytes) (done : Result (List PlainEvent) (List PlainEvent)) (made : List PlainEvent) → done ≡ Ok made → answer events taken done ≡ Ok new → (taken ≡ None) × (new ≡ made)
  not_refused (Some name) done made is d = absurd cc
  not_refused None done made is d =
      let same : ◌≡◌ {A = Result (List PlainEvent) Fault} (Ok made) (Ok new) = sym (ap (or_as_it_was events) is) ∙ d in
      let its : made ≡ new = cc in
      (refl, sym its)

  pub done_is : IsSound events → tagify_of next selected events ≡ Ok new → new ≡ in_place selected events next events
  done_is h d = (not_refused (taken_name selected events events) (tagified selected events next) (in_place selected events next events) (tagified_is selected events h next) d).1

  pub names_free : tagify_of next selected events ≡ Ok new → AllByRecursion (IsFree selected events) events
  names_free d = none_taken selected events events (none (taken_name selected events events) d)
    where
      none : (taken : Option Bytes) → answer events taken (tagified selected events next) ≡ Ok new → taken ≡ None
      none None d = refl
      none (Some name) d = absurd cc

pub why_refused : (next : ℕ) (selected : List AnyId) (events : List PlainEvent) (why : Fault) → tagify_of next selected events ≡ Err why → IsFirstTaken selected events why
why_refused next selected events why d = go (taken_name selected events events) refl (tagified selected events next) d
  where
    go : (taken : Option Bytes) → taken_name selected events events ≡ taken → (done : Result (List PlainEvent) (List PlainEvent)) → answer events taken done ≡ Err why → IsFirstTaken selected events why
    go None is (Ok made) d = absurd cc
    go None is (Err never) d = absurd cc
    go (Some name) is done d =
        let its : fault.NameTaken name ≡ why = cc in
        subst (IsFirstTaken selected events) its (first_taken selected events [] events refl tt name is)

pub links_alone : (selected : List AnyId) (events : List PlainEvent) (e : PlainEvent) → apart_from_commits (moved selected events e) ≡ apart_from_commits e
links_alone selected events (Commit id mark branch author committer encoding comment parents ops aliases) = refl
links_alone selected events (Blob id mark bytes) = refl
links_alone selected events (Tag id name target tagger comment mark) = refl
links_alone selected events (Reset id branch None) = refl
links_alone selected events (Reset id branch (Some target)) = refl
links_alone selected events (Pass id line) = refl

own_ids : (events xs es : List PlainEvent) → events ≡ xs ++ es → AllByRecursion (λ e. has_id events (id_of e) ≡ true) es
own_ids events xs [] is = tt
own_ids events xs (e ∷ es) is = (ap (λ (l : List PlainEvent). has_id l (id_of e)) is ∙ has_own xs es e, own_ids events (xs ++ e ∷ []) es (is ∙ sym (append_assoc xs (e ∷ []) es)))

-- ---- the history afterwards

module _ (next : ℕ) (selected : List AnyId) (events new : List PlainEvent) (h : IsSound events) (d : tagify_of next selected events ≡ Ok new) where
  abbrev its : List PlainEvent
  its = in_place selected events next events

  new_is : new ≡ its
  new_is = done_is next selected events new h d

  pushed : pushed_forward events (tagged selected events) (with_tags selected events next events) false lean.Back ≡ Ok new
  pushed = tagified_is selected events h next ∙ ap (λ (l : List PlainEvent). Ok l) (sym new_is)

  pub tags_come : tag_count new ≡ tag_count events + length (tagged selected events)
  tags_come = ap tag_count new_is ∙ tags_more selected events next events ∙ ap (λ n. tag_count events + n) (sym (counted selected events events))

  pub as_many : length new ≡ length events
  as_many = ap length new_is ∙ same_length selected events next events

  pub none_goes : (id : AnyId) → IsFalse (is_listed id (tagged selected events)) → IsTrue (has_id events id) → IsTrue (has_id new id)
  none_goes id s there = subst (λ (l : List PlainEvent). has_id l id ≡ true) (sym new_is) (nothing_goes selected events (tagged selected events) (tagged_each selected events h) next id s there)

  pub tags_alone_come : (id : AnyId) → IsTrue (has_id new id) → IsTrue (has_id events id) ⊎ IsNewTag next id
  tags_alone_come id there = comes_new selected events id next events (subst (λ (l : List PlainEvent). has_id l id ≡ true) new_is there)

  pub now_below : AreIdsBelow next events → AreIdsBelow (next + length (tagged selected events)) new
  now_below below = subst (λ (l : List PlainEvent). AreIdsBelow (next + length (tagged selected events)) l) (sym new_is) (all_below selected events next (own_ids events [] events refl) below)

  pub ops_stay : ops_along (nodes new) ≡ ops_along (nodes events)
  ops_stay = ap (λ (l : List PlainEvent). ops_along (nodes l)) new_is ∙ same_ops selected events next events

  pub aliases_fewer : alias_count new ≤ alias_count events
  aliases_fewer = subst (λ (l : List PlainEvent). alias_count l ≤ alias_count events) (sym new_is) (fewer_aliases selected events next events)

  pub limits_kept : IsWithinLimits events → IsWithinLimits new
  limits_kept w = record {
    few_events = subst (λ n. n ≤ MAX_EVENTS) (sym as_many) w.few_events;
    few_operations = subst (λ (o : List FileOp). length o ≤ MAX_OPERATIONS) (sym ops_stay) w.few_operations;
    few_parents = subst (AllByRecursion HasFewParents) (sym new_is) (few_in_place selected events next events w.few_parents);
    few_aliases = let fewer = aliases_fewer in let few = w.few_aliases in omega arith;
  }

  module _ (below : AreIdsBelow next events) where
    sound_put : IsSound (with_tags selected events next events)
    sound_put = put_sound selected events h next below

    pub commits_stay : (c : ℕ) → has_id new (any.Commit c) ≡ has_id events (any.Commit c) && not (is_removed (tagged selected events) c)
    commits_stay c =
        pushed_commits events (tagged selected events) (with_tags selected events next events) false lean.Back sound_put new pushed c
        ∙ ap (λ b. b && not (is_removed (tagged selected events) c)) (same_commits selected events next events c)

    trees_stay : (c : ℕ) → IsCommitOf new c → tree new c ≡ tree events c
    trees_stay c there =
        pushed_trees events (tagged selected events) (with_tags selected events next events) false lean.Back sound_put new pushed c there
        ∙ same_tree selected events next events c

    pub now_sound : IsSound new
    now_sound =
        pushed_sound events (tagged selected events) (with_tags selected events next events) false lean.Back sound_put new pushed
        (subst (AllByRecursion HasFewParents) (sym new_is) (few_in_place selected events next events (in_parts events h).few))

    bytes_moved : (e : PlainEvent) → HasBytesOf events e → HasBytesOf events (moved selected events e)
    bytes_moved (Blob id mark bytes) b = b
    bytes_moved (Commit id mark branch author committer encoding comment parents ops aliases) b = tt
    bytes_moved (Tag id name target tagger comment mark) b = tt
    bytes_moved (Reset id branch None) b = tt
    bytes_moved (Reset id branch (Some target)) b = tt
    bytes_moved (Pass id line) b = tt

    bytes_tag : (k : ℕ) (e : PlainEvent) → HasBytesOf events e → HasBytesOf events (new_tag selected events k e)
    bytes_tag k (Blob id mark bytes) b = b
    bytes_tag k (Commit id mark branch author committer encoding comment parents ops aliases) b = tt
    bytes_tag k (Tag id name target tagger comment mark) b = tt
    bytes_tag k (Reset id branch target) b = tt
    bytes_tag k (Pass id line) b = tt

    shown_stay : (c : ℕ) → IsCommitOf new c → shown_tree new c ≡ shown_tree events c
    shown_stay c there =
        shown_alike events new
        (subst (AllByRecursion (HasBytesOf events)) (sym new_is) (all_in_place selected events (HasBytesOf events) (HasBytesOf events) bytes_moved bytes_tag next events (has_own_bytes events (in_parts events h).once)))
        (sound_settles new now_sound).complete c c (trees_stay c there)

    pub trees_had : HasTreesOf events new
    trees_had = record { trees = trees_stay; shown = shown_stay }

-- ---- it is an edit

pub edit : IsEdit (λ set next events. with_number (next + length (tagged set events)) (tagify_of next set events))
edit set next events h below selection = go (tagify_of next set events) refl
  where
    go : (r : Result (List PlainEvent) Fault) → tagify_of next set events ≡ r → LeavesLawful next (with_number (next + length (tagged set events)) r)
    go (Err why) d = tt
    go (Ok new) d = (
      record { sound = now_sound next set events new h.sound d below; within = limits_kept next set events new h.sound d h.within },
      now_below next set events new h.sound d below,
      omega arith,
    )
