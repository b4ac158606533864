-- What an expunge that passes no limit leaves.
use Rattle.std.proofs.Common.{◌≡◌, ℕ, ◌+◌, ◌≤◌, Bool, true, false, cond, not, List, [], ◌∷◌, length, map, refl, sym, ap, subst, ◌∙◌, arith, le_trans, Option, Some, None, option_map, Ok, Err, nat_lt}
use Rattle.std.specs.Prelude.{◌||◌, ◌&&◌, ◌==◌, IsOk, option_to_list, if◌then◌else◌}
use Rattle.std.specs.List.{AllByRecursion}
use Rattle.std.proofs.lemmas.List.{length-map}
use Rattle.plain_model.specs.declared.fault.Fault.TheVariants as fault
use Rattle.plain_model.specs.declared.fault.Which.TheVariants as limit
use Rattle.plain_model.specs.declared.limit.TheConstants.{MAX_ALIASES, MAX_EVENTS, MAX_OPERATIONS, MAX_PARENTS}
use Rattle.plain_model.specs.declared.id.AnyId.{AnyId}
use Rattle.plain_model.specs.declared.id.AnyId.TheVariants as any
use Rattle.plain_model.specs.declared.operation.Content.{Content}
use Rattle.plain_model.specs.declared.operation.Content.TheVariants.{Blob as OfBlob, Object}
use Rattle.plain_model.specs.declared.event.PlainEvent.{PlainEvent}
use Rattle.plain_model.specs.declared.event.PlainEvent.TheVariants.{Blob, Commit, Tag, Reset, Pass}
use Rattle.plain_model.specs.Histories.{nodes, tree}
use Rattle.plain_model.specs.Lookups.{AreIdsBelow, alias_count, event_parents, find_event, id_of, is_listed}
use Rattle.plain_model.specs.Paths.{Bytes}
use Rattle.plain_model.specs.Snapshots.{blob_bytes, map_tree, shown, shown_content, shown_tree}
use Rattle.plain_model.specs.Snapshots.ShownContent.{ShownBytes}
use Rattle.plain_model.specs.Soundness.{IsCommitOf, IsSound, has_id}
use Rattle.plain_model.specs.Streams.{is_among, is_marked}
use Rattle.plain_model.specs.Trees.{Tree, at}
use Rattle.history_laws.specs.FirstParents.{ops_along}
use Rattle.history_laws.proofs.Ids.{each_found}
use Rattle.history_laws.proofs.TreeLaws.{at_where}
use Rattle.history_laws.proofs.TreeMapping.{mapped_where}
use Rattle.history_laws.proofs.SoundOnce.{sound_once}
use Rattle.edit_laws.specs.Keeping.{AddsNothing, IsOneOf}
use Rattle.edit_laws.specs.Parts.{HasFewParents}
use Rattle.edit_laws.specs.Passing.{IsWithinLimits}
use Rattle.edit_laws.specs.Sweeping.{is_named}
use Rattle.edit_laws.proofs.Edits.{fewer_below}
use Rattle.edit_laws.proofs.Limits.{limits_hold, not_many}
use Rattle.edit_laws.proofs.Lists.{own_here}
use Rattle.squash_laws.specs.Removed.{is_removed}
use Rattle.plain_model.specs.declared.policy.Lean.TheVariants as lean
use Rattle.expunge_laws.specs.Expunged.{emptied, expunge_of, expunged, is_emptied, replaced_event, replaced_events}
use Rattle.expunge_laws.specs.PushForward.{unless_limit}
use Rattle.expunge_laws.specs.Remaining.{LeavesWhere}
use Rattle.expunge_laws.specs.Replaced.{restricted}
use Rattle.expunge_laws.proofs.Added.{IsLike, all_like, nothing_added}
use Rattle.expunge_laws.proofs.Changed.{ids_same, replaced_sound, replaced_trees}
use Rattle.expunge_laws.proofs.Emptied.{all_few, emptied_each}
use Rattle.expunge_laws.proofs.Finished.{has_many_parents, two_alone}
use Rattle.expunge_laws.proofs.Forwarded.{pushed_all, pushed_blobs, pushed_commits, pushed_done, pushed_ends, pushed_shown, pushed_sound, pushed_trees, pushed_was_there}

-- ---- shown trees

blobs_same : (matched : Bytes → Bool) (events es : List PlainEvent) (b : ℕ) → blob_bytes (map (replaced_event matched events) es) b ≡ blob_bytes es b
blobs_same matched events [] b = refl
blobs_same matched events (Blob id mark bytes ∷ es) b = ap (cond (id == b) bytes) (blobs_same matched events es b)
blobs_same matched events (Commit id mark branch author committer encoding comment parents ops aliases ∷ es) b = blobs_same matched events es b
blobs_same matched events (Tag id name target tagger comment mark ∷ es) b = blobs_same matched events es b
blobs_same matched events (Reset id branch target ∷ es) b = blobs_same matched events es b
blobs_same matched events (Pass id line ∷ es) b = blobs_same matched events es b

content_same : (matched : Bytes → Bool) (events : List PlainEvent) (content : Content) → shown_content (replaced_events matched events) content ≡ shown_content events content
content_same matched events (OfBlob b) = ap ShownBytes (blobs_same matched events events b)
content_same matched events (Object digits) = refl

tree_same : (matched : Bytes → Bool) (events : List PlainEvent) (t : Tree) → map_tree (shown (replaced_events matched events)) t ≡ map_tree (shown events) t
tree_same matched events [] = refl
tree_same matched events (e ∷ es) = λ i. (e.0, record { mode = e.1.mode; content = content_same matched events e.1.content i }) ∷ tree_same matched events es i

shown_left : (matched : Bytes → Bool) (events : List PlainEvent) (o : Option Tree) → option_map (map_tree (shown (replaced_events matched events))) (option_map (restricted matched) o) ≡ option_map (restricted matched) (option_map (map_tree (shown events)) o)
shown_left matched events None = refl
shown_left matched events (Some t) = ap Some (tree_same matched events (restricted matched t) ∙ mapped_where (shown events) (λ p. not (matched p)) t)

-- ---- the limits

none_many : (new : List PlainEvent) → AllByRecursion HasFewParents new → has_many_parents new ≡ false
none_many [] f = refl
none_many (e ∷ es) f = λ i. not_many MAX_PARENTS (length (event_parents e)) f.0 i || none_many es f.1 i

-- ---- the history

module _ (matched : Bytes → Bool) (events : List PlainEvent) where
  abbrev set : List AnyId
  set = emptied matched events

  abbrev changed : List PlainEvent
  changed = replaced_events matched events

  same_length : length changed ≡ length events
  same_length = length-map events (replaced_event matched events)

  marks_same : (m : ℕ) (es : List PlainEvent) → is_marked (map (replaced_event matched events) es) m ≡ is_marked es m
  marks_same m [] = refl
  marks_same m (Commit id mark branch author committer encoding comment parents ops aliases ∷ es) =
      ap (λ b. (mark == m) || (is_among aliases m || b)) (marks_same m es)
  marks_same m (Blob id mark bytes ∷ es) = ap (λ b. (mark == m) || b) (marks_same m es)
  marks_same m (Tag id name target tagger comment mark ∷ es) = ap (λ b. is_among (option_to_list mark) m || b) (marks_same m es)
  marks_same m (Reset id branch target ∷ es) = marks_same m es
  marks_same m (Pass id line ∷ es) = marks_same m es

  aliases_same : (es : List PlainEvent) → alias_count (map (replaced_event matched events) es) ≡ alias_count es
  aliases_same [] = refl
  aliases_same (Commit id mark branch author committer encoding comment parents ops aliases ∷ es) =
      ap (λ n. length aliases + n) (aliases_same es)
  aliases_same (Blob id mark bytes ∷ es) = aliases_same es
  aliases_same (Tag id name target tagger comment mark ∷ es) = aliases_same es
  aliases_same (Reset id branch target ∷ es) = aliases_same es
  aliases_same (Pass id line ∷ es) = aliases_same es

  pub nothing_new : (new : List PlainEvent) → expunged matched events ≡ Ok new → AddsNothing events new
  nothing_new new is =
      let added = nothing_added events set changed false lean.Forward new is in record {
        events = let fewer = added.events in let same = same_length in omega arith;
        ids = λ id there. sym (ids_same matched events events id) ∙ added.ids id there;
        marks = λ m there. sym (marks_same m events) ∙ added.marks m there;
        aliases = let fewer = added.aliases in let same = aliases_same events in omega arith;
      }

  pub new_below : (new : List PlainEvent) (next : ℕ) → expunged matched events ≡ Ok new → AreIdsBelow next events → AreIdsBelow next new
  new_below new next is below = fewer_below events new next (nothing_new new is).ids below

  -- an event that is like one whose operations were replaced is like the old one
  one_again : (es : List PlainEvent) → AllByRecursion (λ e. find_event (id_of e) events ≡ Some e) es →
      AllByRecursion (IsOneOf events) (map (replaced_event matched events) es)
  one_again [] a = tt
  one_again (Commit id mark branch author committer encoding comment parents ops aliases ∷ es) a =
      ((Commit id mark branch author committer encoding comment parents ops aliases, a.0, refl), one_again es a.1)
  one_again (Blob id mark bytes ∷ es) a = ((Blob id mark bytes, a.0, refl), one_again es a.1)
  one_again (Tag id name target tagger comment mark ∷ es) a = ((Tag id name target tagger comment mark, a.0, refl), one_again es a.1)
  one_again (Reset id branch target ∷ es) a = ((Reset id branch target, a.0, refl), one_again es a.1)
  one_again (Pass id line ∷ es) a = ((Pass id line, a.0, refl), one_again es a.1)

  still_one : (e x : PlainEvent) → IsOneOf events e → IsLike events set changed lean.Forward e x → IsOneOf events x
  still_one e x o like = (o.0, ap (λ id. find_event id events) like.0 ∙ o.1, o.2 ∙ like.1)

  -- ---- the whole history

  module _ (h : IsSound events) where
    abbrev sound : IsSound changed
    sound = replaced_sound matched events h

    pub expunge_ends : IsOk (expunged matched events)
    expunge_ends = let ends = pushed_ends events set changed false lean.Forward sound in subst IsOk (sym ends.1) refl

    few_new : (new : List PlainEvent) → expunged matched events ≡ Ok new → AllByRecursion HasFewParents new
    few_new new is = pushed_all events set changed false lean.Forward HasFewParents (all_few matched events h sound) new is

    pub refused_for_operations : (new : List PlainEvent) → length events ≤ MAX_EVENTS → alias_count events ≤ MAX_ALIASES →
        expunged matched events ≡ Ok new → expunge_of matched events ≡ (if nat_lt MAX_OPERATIONS (length (ops_along (nodes new))) then Err (fault.Limit limit.Operations MAX_OPERATIONS) else Ok new)
    refused_for_operations new small some is =
        ap (unless_limit events) is
        ∙ two_alone new (le_trans (nothing_new new is).events small) (le_trans (nothing_new new is).aliases some)
        ∙ ap (λ b. cond (nat_lt MAX_OPERATIONS (length (ops_along (nodes new)))) (Err (fault.Limit limit.Operations MAX_OPERATIONS)) (cond b (Err (fault.Limit limit.Parents MAX_PARENTS)) (Ok new)))
        (none_many new (few_new new is))

    module _ (new : List PlainEvent) (d : expunge_of matched events ≡ Ok new) where
      is : expunged matched events ≡ Ok new
      is = (pushed_done events set changed false lean.Forward sound events new d).0

      pub expunge_below : (next : ℕ) → AreIdsBelow next events → AreIdsBelow next new
      expunge_below next below = new_below new next is below

      pub expunge_limits : IsWithinLimits new
      expunge_limits = (limits_hold new).0 (pushed_done events set changed false lean.Forward sound events new d).1

      pub expunge_stays : AllByRecursion (IsOneOf events) new
      expunge_stays =
          all_like events set changed lean.Forward (IsOneOf events) (IsOneOf events) still_one
          (one_again events (each_found events (sound_once events h).ids)) new is

      pub expunge_sound : IsSound new
      expunge_sound = pushed_sound events set changed false lean.Forward sound new is (few_new new is)

      pub expunge_was_there : (c : ℕ) → IsCommitOf new c → IsCommitOf events c
      expunge_was_there c there = sym (ids_same matched events events (any.Commit c)) ∙ pushed_was_there events set changed false lean.Forward sound new is c there

      pub expunge_trees : (c : ℕ) → IsCommitOf new c → tree new c ≡ option_map (restricted matched) (tree events c)
      expunge_trees c there = pushed_trees events set changed false lean.Forward sound new is c there ∙ replaced_trees matched events h c (expunge_was_there c there)

      -- what is at a path afterwards
      at_left : (c : ℕ) → IsCommitOf new c → (old t : Tree) → tree events c ≡ Some old → tree new c ≡ Some t → (q : Bytes) →
          at t q ≡ cond (not (matched q)) (at old q) None
      at_left c there old t was now q =
          let same : ◌≡◌ {A = Option Tree} (Some (restricted matched old)) (Some t) = sym (ap (option_map (restricted matched)) was) ∙ sym (expunge_trees c there) ∙ now in
          let its : restricted matched old ≡ t = cc in
          ap (λ (u : Tree). at u q) (sym its) ∙ at_where (λ p. not (matched p)) q old

      pub none_matched : (c : ℕ) → IsCommitOf new c → (t : Tree) → tree new c ≡ Some t → (q : Bytes) → matched q ≡ true → at t q ≡ None
      none_matched c there t now q m = go (tree events c) refl
        where
          go : (o : Option Tree) → tree events c ≡ o → at t q ≡ None
          go (Some old) was = at_left c there old t was now q ∙ ap (λ b. cond (not b) (at old q) None) m
          go None was =
              let none : ◌≡◌ {A = Option Tree} None (Some t) = sym (ap (option_map (restricted matched)) was) ∙ sym (expunge_trees c there) ∙ now in
              absurd cc

      pub others_kept : (c : ℕ) → IsCommitOf new c → (old t : Tree) → tree events c ≡ Some old → tree new c ≡ Some t → (q : Bytes) →
          matched q ≡ false → at t q ≡ at old q
      others_kept c there old t was now q m = at_left c there old t was now q ∙ ap (λ b. cond (not b) (at old q) None) m

      pub expunge_shown : (c : ℕ) → IsCommitOf new c → shown_tree new c ≡ option_map (restricted matched) (shown_tree events c)
      expunge_shown c there =
          pushed_shown events set changed false lean.Forward sound new is expunge_sound c there
          ∙ ap (option_map (map_tree (shown changed))) (replaced_trees matched events h c (expunge_was_there c there))
          ∙ shown_left matched events (tree events c)

      pub expunge_blobs : (b : ℕ) → has_id new (any.Blob b) ≡ has_id events (any.Blob b) && not (is_named events b && not (is_named new b))
      expunge_blobs b =
          pushed_blobs events set changed false lean.Forward sound new is b
          ∙ ap (λ x. x && not (is_named events b && not (is_named new b))) (ids_same matched events events (any.Blob b))

      -- which commits leave
      leaves : (es : List PlainEvent) → AllByRecursion (λ e. has_id events (id_of e) ≡ true) es → AllByRecursion (λ e. is_listed (id_of e) set ≡ is_emptied matched events e) es → AllByRecursion (LeavesWhere (is_emptied matched events) new) es
      leaves [] k a = tt
      leaves (Commit id mark branch author committer encoding comment parents ops aliases ∷ es) k a = (
        pushed_commits events set changed false lean.Forward sound new is id
            ∙ ap (λ x. x && not (is_removed set id)) (ids_same matched events events (any.Commit id) ∙ k.0)
            ∙ ap not a.0,
        leaves es k.1 a.1,
      )
      leaves (Blob id mark bytes ∷ es) k a = (tt, leaves es k.1 a.1)
      leaves (Tag id name target tagger comment mark ∷ es) k a = (tt, leaves es k.1 a.1)
      leaves (Reset id branch target ∷ es) k a = (tt, leaves es k.1 a.1)
      leaves (Pass id line ∷ es) k a = (tt, leaves es k.1 a.1)

      pub expunge_leaves : AllByRecursion (LeavesWhere (is_emptied matched events) new) events
      expunge_leaves = leaves events (own_here events) (emptied_each matched events h)
