-- A coalescing ends, and keeps trees and soundness: no commit gets more parents than one had, and operations only move.
use Rattle.std.proofs.Common.{◌≡◌, ℕ, ◌≤◌, Bool, true, false, not, List, [], ◌∷◌, ◌++◌, length, refl, sym, ap, subst, ◌∙◌, Some, None, Result, Ok, Err}
use Rattle.std.specs.Prelude.{◌&&◌, IsSome}
use Rattle.std.specs.List.{AllByRecursion}
use Rattle.std.proofs.lemmas.List.{reverse-reverse}
use Rattle.plain_model.specs.declared.id.AnyId.{AnyId}
use Rattle.plain_model.specs.declared.id.AnyId.TheVariants as any
use Rattle.plain_model.specs.declared.limit.TheConstants.{MAX_PARENTS}
use Rattle.plain_model.specs.declared.operation.FileOp.{FileOp}
use Rattle.plain_model.specs.declared.event.PlainEvent.{PlainEvent}
use Rattle.plain_model.specs.declared.event.PlainEvent.TheVariants.{Blob, Commit, Tag, Reset, Pass}
use Rattle.plain_model.specs.Histories.{Node, node_at, nodes, past, tree}
use Rattle.plain_model.specs.Lookups.{find_event, id_of, is_listed}
use Rattle.plain_model.specs.Soundness.{IsCommitOf, IsSound, are_distinct, has_id}
use Rattle.history_laws.specs.FirstParents.{ops_along}
use Rattle.history_laws.proofs.Ids.{each_found}
use Rattle.history_laws.proofs.Lists.{all_imply, all_reverse}
use Rattle.ancestry_laws.proofs.Pasts.{linked_past}
use Rattle.history_laws.proofs.SoundOnce.{sound_once}
use Rattle.edit_laws.specs.Blobs.{HasBytesOf}
use Rattle.edit_laws.specs.Equations.{Fits}
use Rattle.edit_laws.specs.Keeping.{HasTreesOf, IsOneOf}
use Rattle.edit_laws.specs.Parts.{CanBeSettled, HasFewParents, IsLawful}
use Rattle.edit_laws.specs.Removal.{expand}
use Rattle.edit_laws.specs.Sweeping.{is_left_over}
use Rattle.edit_laws.proofs.Fine.{IsFine}
use Rattle.edit_laws.proofs.Lists.{OfNodes, all_filter, all_flat, events_of_nodes, nodes_of_events}
use Rattle.edit_laws.proofs.Settles.{fine_nodes, settled_all, settled_ids, settled_sound, settled_trees, settling_ends, sound_settles}
use Rattle.edit_laws.proofs.Shown.{has_own_bytes, shown_alike}
use Rattle.edit_laws.proofs.Sound.{in_parts}
use Rattle.edit_laws.proofs.Swept.{swept_commit, swept_nodes}
use Rattle.edit_laws.proofs.Trees.{nodes_found}
use Rattle.squash_laws.specs.Removed.{Takings, all_left, is_removed, left_of, parents_after, without_set}
use Rattle.squash_laws.specs.Takings.{links}
use Rattle.plain_model.specs.declared.policy.Lean.TheVariants as lean
use Rattle.plain_model.specs.declared.policy.Push.TheVariants as push
use Rattle.squash_laws.proofs.Forward.{left_fits}
use Rattle.squash_laws.proofs.Left.{commits_left, one_left, one_moved, without_settles}
use Rattle.squash_laws.proofs.Takes.{taken_ops, target_stays}
use Rattle.coalesce_laws.specs.Coalesce.{coalesce_of, coalesced, joined_ones}
use Rattle.expunge_laws.specs.PushForward.{comment_taken, forward_takes}
use Rattle.coalesce_laws.specs.Remaining.{TakesOver, parents_of_oldest}
use Rattle.coalesce_laws.proofs.Joined.{all_single}
use Rattle.coalesce_laws.proofs.Single.{AreSingle, few_all, few_expanded, few_none, none_anew, of_oldest}

module _ (seconds : ℕ) (sel : List AnyId) (events : List PlainEvent) (h : IsSound events) where
  abbrev pub set : List AnyId
  set = joined_ones seconds sel events

  abbrev pub joins : Takings
  joins = forward_takes set events false lean.Forward

  pub single_nodes : AllByRecursion (λ (n : Node). AreSingle (is_removed set) n.parents) (nodes events)
  single_nodes = all_single seconds sel events h

  few_nodes : AllByRecursion (λ (n : Node). length n.parents ≤ MAX_PARENTS) (nodes events)
  few_nodes = events_of_nodes (λ (n : Node). length n.parents ≤ MAX_PARENTS) events (all_imply HasFewParents (OfNodes (λ (n : Node). length n.parents ≤ MAX_PARENTS)) each events (in_parts events h).few)
    where
      each : (e : PlainEvent) → HasFewParents e → OfNodes (λ (n : Node). length n.parents ≤ MAX_PARENTS) e
      each (Commit id mark branch author committer encoding comment parents ops aliases) f = (f, tt)
      each (Blob id mark bytes) f = tt
      each (Tag id name target tagger comment mark) f = tt
      each (Reset id branch target) f = tt
      each (Pass id line) f = tt

  expanded_few : (p : ℕ) → length (expand (is_removed set) (past events) p) ≤ MAX_PARENTS
  expanded_few p =
      few_expanded (is_removed set) (past events)
      (all_reverse (λ (n : Node). AreSingle (is_removed set) n.parents) (nodes events) single_nodes)
      (all_reverse (λ (n : Node). length n.parents ≤ MAX_PARENTS) (nodes events) few_nodes) p

  record IsFew (n : Node) : Type 0 where
    single : AreSingle (is_removed set) n.parents
    few : length n.parents ≤ MAX_PARENTS

  few_left : (e : PlainEvent) → OfNodes IsFew e → AllByRecursion HasFewParents (left_of set events joins e)
  few_left (Commit id mark branch author committer encoding comment parents ops aliases) f =
      one_left HasFewParents (is_removed set id)
      (Commit id mark branch author committer encoding comment (parents_after set events joins parents) (joins.ops id parents ops) aliases)
      (λ stays. few_all (is_removed set) (past events) expanded_few parents f.0.single f.0.few)
  few_left (Blob id mark bytes) f = (few_none, tt)
  few_left (Tag id name target tagger comment mark) f = one_moved HasFewParents (is_listed (any.Tag id) set) (λ t. Tag id name t tagger comment mark) (joins.target target) (λ t is. few_none)
  few_left (Reset id branch None) f = one_left HasFewParents (is_listed (any.Reset id) set) (Reset id branch None) (λ stays. few_none)
  few_left (Reset id branch (Some target)) f = one_moved HasFewParents (is_listed (any.Reset id) set) (λ t. Reset id branch (Some t)) (joins.target target) (λ t is. few_none)
  few_left (Pass id line) f = one_left HasFewParents (is_listed (any.Pass id) set) (Pass id line) (λ stays. few_none)

  both : (ns : List Node) → AllByRecursion (λ (n : Node). AreSingle (is_removed set) n.parents) ns → AllByRecursion (λ (n : Node). length n.parents ≤ MAX_PARENTS) ns → AllByRecursion IsFew ns
  both [] s f = tt
  both (n ∷ ns) s f = (record { single = s.0; few = f.0 }, both ns s.1 f.1)

  all_few : AllByRecursion HasFewParents (all_left set events joins)
  all_few = all_flat (OfNodes IsFew) HasFewParents (left_of set events joins) few_left events (nodes_of_events IsFew events (both (nodes events) single_nodes few_nodes))

  -- ---- the whole history

  pub settles : CanBeSettled (without_set set events joins)
  settles =
      without_settles set events joins h
      (λ c parents ops own. taken_ops set events (IsFine events) (tt, tt, tt) (fine_nodes events h) push.Forward c parents ops own)
      (λ c t k is. target_stays set events push.Forward lean.Forward c t k is)

  abbrev pub new : List PlainEvent
  new = coalesce_of seconds sel events

  pub done : coalesced seconds sel events ≡ Ok new
  done = go (coalesced seconds sel events) refl
    where
      go : (r : Result (List PlainEvent) (List PlainEvent)) → coalesced seconds sel events ≡ r → coalesced seconds sel events ≡ Ok new
      go (Ok x) is = is ∙ ap Ok (sym (ap (λ (r : Result (List PlainEvent) (List PlainEvent)). elim r [ Ok y ↦ y | Err never ↦ events ]) is))
      go (Err never) is =
          let ends = settling_ends (without_set set events joins) settles in
          let same : ◌≡◌ {A = Result (List PlainEvent) (List PlainEvent)} (Err never) (Ok ends.0) = sym is ∙ ends.1 in
          absurd cc

  pub commits_stay : (c : ℕ) → has_id new (any.Commit c) ≡ has_id events (any.Commit c) && not (is_removed set c)
  commits_stay c =
      settled_ids (without_set set events joins) new done (any.Commit c)
      ∙ swept_commit events (all_left set events joins) c
      ∙ commits_left set events joins c

  pub was_there : (c : ℕ) → IsCommitOf new c → IsCommitOf events c
  was_there c there = first (has_id events (any.Commit c)) (not (is_removed set c)) (sym (commits_stay c) ∙ there)
    where
      first : (a b : Bool) → a && b ≡ true → a ≡ true
      first true b h = refl
      first false b h = h

  pub same_trees : (c : ℕ) → IsCommitOf new c → tree new c ≡ tree events c
  same_trees c there =
      settled_trees (tree events) (without_set set events joins) new
      (subst (AllByRecursion (Fits (tree events))) (sym (swept_nodes events (all_left set events joins))) (left_fits set events lean.Forward (comment_taken set events false) h))
      done c there

  pub few_parents : AllByRecursion HasFewParents new
  few_parents =
      settled_all HasFewParents (without_set set events joins) new
      (all_filter HasFewParents (λ e. not (is_left_over events (all_left set events joins) e)) (all_left set events joins) all_few) done

  pub stays_sound : IsSound new
  stays_sound =
      settled_sound (without_set set events joins) new settles done few_parents
      (λ c there. subst IsSome (sym (same_trees c there)) (h.trees c (was_there c there)))

  -- ---- what the trees show

  bytes_left : (e : PlainEvent) → HasBytesOf events e → AllByRecursion (HasBytesOf events) (left_of set events joins e)
  bytes_left (Commit id mark branch author committer encoding comment parents ops aliases) f =
      one_left (HasBytesOf events) (is_removed set id)
      (Commit id mark branch author committer encoding (joins.comment id parents comment) (parents_after set events joins parents) (joins.ops id parents ops) aliases)
      (λ stays. tt)
  bytes_left (Blob id mark bytes) f = (f, tt)
  bytes_left (Tag id name target tagger comment mark) f = one_moved (HasBytesOf events) (is_listed (any.Tag id) set) (λ t. Tag id name t tagger comment mark) (joins.target target) (λ t is. tt)
  bytes_left (Reset id branch None) f = one_left (HasBytesOf events) (is_listed (any.Reset id) set) (Reset id branch None) (λ stays. tt)
  bytes_left (Reset id branch (Some target)) f = one_moved (HasBytesOf events) (is_listed (any.Reset id) set) (λ t. Reset id branch (Some t)) (joins.target target) (λ t is. tt)
  bytes_left (Pass id line) f = one_left (HasBytesOf events) (is_listed (any.Pass id) set) (Pass id line) (λ stays. tt)

  same_bytes : AllByRecursion (HasBytesOf events) new
  same_bytes =
      let left = all_left set events joins in
      settled_all (HasBytesOf events) (without_set set events joins) new
      (all_filter (HasBytesOf events) (λ e. not (is_left_over events left e)) left
      (all_flat (HasBytesOf events) (HasBytesOf events) (left_of set events joins) bytes_left events (has_own_bytes events (in_parts events h).once))) done

  pub keeps_trees : HasTreesOf events new
  keeps_trees = record {
    trees = same_trees;
    shown = λ c there. shown_alike events new same_bytes (sound_settles new stays_sound).complete c c (same_trees c there);
  }

  -- ---- what stays

  each_one : (e : PlainEvent) → find_event (id_of e) events ≡ Some e → AllByRecursion (IsOneOf events) (left_of set events joins e)
  each_one (Commit id mark branch author committer encoding comment parents ops aliases) f =
      one_left (IsOneOf events) (is_removed set id)
      (Commit id mark branch author committer encoding (joins.comment id parents comment) (parents_after set events joins parents) (joins.ops id parents ops) aliases)
      (λ stays. (Commit id mark branch author committer encoding comment parents ops aliases, f, refl))
  each_one (Blob id mark bytes) f = ((Blob id mark bytes, f, refl), tt)
  each_one (Tag id name target tagger comment mark) f =
      one_moved (IsOneOf events) (is_listed (any.Tag id) set) (λ t. Tag id name t tagger comment mark) (joins.target target)
      (λ t is. (Tag id name target tagger comment mark, f, refl))
  each_one (Reset id branch None) f =
      one_left (IsOneOf events) (is_listed (any.Reset id) set) (Reset id branch None) (λ stays. (Reset id branch None, f, refl))
  each_one (Reset id branch (Some target)) f =
      one_moved (IsOneOf events) (is_listed (any.Reset id) set) (λ t. Reset id branch (Some t)) (joins.target target)
      (λ t is. (Reset id branch (Some target), f, refl))
  each_one (Pass id line) f =
      one_left (IsOneOf events) (is_listed (any.Pass id) set) (Pass id line) (λ stays. (Pass id line, f, refl))

  pub all_one : AllByRecursion (IsOneOf events) new
  all_one =
      let left = all_left set events joins in
      settled_all (IsOneOf events) (without_set set events joins) new
      (all_filter (IsOneOf events) (λ e. not (is_left_over events left e)) left
      (all_flat (λ e. find_event (id_of e) events ≡ Some e) (IsOneOf events) (left_of set events joins) each_one events
      (each_found events (sound_once events h).ids))) done

  -- ---- operations

  pub single_past : AllByRecursion (λ (n : Node). AreSingle (is_removed set) n.parents) (past events)
  single_past = all_reverse (λ (n : Node). AreSingle (is_removed set) n.parents) (nodes events) single_nodes

  -- a commit as it was
  record IsOld (n : Node) : Type 0 where
    at : node_at (past events) n.id ≡ Some n
    single : AreSingle (is_removed set) n.parents
    distinct : are_distinct n.parents ≡ true

  distinct_nodes : AllByRecursion (λ (n : Node). are_distinct n.parents ≡ true) (nodes events)
  distinct_nodes = events_of_nodes (λ (n : Node). are_distinct n.parents ≡ true) events (all_imply IsLawful (OfNodes (λ (n : Node). are_distinct n.parents ≡ true)) each events (in_parts events h).lawful)
    where
      each : (e : PlainEvent) → IsLawful e → OfNodes (λ (n : Node). are_distinct n.parents ≡ true) e
      each (Commit id mark branch author committer encoding comment parents ops aliases) l = (l.4, tt)
      each (Blob id mark bytes) l = tt
      each (Tag id name target tagger comment mark) l = tt
      each (Reset id branch target) l = tt
      each (Pass id line) l = tt

  parents_over : (parents : List ℕ) → AreSingle (is_removed set) parents → are_distinct parents ≡ true →
      parents_after set events joins parents ≡ parents_of_oldest (links set events parents) parents
  parents_over parents single distinct =
      of_oldest (is_removed set) (past events) single_past
      (all_reverse (λ (n : Node). are_distinct n.parents ≡ true) (nodes events) distinct_nodes) parents single distinct

  taken_over : (id : ℕ) (parents : List ℕ) (ops : List FileOp) → AreSingle (is_removed set) parents →
      joins.ops id parents ops ≡ ops_along (links set events parents) ++ ops
  taken_over id parents ops single =
      ap (λ (before : List FileOp). before ++ (ops_along (links set events parents) ++ ops))
      (none_anew (is_removed set) (past events) single_past parents single)

  each_over : (e : PlainEvent) → OfNodes IsOld e → AllByRecursion (OfNodes (TakesOver set events)) (left_of set events joins e)
  each_over (Commit id mark branch author committer encoding comment parents ops aliases) f =
      one_left (OfNodes (TakesOver set events)) (is_removed set id)
      (Commit id mark branch author committer encoding (joins.comment id parents comment) (parents_after set events joins parents) (joins.ops id parents ops) aliases)
      (λ stays. ((record { id = id; parents = parents; ops = ops }, f.0.at, parents_over parents f.0.single f.0.distinct, taken_over id parents ops f.0.single), tt))
  each_over (Blob id mark bytes) f = (tt, tt)
  each_over (Tag id name target tagger comment mark) f = one_moved (OfNodes (TakesOver set events)) (is_listed (any.Tag id) set) (λ t. Tag id name t tagger comment mark) (joins.target target) (λ t is. tt)
  each_over (Reset id branch None) f = one_left (OfNodes (TakesOver set events)) (is_listed (any.Reset id) set) (Reset id branch None) (λ stays. tt)
  each_over (Reset id branch (Some target)) f = one_moved (OfNodes (TakesOver set events)) (is_listed (any.Reset id) set) (λ t. Reset id branch (Some t)) (joins.target target) (λ t is. tt)
  each_over (Pass id line) f = one_left (OfNodes (TakesOver set events)) (is_listed (any.Pass id) set) (Pass id line) (λ stays. tt)

  old_nodes : (ns : List Node) → AllByRecursion (λ (n : Node). node_at (past events) n.id ≡ Some n) ns →
      AllByRecursion (λ (n : Node). AreSingle (is_removed set) n.parents) ns →
      AllByRecursion (λ (n : Node). are_distinct n.parents ≡ true) ns → AllByRecursion IsOld ns
  old_nodes [] a s d = tt
  old_nodes (n ∷ ns) a s d = (record { at = a.0; single = s.0; distinct = d.0 }, old_nodes ns a.1 s.1 d.1)

  pub all_over : AllByRecursion (TakesOver set events) (nodes new)
  all_over =
      let left = all_left set events joins in
      let its = subst (AllByRecursion (λ (n : Node). node_at (past events) n.id ≡ Some n)) (reverse-reverse (nodes events)) (all_reverse (λ (n : Node). node_at (past events) n.id ≡ Some n) (past events) (nodes_found (past events) (linked_past events h))) in
      events_of_nodes (TakesOver set events) new
      (settled_all (OfNodes (TakesOver set events)) (without_set set events joins) new
      (all_filter (OfNodes (TakesOver set events)) (λ e. not (is_left_over events left e)) left
      (all_flat (OfNodes IsOld) (OfNodes (TakesOver set events)) (left_of set events joins) each_over events
      (nodes_of_events IsOld events (old_nodes (nodes events) its single_nodes distinct_nodes)))) done)
