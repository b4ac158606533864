-- What a reparent that isn't refused leaves.
use Rattle.std.proofs.Common.{◌≡◌, ℕ, Bool, true, false, not, List, [], ◌∷◌, ◌++◌, reverse, refl, sym, ap, subst, ◌∙◌, is_ok, Option, Some, None, Result, Ok, Err}
use Rattle.std.specs.Prelude.{◌==◌, IsSome}
use Rattle.std.specs.List.{AllByRecursion, list_any}
use Rattle.std.proofs.lemmas.Bool.{and_parts, and_from, not-true, or_parts}
use Rattle.std.proofs.lemmas.List.{reverse-append, reverse-reverse}
use Rattle.std.proofs.lemmas.List.Folds.{list_any-append}
use Rattle.plain_model.specs.declared.fault.Fault.{Fault}
use Rattle.plain_model.specs.declared.fault.Fault.TheVariants as fault
use Rattle.plain_model.specs.declared.id.AnyId.{AnyId}
use Rattle.plain_model.specs.declared.id.AnyId.TheVariants as any
use Rattle.plain_model.specs.declared.event.PlainEvent.{PlainEvent}
use Rattle.plain_model.specs.Histories.{nodes, tree}
use Rattle.plain_model.specs.Snapshots.{commit_mark}
use Rattle.plain_model.specs.Soundness.{IsCommitOf, IsSound, are_distinct, has_id}
use Rattle.edit_laws.specs.Equations.{Fits}
use Rattle.edit_laws.specs.Keeping.{AddsNothing, HasOperationsOf, KeepsTrees}
use Rattle.edit_laws.specs.Passing.{IsWithinLimits, limit_fault}
use Rattle.edit_laws.proofs.Limits.{limits_hold}
use Rattle.edit_laws.proofs.Lists.{OfNodes, all_front, all_rear, events_of_nodes}
use Rattle.edit_laws.proofs.Settled.{settled}
use Rattle.edit_laws.proofs.Settles.{any_event, settled_all, settled_in_order, settled_once, settled_sound, sound_settles}
use Rattle.edit_laws.proofs.Shown.{shown_alike}
use Rattle.edit_laws.proofs.Sound.{in_parts}
use Rattle.edit_laws.proofs.Trees.{trees_fit}
use Rattle.commit_laws.specs.Selected.{kind_fault}
use Rattle.edit_laws.specs.Selecting.{IsSelection}
use Rattle.edit_laws.proofs.Checked.{none_of_both}
use Rattle.commit_laws.proofs.Given.{IsHere}
use Rattle.commit_laws.proofs.Rewritten.{ops_all}
use Rattle.commit_laws.proofs.Selections.{chosen_distinct, chosen_here, listed_distinct, listed_here}
use Rattle.reparent_laws.specs.Faults.{tree_fault, unless_fault}
use Rattle.reparent_laws.specs.Remaining.{IsRewritten}
use Rattle.reparent_laws.specs.Reparent.{descendant, fault_after, ordered, reparent_commit, reparent_last, reparent_of, reparented, reparents}
use Rattle.reparent_laws.proofs.Checked.{no_fault, trees_checked}
use Rattle.reparent_laws.proofs.Reparented.{changes_one, kept_trees, left, left_ends, left_settles, no_event_more, same_bytes, same_ids}

-- ---- the commits that it is for

ordered_here : (use_order : Bool) (set : List AnyId) (events : List PlainEvent) → IsSelection events set → AllByRecursion (IsHere events) (ordered use_order set events)
ordered_here true set events s = chosen_here events set s.there
ordered_here false set events s = listed_here set events

ordered_distinct : (use_order : Bool) (set : List AnyId) (events : List PlainEvent) → IsSound events → IsSelection events set → are_distinct (ordered use_order set events) ≡ true
ordered_distinct true set events h s = chosen_distinct set s.apart
ordered_distinct false set events h s = listed_distinct set events h

-- what is before some items of a list without repeats has none
pub distinct_front : (xs ys : List ℕ) → are_distinct (xs ++ ys) ≡ true → are_distinct xs ≡ true
distinct_front [] ys h = refl
distinct_front (x ∷ xs) ys h =
    let parts = and_parts (not (list_any (λ m. m == x) (xs ++ ys))) (are_distinct (xs ++ ys)) h in
    let absent = or_parts (list_any (λ m. m == x) xs) (list_any (λ m. m == x) ys) (sym (list_any-append (λ m. m == x) xs ys) ∙ not-true (list_any (λ m. m == x) (xs ++ ys)) parts.0) in
    and_from (not (list_any (λ m. m == x) xs)) (are_distinct xs) (ap not absent.0) (distinct_front xs ys parts.1)

-- the last is changed
last_is : (rebase : Bool) (events : List PlainEvent) (others : List ℕ) (c : ℕ) → reparent_last rebase events (others ++ c ∷ []) ≡ reparent_commit rebase events c others
last_is rebase events others c =
    ap (λ (l : List ℕ). elim l [ [] ↦ Err (fault.WrongCount 0) | d ∷ before ↦ reparent_commit rebase events d (reverse before) ]) (reverse-append others (c ∷ []))
    ∙ ap (reparent_commit rebase events c) (reverse-reverse others)

-- ---- not refused

record IsDone (rebase : Bool) (events : List PlainEvent) (c : ℕ) (new : List ℕ) (after : List PlainEvent) : Type 0 where
  none : descendant events c new ≡ None
  is : reparented rebase events c new ≡ Ok after
  fine : fault_after rebase after ≡ None

module _ (rebase : Bool) (events : List PlainEvent) (h : IsSound events) (c : ℕ) (new : List ℕ) (after : List PlainEvent)
    (there : IsHere events c) (here_new : AllByRecursion (IsHere events) new) (distinct_new : are_distinct new ≡ true)
  where
    commit_done : reparent_commit rebase events c new ≡ Ok after → IsDone rebase events c new after
    commit_done d = first (descendant events c new) refl d
      where
        second : (r : Result (List PlainEvent) (List PlainEvent)) → reparented rebase events c new ≡ r → descendant events c new ≡ None
            → ◌≡◌ {A = Result (List PlainEvent) Fault} (elim r [ Ok x ↦ unless_fault (fault_after rebase x) x | Err never ↦ Ok events ]) (Ok after) → IsDone rebase events c new after
        second (Ok x) e none d =
            let parts = no_fault (fault_after rebase x) x after d in
            record { none = none; is = e ∙ ap Ok parts.1; fine = subst (λ (l : List PlainEvent). fault_after rebase l ≡ None) parts.1 parts.0 }
        second (Err never) e none d =
            let ends = left_ends rebase events h c new there here_new distinct_new none in
            let is : ◌≡◌ {A = Result (List PlainEvent) (List PlainEvent)} (Err never) (Ok ends.0) = sym e ∙ ends.1 in
            absurd cc

        first : (o : Option ℕ) → descendant events c new ≡ o
            → ◌≡◌ {A = Result (List PlainEvent) Fault} (elim o [ Some p ↦ Err (fault.Cycle (commit_mark events p)) | None ↦ elim (reparented rebase events c new) [ Ok x ↦ unless_fault (fault_after rebase x) x | Err never ↦ Ok events ] ]) (Ok after) → IsDone rebase events c new after
        first None e d = second (reparented rebase events c new) refl e d
        first (Some p) e d = absurd cc

    module _ (done : IsDone rebase events c new after) where
      abbrev its : List PlainEvent
      its = left rebase events h c new there here_new distinct_new

      its_limits : IsWithinLimits after
      its_limits = (limits_hold after).0 (go rebase done.fine)
        where
          go : (b : Bool) → fault_after b after ≡ None → limit_fault after ≡ None
          go true e = (none_of_both (limit_fault after) (tree_fault after) e).0
          go false e = e

      its_ids : (id : AnyId) → has_id after id ≡ has_id events id
      its_ids = same_ids rebase events h c new there here_new distinct_new after done.is

      its_trees : (x : ℕ) → IsCommitOf after x → IsSome (tree after x)
      its_trees x k = go rebase refl done.fine
        where
          go : (b : Bool) → rebase ≡ b → fault_after b after ≡ None → IsSome (tree after x)
          go true e fine =
              let can = left_settles rebase events h c new there here_new distinct_new done.none in
              let once = settled_once its after can.once (settled (λ e. Unit {0}) its after (any_event its) done.is) in
              trees_checked after once (settled_in_order its after done.is) (none_of_both (limit_fault after) (tree_fault after) fine).1 x k
          go false e fine =
              subst IsSome (sym (kept_trees rebase events h c new there here_new distinct_new after done.is e x k)) (h.trees x (sym (its_ids (any.Commit x)) ∙ k))

      its_sound : IsSound after
      its_sound =
          settled_sound its after (left_settles rebase events h c new there here_new distinct_new done.none) done.is its_limits.few_parents its_trees

      its_kept : rebase ≡ false → KeepsTrees events after
      its_kept default = record {
        trees = kept;
        shown = λ x k. shown_alike events after (same_bytes rebase events h c new there here_new distinct_new after done.is) (sound_settles after its_sound).complete x x (kept x k);
      }
        where
          kept : (x : ℕ) → IsCommitOf events x → tree after x ≡ tree events x
          kept x k = kept_trees rebase events h c new there here_new distinct_new after done.is default x (its_ids (any.Commit x) ∙ k)

      its_ops : rebase ≡ true → AllByRecursion (HasOperationsOf events) (nodes after)
      its_ops replays = go rebase replays done.is
        where
          go : (b : Bool) → b ≡ true → reparented b events c new ≡ Ok after → AllByRecursion (HasOperationsOf events) (nodes after)
          go true e is =
              events_of_nodes (HasOperationsOf events) after
              (settled_all (OfNodes (HasOperationsOf events)) (left true events h c new there here_new distinct_new) after (ops_all c (reparents true events new) (λ parents ops. refl) events h) is)
          go false e is = absurd cc

      its_change : AllByRecursion (IsRewritten c (reparents rebase events new) events) after
      its_change = changes_one rebase events h c new there here_new distinct_new after done.is

      its_events : AddsNothing events after
      its_events = no_event_more rebase events h c new there here_new distinct_new after done.is

-- ---- of a selection

module _ (use_order rebase : Bool) (set : List AnyId) (events after : List PlainEvent) (h : IsSound events) (sel : IsSelection events set) (d : reparent_of use_order rebase set events ≡ Ok after) where
  of_commits : reparent_last rebase events (ordered use_order set events) ≡ Ok after
  of_commits = go (kind_fault events set) d
    where
      go : (o : Option Fault) → ◌≡◌ {A = Result (List PlainEvent) Fault} (elim o [ Some why ↦ Err why | None ↦ reparent_last rebase events (ordered use_order set events) ]) (Ok after) → reparent_last rebase events (ordered use_order set events) ≡ Ok after
      go None d = d
      go (Some why) d = absurd cc

  -- for whatever is true where the last of the commits is changed, and the others become its parents
  of_last : (P : Type 0) → ((new : List ℕ) (c : ℕ) → ordered use_order set events ≡ new ++ c ∷ [] → reparent_commit rebase events c new ≡ Ok after → P) → P
  of_last P f = go (reverse (ordered use_order set events)) refl of_commits
    where
      go : (l : List ℕ) → reverse (ordered use_order set events) ≡ l
          → ◌≡◌ {A = Result (List PlainEvent) Fault} (elim l [ [] ↦ Err (fault.WrongCount 0) | c ∷ before ↦ reparent_commit rebase events c (reverse before) ]) (Ok after) → P
      go [] e d = absurd cc
      go (c ∷ before) e d = f (reverse before) c (sym (reverse-reverse (ordered use_order set events)) ∙ ap reverse e ∙ reverse-append (c ∷ []) before) d

  module _ (new : List ℕ) (c : ℕ) (is : ordered use_order set events ≡ new ++ c ∷ []) where
    here_both : AllByRecursion (IsHere events) (new ++ c ∷ [])
    here_both = subst (AllByRecursion (IsHere events)) is (ordered_here use_order set events sel)

    here_c : IsHere events c
    here_c = (all_rear (IsHere events) new (c ∷ []) here_both).0

    here_new : AllByRecursion (IsHere events) new
    here_new = all_front (IsHere events) new (c ∷ []) here_both

    distinct_new : are_distinct new ≡ true
    distinct_new = distinct_front new (c ∷ []) (subst (λ (l : List ℕ). are_distinct l ≡ true) is (ordered_distinct use_order set events h sel))

  done_of : (new : List ℕ) (c : ℕ) (is : ordered use_order set events ≡ new ++ c ∷ []) → reparent_commit rebase events c new ≡ Ok after → IsDone rebase events c new after
  done_of new c is d = commit_done rebase events h c new after (here_c new c is) (here_new new c is) (distinct_new new c is) d

  pub done_sound : IsSound after
  done_sound = of_last (IsSound after) (λ new c is x. its_sound rebase events h c new after (here_c new c is) (here_new new c is) (distinct_new new c is) (done_of new c is x))

  pub done_limits : IsWithinLimits after
  done_limits = of_last (IsWithinLimits after) (λ new c is x. its_limits rebase events h c new after (here_c new c is) (here_new new c is) (distinct_new new c is) (done_of new c is x))

  pub done_ids : (id : AnyId) → has_id after id ≡ has_id events id
  done_ids = of_last ((id : AnyId) → has_id after id ≡ has_id events id) (λ new c is x. its_ids rebase events h c new after (here_c new c is) (here_new new c is) (distinct_new new c is) (done_of new c is x))

  pub done_adds_nothing : AddsNothing events after
  done_adds_nothing = of_last (AddsNothing events after) (λ new c is x. its_events rebase events h c new after (here_c new c is) (here_new new c is) (distinct_new new c is) (done_of new c is x))

  pub done_last : (others : List ℕ) × (c : ℕ) × (ordered use_order set events ≡ others ++ c ∷ [])
  done_last = of_last ((others : List ℕ) × (c : ℕ) × (ordered use_order set events ≡ others ++ c ∷ [])) (λ new c is x. (new, c, is))

  pub done_changes_one : (others : List ℕ) (c : ℕ) → ordered use_order set events ≡ others ++ c ∷ [] → AllByRecursion (IsRewritten c (reparents rebase events others) events) after
  done_changes_one others c is =
      let x = sym (last_is rebase events others c) ∙ sym (ap (reparent_last rebase events) is) ∙ of_commits in
      its_change rebase events h c others after (here_c others c is) (here_new others c is) (distinct_new others c is) (done_of others c is x)

  keeps : rebase ≡ false → KeepsTrees events after
  keeps default = of_last (KeepsTrees events after) (λ new c is x. its_kept rebase events h c new after (here_c new c is) (here_new new c is) (distinct_new new c is) (done_of new c is x) default)

  replays : rebase ≡ true → AllByRecursion (HasOperationsOf events) (nodes after)
  replays rebased = of_last (AllByRecursion (HasOperationsOf events) (nodes after)) (λ new c is x. its_ops rebase events h c new after (here_c new c is) (here_new new c is) (distinct_new new c is) (done_of new c is x) rebased)

  pub done_fits : AllByRecursion (Fits (tree after)) (nodes after)
  done_fits = let parts = in_parts after done_sound in trees_fit after parts.once parts.in_order

pub done_keeps : (use_order : Bool) (set : List AnyId) (events after : List PlainEvent) → IsSound events → IsSelection events set → reparent_of use_order false set events ≡ Ok after → KeepsTrees events after
done_keeps use_order set events after h sel d = keeps use_order false set events after h sel d refl

pub done_ops : (use_order : Bool) (set : List AnyId) (events after : List PlainEvent) → IsSound events → IsSelection events set → reparent_of use_order true set events ≡ Ok after → AllByRecursion (HasOperationsOf events) (nodes after)
done_ops use_order set events after h sel d = replays use_order true set events after h sel d refl

pub reparent_ends : (rebase : Bool) (events : List PlainEvent) (c : ℕ) (new : List ℕ) → IsSound events → IsCommitOf events c → AllByRecursion (IsCommitOf events) new →
    are_distinct new ≡ true → descendant events c new ≡ None → is_ok (reparented rebase events c new) ≡ true
reparent_ends rebase events c new h there here distinct none = let ends = left_ends rebase events h c new there here distinct none in ap is_ok ends.1
