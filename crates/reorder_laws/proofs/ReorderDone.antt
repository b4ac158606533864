-- What a reorder that isn't refused leaves.
use Rattle.std.proofs.Common.{◌≡◌, ◌≤◌, ◌⊎◌, ℕ, Bool, true, false, cond, List, [], ◌∷◌, ◌++◌, length, inl, inr, refl, sym, ap, subst, ◌∙◌, arith, is_ok, Option, Some, None, Result, Ok, Err}
use Rattle.std.specs.Prelude.{◌||◌, nat_lt}
use Rattle.std.specs.List.{AllByRecursion}
use Rattle.std.proofs.lemmas.Bool.{cases_Bool}
use Rattle.plain_model.specs.declared.fault.Fault.{Fault}
use Rattle.plain_model.specs.declared.fault.Fault.TheVariants as fault
use Rattle.plain_model.specs.declared.id.AnyId.{AnyId}
use Rattle.plain_model.specs.declared.id.AnyId.TheVariants as any
use Rattle.plain_model.specs.declared.limit.TheConstants.{MAX_ALIASES, MAX_EVENTS, MAX_OPERATIONS}
use Rattle.plain_model.specs.declared.event.PlainEvent.{PlainEvent}
use Rattle.plain_model.specs.declared.event.PlainEvent.TheVariants.{Blob, Commit, Tag, Reset, Pass}
use Rattle.plain_model.specs.Histories.{Node, node_at, nodes, past, tree}
use Rattle.plain_model.specs.Lookups.{alias_count}
use Rattle.plain_model.specs.Soundness.{IsSound, are_distinct, has_id}
use Rattle.plain_model.specs.Streams.{is_marked}
use Rattle.history_laws.specs.FirstParents.{ops_along}
use Rattle.history_laws.proofs.Ids.{is_marked_append}
use Rattle.history_laws.proofs.Lists.{all_imply}
use Rattle.edit_laws.specs.Checking.{tree_check}
use Rattle.edit_laws.specs.Equations.{Fits}
use Rattle.edit_laws.specs.Keeping.{HasOperationsOf}
use Rattle.edit_laws.specs.Parts.{HasFewParents, one_if, tally}
use Rattle.edit_laws.specs.Passing.{IsWithinLimits}
use Rattle.edit_laws.specs.Settling.{settle}
use Rattle.edit_laws.proofs.Lists.{OfNodes, events_of_nodes, none_passing, some_passing}
use Rattle.edit_laws.proofs.Settled.{settled}
use Rattle.edit_laws.proofs.Settles.{any_event, settled_all, settled_ids, settled_in_order, settled_once, settled_sound, settled_sums, settling_ends}
use Rattle.edit_laws.proofs.Sound.{in_parts}
use Rattle.edit_laws.proofs.Trees.{trees_fit}
use Rattle.commit_laws.specs.Selected.{chosen, kind_fault, listed, node_of}
use Rattle.commit_laws.proofs.Found.{all_found}
use Rattle.commit_laws.proofs.Given.{IsHere}
use Rattle.commit_laws.proofs.Selections.{chosen_distinct, chosen_here}
use Rattle.edit_laws.specs.Selecting.{IsSelection}
use Rattle.edit_laws.proofs.Checked.{checked}
use Rattle.edit_laws.proofs.Tallies.{aliases_counted, counted, one, ops_counted, own_aliases, own_ops}
use Rattle.reorder_laws.specs.InOrder.{IsInOrder, IsOneInOrder}
use Rattle.reorder_laws.specs.Reorder.{last_of, line_fault, lined_up, relinked, reorder_of, reorder_these, reordered, unless_refused}
use Rattle.reorder_laws.proofs.InOrder.{IsAfter, each_given, order_here, parents_given}
use Rattle.reorder_laws.proofs.Reordered.{all_both, left, left_after, left_few, left_ids, left_in_order, left_ops, left_settles, left_sums}

-- what is true where a reorder isn't refused
record IsDone (set : List AnyId) (events : List PlainEvent) (h : IsSound events) (sel : IsSelection events set) (new : List PlainEvent) : Type 0 where
  v : ℕ
  vs : List ℕ
  w : ℕ
  ws : List ℕ
  is_vs : listed set events ≡ v ∷ vs
  is_ws : chosen set ≡ w ∷ ws
  line : line_fault events v vs ≡ None
  is : settle (left set events h sel v vs w ws is_vs is_ws line) ≡ Ok new
  found : tree_check new ≡ Ok tt

checked_is : (x new : List PlainEvent) → unless_refused x ≡ Ok new → (tree_check x ≡ Ok tt) × (x ≡ new)
checked_is x new d = go (tree_check x) refl d
  where
    go : (r : Result (Unit {0}) Fault) → tree_check x ≡ r →
        ◌≡◌ {A = Result (List PlainEvent) Fault} (elim r [ Ok done ↦ Ok x | Err why ↦ Err why ]) (Ok new) →
        (tree_check x ≡ Ok tt) × (x ≡ new)
    go (Ok tt) e d = let is : x ≡ new = cc in (e, is)
    go (Err why) e d = absurd cc

module _ (set : List AnyId) (events : List PlainEvent) (h : IsSound events) (sel : IsSelection events set) (new : List PlainEvent) where
  these_done : (all turn : List ℕ) → listed set events ≡ all → chosen set ≡ turn → reorder_these set events all turn ≡ Ok new → IsDone set events h sel new
  these_done [] bs x y d = absurd cc
  these_done (v ∷ vs) [] x y d = absurd cc
  these_done (v ∷ vs) (w ∷ ws) x y d = first (line_fault events v vs) refl d
    where
      second : (line : line_fault events v vs ≡ None) (r : Result (List PlainEvent) (List PlainEvent)) → reordered set events v vs w ws ≡ r
          → ◌≡◌ {A = Result (List PlainEvent) Fault} (elim r [ Ok after ↦ unless_refused after | Err never ↦ Ok events ]) (Ok new) → IsDone set events h sel new
      second line (Ok after) e d =
          let parts = checked_is after new d in
          record {
            v = v;
            vs = vs;
            w = w;
            ws = ws;
            is_vs = x;
            is_ws = y;
            line = line;
            is = e ∙ ap Ok parts.1;
            found = subst (λ (l : List PlainEvent). tree_check l ≡ Ok tt) parts.1 parts.0;
          }
      second line (Err never) e d =
          let ends = settling_ends (left set events h sel v vs w ws x y line) (left_settles set events h sel v vs w ws x y line) in
          let is : ◌≡◌ {A = Result (List PlainEvent) (List PlainEvent)} (Err never) (Ok ends.0) = sym e ∙ ends.1 in
          absurd cc

      first : (o : Option Fault) → line_fault events v vs ≡ o
          → ◌≡◌ {A = Result (List PlainEvent) Fault} (elim o [ Some why ↦ Err why | None ↦ elim (reordered set events v vs w ws) [ Ok after ↦ unless_refused after | Err never ↦ Ok events ] ]) (Ok new) → IsDone set events h sel new
      first None e d = second e (reordered set events v vs w ws) refl d
      first (Some why) e d = absurd cc

  done_parts : reorder_of set events ≡ Ok new → IsDone set events h sel new
  done_parts d = go (nat_lt (length set) 2) d
    where
      second : (o : Option Fault) → ◌≡◌ {A = Result (List PlainEvent) Fault} (elim o [ Some why ↦ Err why | None ↦ reorder_these set events (listed set events) (chosen set) ]) (Ok new) → IsDone set events h sel new
      second None d = these_done (listed set events) (chosen set) refl refl d
      second (Some why) d = absurd cc

      go : (b : Bool)
          → ◌≡◌ {A = Result (List PlainEvent) Fault} (cond b (Err (fault.WrongCount (length set))) (elim (kind_fault events set) [ Some why ↦ Err why | None ↦ reorder_these set events (listed set events) (chosen set) ])) (Ok new) → IsDone set events h sel new
      go true d = absurd cc
      go false d = second (kind_fault events set) d

  module _ (d : reorder_of set events ≡ Ok new) where
    abbrev done : IsDone set events h sel new
    done = done_parts d

    abbrev its : List PlainEvent
    its = left set events h sel done.v done.vs done.w done.ws done.is_vs done.is_ws done.line

    reorder_sound : IsSound new
    reorder_sound =
        let can = left_settles set events h sel done.v done.vs done.w done.ws done.is_vs done.is_ws done.line in
        let once = settled_once its new can.once (settled (λ e. Unit {0}) its new (any_event its) done.is) in
        settled_sound its new can done.is
        (settled_all HasFewParents its new (left_few set events h sel done.v done.vs done.w done.ws done.is_vs done.is_ws done.line) done.is)
        ((checked new once (settled_in_order its new done.is)).1 done.found)

    reorder_ops : AllByRecursion (HasOperationsOf events) (nodes new)
    reorder_ops = events_of_nodes (HasOperationsOf events) new (settled_all (OfNodes (HasOperationsOf events)) its new (left_ops set events h sel done.v done.vs done.w done.ws done.is_vs done.is_ws done.line) done.is)

    reorder_fits : AllByRecursion (Fits (tree new)) (nodes new)
    reorder_fits = let parts = in_parts new reorder_sound in trees_fit new parts.once parts.in_order

    reorder_few : AllByRecursion HasFewParents new
    reorder_few = settled_all HasFewParents its new (left_few set events h sel done.v done.vs done.w done.ws done.is_vs done.is_ws done.line) done.is

    -- what counts alike for an event with other parents is as it was
    reorder_sums : (f : PlainEvent → ℕ) → ((given : List (ℕ × List ℕ)) (old last : ℕ) (e : PlainEvent) → f (relinked given old last e) ≡ f e) →
        tally f new ≡ tally f events
    reorder_sums f alike =
        settled_sums its new done.is f
        ∙ left_sums set events h sel done.v done.vs done.w done.ws done.is_vs done.is_ws done.line f
        (λ e. alike (lined_up (node_of events done.v).parents (done.w ∷ done.ws)) (last_of done.v done.vs) (last_of done.w done.ws) e)

    -- a test that each event passes by itself is passed by both lists, or by neither
    reorder_tests : (test : List PlainEvent → Bool) → ((xs ys : List PlainEvent) → test (xs ++ ys) ≡ test xs || test ys) →
        test [] ≡ false →
        ((given : List (ℕ × List ℕ)) (old last : ℕ) (e : PlainEvent) → test (relinked given old last e ∷ []) ≡ test (e ∷ [])) →
        test new ≡ test events
    reorder_tests test joins none alike =
        let same : tally (λ e. one_if (test (e ∷ []))) new ≡ tally (λ e. one_if (test (e ∷ []))) events = reorder_sums (λ e. one_if (test (e ∷ []))) (λ given old last e. ap one_if (alike given old last e)) in
        go (cases_Bool (test new)) (cases_Bool (test events)) same
      where
        go : (test new ≡ true) ⊎ (test new ≡ false) → (test events ≡ true) ⊎ (test events ≡ false) →
            tally (λ e. one_if (test (e ∷ []))) new ≡ tally (λ e. one_if (test (e ∷ []))) events → test new ≡ test events
        go (inl a) (inl b) same = a ∙ sym b
        go (inr a) (inr b) same = a ∙ sym b
        go (inl a) (inr b) same =
            let some = some_passing test joins none new a in
            let zero = none_passing test joins none events b in
            absurd (omega arith)
        go (inr a) (inl b) same =
            let some = some_passing test joins none events b in
            let zero = none_passing test joins none new a in
            absurd (omega arith)

-- ---- for every selection

pub line_ends : (set : List AnyId) (events : List PlainEvent) → IsSound events → IsSelection events set →
    (v : ℕ) (vs : List ℕ) (w : ℕ) (ws : List ℕ) → listed set events ≡ v ∷ vs → chosen set ≡ w ∷ ws →
    line_fault events v vs ≡ None → is_ok (reordered set events v vs w ws) ≡ true
line_ends set events h sel v vs w ws x y line =
    let ends = settling_ends (left set events h sel v vs w ws x y line) (left_settles set events h sel v vs w ws x y line) in
    ap is_ok ends.1

pub done_ids : (set : List AnyId) (events new : List PlainEvent) → IsSound events → IsSelection events set →
    reorder_of set events ≡ Ok new → (id : AnyId) → has_id new id ≡ has_id events id
done_ids set events new h sel d id =
    let done = done_parts set events h sel new d in
    settled_ids (left set events h sel done.v done.vs done.w done.ws done.is_vs done.is_ws done.line) new done.is id
    ∙ left_ids set events h sel done.v done.vs done.w done.ws done.is_vs done.is_ws done.line id

pub done_sound : (set : List AnyId) (events new : List PlainEvent) → IsSound events → IsSelection events set →
    reorder_of set events ≡ Ok new → IsSound new
done_sound set events new h sel d = reorder_sound set events h sel new d

pub done_ops : (set : List AnyId) (events new : List PlainEvent) → IsSound events → IsSelection events set →
    reorder_of set events ≡ Ok new → AllByRecursion (HasOperationsOf events) (nodes new)
done_ops set events new h sel d = reorder_ops set events h sel new d

pub done_fits : (set : List AnyId) (events new : List PlainEvent) → IsSound events → IsSelection events set →
    reorder_of set events ≡ Ok new → AllByRecursion (Fits (tree new)) (nodes new)
done_fits set events new h sel d = reorder_fits set events h sel new d

pub done_in_order : (set : List AnyId) (events new : List PlainEvent) → IsSound events → IsSelection events set →
    reorder_of set events ≡ Ok new → IsInOrder set events new
done_in_order set events new h sel d =
    let done = done_parts set events h sel new d in
    let its = left set events h sel done.v done.vs done.w done.ws done.is_vs done.is_ws done.line in
    let first = (node_of events done.v).parents in
    let given = lined_up first (done.w ∷ done.ws) in
    let old = last_of done.v done.vs in
    let last = last_of done.w done.ws in
    record {
      first = done.v;
      later = done.vs;
      front = done.w;
      behind = done.ws;
      line = done.is_vs;
      order = done.is_ws;
      parents =
          parents_given new given old last
          (all_both (IsAfter given old last) (λ (n : Node). node_at (past new) n.id ≡ Some n) (nodes new)
          (events_of_nodes (IsAfter given old last) new
          (settled_all (OfNodes (IsAfter given old last)) its new (left_after set events h sel done.v done.vs done.w done.ws done.is_vs done.is_ws done.line) done.is))
          (all_found new (done_sound set events new h sel d)))
          given
          (order_here new (done.w ∷ done.ws) (here_after done.w done.ws done.is_ws) first)
          (each_given first (done.w ∷ done.ws) (subst (λ (l : List ℕ). are_distinct l ≡ true) done.is_ws (chosen_distinct set sel.apart)));
      events_in_order =
          settled_all (IsOneInOrder done.v done.vs done.w done.ws events) its new
          (left_in_order set events h sel done.v done.vs done.w done.ws done.is_vs done.is_ws done.line) done.is;
    }
  where
    here_after : (w : ℕ) (ws : List ℕ) → chosen set ≡ w ∷ ws → AllByRecursion (IsHere new) (w ∷ ws)
    here_after w ws is =
        all_imply (IsHere events) (IsHere new) (λ c k. done_ids set events new h sel d (any.Commit c) ∙ k) (w ∷ ws)
        (subst (AllByRecursion (IsHere events)) is (chosen_here events set sel.there))

-- ---- as many as before

ops_alike : (given : List (ℕ × List ℕ)) (old last : ℕ) (e : PlainEvent) → own_ops (relinked given old last e) ≡ own_ops e
ops_alike given old last (Commit id mark branch author committer encoding comment parents ops aliases) = refl
ops_alike given old last (Blob id mark bytes) = refl
ops_alike given old last (Tag id name target tagger comment mark) = refl
ops_alike given old last (Reset id branch target) = refl
ops_alike given old last (Pass id line) = refl

aliases_alike : (given : List (ℕ × List ℕ)) (old last : ℕ) (e : PlainEvent) → own_aliases (relinked given old last e) ≡ own_aliases e
aliases_alike given old last (Commit id mark branch author committer encoding comment parents ops aliases) = refl
aliases_alike given old last (Blob id mark bytes) = refl
aliases_alike given old last (Tag id name target tagger comment mark) = refl
aliases_alike given old last (Reset id branch target) = refl
aliases_alike given old last (Pass id line) = refl

mark_alike : (m : ℕ) (given : List (ℕ × List ℕ)) (old last : ℕ) (e : PlainEvent) → is_marked (relinked given old last e ∷ []) m ≡ is_marked (e ∷ []) m
mark_alike m given old last (Commit id mark branch author committer encoding comment parents ops aliases) = refl
mark_alike m given old last (Blob id mark bytes) = refl
mark_alike m given old last (Tag id name target tagger comment mark) = refl
mark_alike m given old last (Reset id branch target) = refl
mark_alike m given old last (Pass id line) = refl

pub done_events : (set : List AnyId) (events new : List PlainEvent) → IsSound events → IsSelection events set →
    reorder_of set events ≡ Ok new → length new ≡ length events
done_events set events new h sel d =
    sym (counted new) ∙ reorder_sums set events h sel new d one (λ given old last e. refl) ∙ counted events

pub done_operations : (set : List AnyId) (events new : List PlainEvent) → IsSound events → IsSelection events set →
    reorder_of set events ≡ Ok new → length (ops_along (nodes new)) ≡ length (ops_along (nodes events))
done_operations set events new h sel d =
    sym (ops_counted new) ∙ reorder_sums set events h sel new d own_ops ops_alike ∙ ops_counted events

pub done_aliases : (set : List AnyId) (events new : List PlainEvent) → IsSound events → IsSelection events set →
    reorder_of set events ≡ Ok new → alias_count new ≡ alias_count events
done_aliases set events new h sel d =
    sym (aliases_counted new) ∙ reorder_sums set events h sel new d own_aliases aliases_alike ∙ aliases_counted events

pub done_marks : (set : List AnyId) (events new : List PlainEvent) → IsSound events → IsSelection events set →
    reorder_of set events ≡ Ok new → (m : ℕ) → is_marked new m ≡ is_marked events m
done_marks set events new h sel d m =
    reorder_tests set events h sel new d (λ l. is_marked l m) (λ xs ys. is_marked_append xs ys m) refl (mark_alike m)

pub done_limits : (set : List AnyId) (events new : List PlainEvent) → IsSound events → IsSelection events set →
    IsWithinLimits events → reorder_of set events ≡ Ok new → IsWithinLimits new
done_limits set events new h sel within d = record {
  few_events = subst (λ n. n ≤ MAX_EVENTS) (sym (done_events set events new h sel d)) within.few_events;
  few_operations = subst (λ n. n ≤ MAX_OPERATIONS) (sym (done_operations set events new h sel d)) within.few_operations;
  few_parents = reorder_few set events h sel new d;
  few_aliases = subst (λ n. n ≤ MAX_ALIASES) (sym (done_aliases set events new h sel d)) within.few_aliases;
}
