-- What a simplifying keeps: trees and what they show, ids, limits, all but the operations of selected commits; and the
-- second time changes nothing.
use Rattle.std.proofs.Common.{◌≡◌, ℕ, suc, ◌≤◌, Bool, true, false, not, List, [], ◌∷◌, length, map, refl, sym, ap, subst, ◌∙◌, arith, le_trans, Some, Result, Ok, Err}
use Rattle.std.specs.Prelude.{◌&&◌, if◌then◌else◌}
use Rattle.std.specs.List.{AllByRecursion}
use Rattle.std.proofs.lemmas.List.{length-append}
use Rattle.plain_model.specs.declared.fault.Fault.{Fault}
use Rattle.plain_model.specs.declared.id.AnyId.{AnyId}
use Rattle.plain_model.specs.declared.id.AnyId.TheVariants as any
use Rattle.plain_model.specs.declared.operation.FileOp.{FileOp}
use Rattle.plain_model.specs.declared.event.PlainEvent.{PlainEvent}
use Rattle.plain_model.specs.declared.event.PlainEvent.TheVariants.{Blob, Commit, Tag, Reset, Pass}
use Rattle.plain_model.specs.Histories.{nodes}
use Rattle.plain_model.specs.Lookups.{AreIdsBelow, find_event, id_of, is_listed}
use Rattle.plain_model.specs.Soundness.{IsSound, has_id}
use Rattle.plain_model.specs.Streams.{is_marked}
use Rattle.history_laws.specs.FirstParents.{ops_along}
use Rattle.history_laws.proofs.Ids.{each_found, has_id_append, is_marked_append}
use Rattle.history_laws.proofs.Lists.{map_same}
use Rattle.history_laws.proofs.SoundOnce.{has_id_find, sound_once}
use Rattle.edit_laws.specs.Blobs.{HasBytesOf}
use Rattle.edit_laws.specs.Checking.{tree_check}
use Rattle.edit_laws.specs.Keeping.{AddsNothing, IsNoBlob, KeepsTrees}
use Rattle.edit_laws.specs.Parts.{HasFewParents, of_id, of_mark, one_if, tally}
use Rattle.edit_laws.specs.Passing.{IsWithinLimits}
use Rattle.edit_laws.specs.Sweeping.{is_left_over, is_named, swept}
use Rattle.edit_laws.proofs.Checked.{checked}
use Rattle.edit_laws.proofs.Lists.{all_filter, tally_filter}
use Rattle.edit_laws.proofs.Naming.{swept_blob}
use Rattle.edit_laws.proofs.Settles.{sound_settles}
use Rattle.edit_laws.proofs.Shown.{has_own_bytes, shown_alike}
use Rattle.edit_laws.proofs.Sound.{in_parts}
use Rattle.edit_laws.proofs.Swept.{swept_itself, swept_others}
use Rattle.edit_laws.proofs.Tallies.{aliases_counted, counted, mapped_no_greater, none_new, one, ops_counted, own_aliases, own_ops}
use Rattle.simplify_laws.specs.Remaining.{IsSimplified}
use Rattle.simplify_laws.specs.Simplify.{is_void, ops_left, simpler, simplified, simplified_event, simplify_of}
use Rattle.simplify_laws.proofs.Again.{simpler_again}
use Rattle.simplify_laws.proofs.Simplified.{all_simple, done, few, ids_same, new_sound, new_trees, one_same, same_id_of}

-- ---- operations

shorter : (ops : List FileOp) → length (simpler ops) ≤ length ops
shorter [] = omega arith
shorter (op ∷ ops) =
    let rest = shorter ops in
    elim (is_void op ops) as (λ b. length (if b then simpler ops else op ∷ simpler ops) ≤ suc (length ops)) [ true ↦ omega arith | false ↦ omega arith ]

no_longer : (b : Bool) (ops : List FileOp) → length (ops_left b ops) ≤ length ops
no_longer true ops = shorter ops
no_longer false ops = omega arith

left_again : (b : Bool) (ops : List FileOp) → ops_left b (ops_left b ops) ≡ ops_left b ops
left_again true ops = simpler_again ops
left_again false ops = refl

module _ (set : List AnyId) where
  abbrev simple : PlainEvent → PlainEvent
  simple e = simplified_event set e

  fewer_ops : (e : PlainEvent) → own_ops (simple e) ≤ own_ops e
  fewer_ops (Commit id mark branch author committer encoding comment parents ops aliases) =
      let left = ops_left (is_listed (any.Commit id) set) ops in
      let own = length-append ops [] in
      let its = length-append left [] in
      let no_more = no_longer (is_listed (any.Commit id) set) ops in
      omega arith
  fewer_ops (Blob id mark bytes) = omega arith
  fewer_ops (Tag id name target tagger comment mark) = omega arith
  fewer_ops (Reset id branch target) = omega arith
  fewer_ops (Pass id line) = omega arith

  same_aliases : (e : PlainEvent) → own_aliases (simple e) ≡ own_aliases e
  same_aliases (Commit id mark branch author committer encoding comment parents ops aliases) = refl
  same_aliases (Blob id mark bytes) = refl
  same_aliases (Tag id name target tagger comment mark) = refl
  same_aliases (Reset id branch target) = refl
  same_aliases (Pass id line) = refl

  same_marks : (m : ℕ) (e : PlainEvent) → is_marked (simple e ∷ []) m ≡ is_marked (e ∷ []) m
  same_marks m (Commit id mark branch author committer encoding comment parents ops aliases) = refl
  same_marks m (Blob id mark bytes) = refl
  same_marks m (Tag id name target tagger comment mark) = refl
  same_marks m (Reset id branch target) = refl
  same_marks m (Pass id line) = refl

  twice : (e : PlainEvent) → simple (simple e) ≡ simple e
  twice (Commit id mark branch author committer encoding comment parents ops aliases) =
      ap (λ (left : List FileOp). Commit id mark branch author committer encoding comment parents left aliases) (left_again (is_listed (any.Commit id) set) ops)
  twice (Blob id mark bytes) = refl
  twice (Tag id name target tagger comment mark) = refl
  twice (Reset id branch target) = refl
  twice (Pass id line) = refl

  module _ (events : List PlainEvent) where
    abbrev new : List PlainEvent
    new = simplified set events

    abbrev kept : PlainEvent → Bool
    kept e = not (is_left_over events (map simple events) e)

    no_more : (f : PlainEvent → ℕ) → ((e : PlainEvent) → f (simple e) ≤ f e) → tally f new ≤ tally f events
    no_more f less = let first = tally_filter f kept (map simple events) in let rest = mapped_no_greater f simple less events in omega arith

    same_no_more : (f : PlainEvent → ℕ) → ((e : PlainEvent) → f (simple e) ≡ f e) → tally f new ≤ tally f events
    same_no_more f same = no_more f (λ e. let is = same e in omega arith)

    adds_nothing : AddsNothing events new
    adds_nothing = record {
      events = let fewer = same_no_more one (λ e. refl) in let before = counted events in let after = counted new in omega arith;
      ids = λ id there. none_new (λ l. has_id l id) (λ xs ys. has_id_append xs ys id) refl events new (same_no_more (of_id id) (λ e. ap one_if (one_same set e id))) there;
      marks = λ m there. none_new (λ l. is_marked l m) (λ xs ys. is_marked_append xs ys m) refl events new (same_no_more (of_mark m) (λ e. ap one_if (same_marks m e))) there;
      aliases =
          let fewer = same_no_more own_aliases same_aliases in
          let before = aliases_counted events in
          let after = aliases_counted new in
          omega arith;
    }

    within : IsWithinLimits events → IsWithinLimits new
    within w = record {
      few_events = le_trans adds_nothing.events w.few_events;
      few_operations =
          let fewer = no_more own_ops fewer_ops in
          let before = ops_counted events in
          let after = ops_counted new in
          le_trans (let all : length (ops_along (nodes new)) ≤ length (ops_along (nodes events)) = omega arith in all) w.few_operations;
      few_parents = all_filter HasFewParents kept (map simple events) (all_simple set HasFewParents HasFewParents (few set) events w.few_parents);
      few_aliases = le_trans adds_nothing.aliases w.few_aliases;
    }

    own_bytes : (e : PlainEvent) → HasBytesOf events e → HasBytesOf events (simple e)
    own_bytes (Commit id mark branch author committer encoding comment parents ops aliases) f = tt
    own_bytes (Blob id mark bytes) f = f
    own_bytes (Tag id name target tagger comment mark) f = tt
    own_bytes (Reset id branch target) f = tt
    own_bytes (Pass id line) f = tt

    module _ (h : IsSound events) where
      same_bytes : AllByRecursion (HasBytesOf events) new
      same_bytes = all_filter (HasBytesOf events) kept (map simple events) (all_simple set (HasBytesOf events) (HasBytesOf events) own_bytes events (has_own_bytes events (in_parts events h).once))

      keeps : tree_check new ≡ Ok tt → KeepsTrees events new
      keeps d = record {
        trees = new_trees set events h d;
        shown = λ c there. shown_alike events new same_bytes (sound_settles new (new_sound set events h d)).complete c c (new_trees set events h d c there);
      }

      one_of_all : AllByRecursion (IsSimplified set events) new
      one_of_all =
          all_filter (IsSimplified set events) kept (map simple events)
          (all_simple set (λ e. find_event (id_of e) events ≡ Some e) (IsSimplified set events)
          (λ e f. (e, ap (λ id. find_event id events) (same_id_of set e) ∙ f, refl)) events (each_found events (sound_once events h).ids))

    -- ---- once more

    any_event : (es : List PlainEvent) → AllByRecursion (λ (e : PlainEvent). Unit {0}) es
    any_event [] = tt
    any_event (e ∷ es) = (tt, any_event es)

    same_again : map simple new ≡ new
    same_again =
        map_same simple new (all_filter (λ e. simple e ≡ e) kept (map simple events)
        (all_simple set (λ e. Unit {0}) (λ e. simple e ≡ e) (λ e f. twice e) events (any_event events)))

  -- where no event is changed
  pub unchanged : (es : List PlainEvent) → tree_check es ≡ Ok tt → map simple es ≡ es → simplify_of set es ≡ Ok es
  unchanged es d same =
      let is : simplified set es ≡ es = ap (swept es) same ∙ swept_itself es in
      ap (λ (l : List PlainEvent). answer (tree_check l) l) is ∙ ap (λ (r : Result (Unit {0}) Fault). answer r es) d
    where
      answer : Result (Unit {0}) Fault → List PlainEvent → Result (List PlainEvent) Fault
      answer r l = elim r [ Ok y ↦ Ok l | Err why ↦ Err why ]

  -- ---- what isn't refused

  module _ (events result : List PlainEvent) (d : simplify_of set events ≡ Ok result) where
    -- what is true of the list is true of the answer
    of_it : (P : List PlainEvent → Type 0) → P (simplified set events) → P result
    of_it P p = subst P (done set events result d).1 p

    pub result_trees : IsSound events → KeepsTrees events result
    result_trees h = of_it (KeepsTrees events) (keeps events h (done set events result d).0)

    pub result_sound : IsSound events → IsSound result
    result_sound h = of_it IsSound (new_sound set events h (done set events result d).0)

    pub result_within : IsWithinLimits events → IsWithinLimits result
    result_within w = of_it IsWithinLimits (within events w)

    pub result_adds : AddsNothing events result
    result_adds = of_it (AddsNothing events) (adds_nothing events)

    pub result_below : (next : ℕ) → AreIdsBelow next events → AreIdsBelow next result
    result_below next below id there = below id (sym (has_id_find events id) ∙ result_adds.ids id (has_id_find result id ∙ there))

    pub result_ids : (id : AnyId) → IsNoBlob id → has_id result id ≡ has_id events id
    result_ids id other = of_it (λ l. has_id l id ≡ has_id events id) (swept_others events (map simple events) id other ∙ ids_same set events id)

    pub result_blobs : (b : ℕ) → has_id result (any.Blob b) ≡ has_id events (any.Blob b) && not (is_named events b && not (is_named result b))
    result_blobs b =
        of_it (λ l. has_id l (any.Blob b) ≡ has_id events (any.Blob b) && not (is_named events b && not (is_named l b)))
        (swept_blob events (map simple events) b
        ∙ ap (λ t. t && not (is_named events b && not (is_named (simplified set events) b))) (ids_same set events (any.Blob b)))

    pub result_one_of : IsSound events → AllByRecursion (IsSimplified set events) result
    result_one_of h = of_it (AllByRecursion (IsSimplified set events)) (one_of_all events h)

    pub result_again : simplify_of set result ≡ Ok result
    result_again =
        let parts = done set events result d in
        of_it (λ l. simplify_of set l ≡ Ok l) (unchanged (simplified set events) parts.0 (same_again events))

-- nothing changes where no commit is selected
pub none_selected : (events : List PlainEvent) → IsSound events → simplify_of [] events ≡ Ok events
none_selected events h =
    let parts = in_parts events h in
    unchanged [] events ((checked events parts.once parts.in_order).0 h.trees) (each events)
  where
    its : (e : PlainEvent) → simplified_event [] e ≡ e
    its (Commit id mark branch author committer encoding comment parents ops aliases) = refl
    its (Blob id mark bytes) = refl
    its (Tag id name target tagger comment mark) = refl
    its (Reset id branch target) = refl
    its (Pass id line) = refl

    each : (es : List PlainEvent) → map (simplified_event []) es ≡ es
    each [] = refl
    each (e ∷ es) = λ i. its e i ∷ each es i
