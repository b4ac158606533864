-- A line in another order: the list of the plan is what a reorder leaves before it is settled, and settling it ends.
use Rattle.std.proofs.Common.{◌≡◌, ◌∙◌, ℕ, ◌+◌, ◌≤◌, length, arith, Bool, true, false, cond, List, [], ◌∷◌, ◌++◌, Option, Some, None, Result, Ok, Err, map, refl, sym, ap, subst}
use Rattle.std.specs.Prelude.{IsSome, nat_lt, option_to_list}
use Rattle.std.specs.List.{AllByRecursion}
use Rattle.std.specs.List.Sorted.{IsPermutation}
use Rattle.std.proofs.lemmas.Bool.Decides.{nat_tests}
use Rattle.plain_model.specs.declared.fault.Fault.{Fault}
use Rattle.plain_model.specs.declared.fault.Fault.TheVariants as fault
use Rattle.plain_model.specs.declared.fault.Halt.{Halt}
use Rattle.plain_model.specs.declared.fault.Halt.TheVariants as halt
use Rattle.plain_model.specs.declared.id.AnyId.{AnyId}
use Rattle.plain_model.specs.declared.id.AnyId.TheVariants as any
use Rattle.plain_model.specs.declared.event.PlainEvent.{PlainEvent}
use Rattle.plain_model.specs.declared.event.PlainEvent.TheVariants.{Blob, Commit, Tag, Reset, Pass}
use Rattle.plain_model.specs.Faults.{Returns}
use Rattle.plain_model.specs.Histories.{IsLinkedPast, past}
use Rattle.plain_model.specs.Lookups.{find_event, id_of, same_id}
use Rattle.plain_model.specs.Soundness.{IsSound, has_id}
use Rattle.history_laws.proofs.Ids.{each_found, find_id}
use Rattle.history_laws.proofs.Lists.{all_imply}
use Rattle.event_arena.specs.Changes.{in_order}
use Rattle.history_laws.specs.Once.{AreDistinct}
use Rattle.history_laws.proofs.SoundOnce.{has_id_find, sound_once}
use Rattle.edit_laws.specs.Parts.{AreComplete, of_id, one_if, tally}
use Rattle.edit_laws.specs.Settling.{settle}
use Rattle.edit_laws.proofs.Lists.{own_id}
use Rattle.edit_laws.proofs.Settled.{settled}
use Rattle.edit_laws.proofs.Settles.{any_event, settled_in_order, settled_once, settling_ends}
use Rattle.edit_laws.proofs.Trees.{linked_in_order}
use Rattle.graph_walk.specs.Outcome.{IsCauseOf}
use Rattle.commit_laws.specs.Selected.{chosen, kind_fault, listed, node_of}
use Rattle.edit_laws.specs.Selecting.{IsSelection}
use Rattle.commit_laws.proofs.Selections.{chosen_here, made_unless}
use Rattle.reorder_laws.specs.Reorder.{filled, is_placed, last_of, line_fault, lined_up, relinked, relinked_all, reorder_of, reorder_these}
use Rattle.reorder_laws.proofs.Reordered.{left_settles, left_sums, relinked_id}
use Rattle.split_reorder.specs.Ordered.{ordered}
use Rattle.split_reorder.proofs.Permuted.{permuted, tally_times}
use Rattle.plan_steps.proofs.Steps.{absent_mapped, found_mapped}

-- ---- lists

-- ids stay once where they stay
distinct_mapped : (g : PlainEvent → PlainEvent) → ((e : PlainEvent) → id_of (g e) ≡ id_of e) → (es : List PlainEvent) → AreDistinct es → AreDistinct (map g es)
distinct_mapped g same [] d = tt
distinct_mapped g same (e ∷ es) d = (
  ap (λ id. find_event id (map g es)) (same e) ∙ absent_mapped g same (id_of e) es d.0,
  distinct_mapped g same es d.1,
)

tally_mapped : (f : PlainEvent → ℕ) (g : PlainEvent → PlainEvent) → ((e : PlainEvent) → f (g e) ≡ f e) → (es : List PlainEvent) → tally f (map g es) ≡ tally f es
tally_mapped f g same [] = refl
tally_mapped f g same (e ∷ es) = λ i. same e i + tally_mapped f g same es i

-- ---- events with other parents

module _ (given : List (ℕ × List ℕ)) (old new : ℕ) where
  abbrev link : PlainEvent → PlainEvent
  link e = relinked given old new e

  link_placed : (set : List AnyId) (e : PlainEvent) → is_placed set (link e) ≡ is_placed set e
  link_placed set (Commit id mark branch author committer encoding comment parents ops aliases) = refl
  link_placed set (Blob id mark bytes) = refl
  link_placed set (Tag id name target tagger comment mark) = refl
  link_placed set (Reset id branch target) = refl
  link_placed set (Pass id line) = refl

  -- the order is the same
  ordered_linked : (set : List AnyId) (us : List ℕ) (es : List PlainEvent) → ordered set us (map link es) ≡ ordered set us es
  ordered_linked set us [] = refl
  ordered_linked set [] (e ∷ es) = λ i. cond (link_placed set e i) (ordered_linked set [] es i) (relinked_id given old new e i ∷ ordered_linked set [] es i)
  ordered_linked set (u ∷ us) (e ∷ es) =
      λ i. cond (link_placed set e i) (any.Commit u ∷ ordered_linked set us es i) (relinked_id given old new e i ∷ ordered_linked set (u ∷ us) es i)

-- ---- the places

module _ (set : List AnyId) (whole : List PlainEvent) where
  -- what is put into the order is what fills the places
  puts : (us : List ℕ) (es : List PlainEvent) → AllByRecursion (λ e. find_event (id_of e) whole ≡ Some e) es → in_order (ordered set us es) whole ≡ filled set whole us es
  puts [] [] a = refl
  puts (u ∷ us) [] a = refl
  puts [] (e ∷ es) a = go (is_placed set e) (puts [] es a.1)
    where
      go : (b : Bool) → in_order (ordered set [] es) whole ≡ filled set whole [] es →
          in_order (cond b (ordered set [] es) (id_of e ∷ ordered set [] es)) whole ≡ cond b (filled set whole [] es) (e ∷ filled set whole [] es)
      go true rest = rest
      go false rest = λ i. option_to_list (a.0 i) ++ rest i
  puts (u ∷ us) (e ∷ es) a = go (is_placed set e) (puts us es a.1) (puts (u ∷ us) es a.1)
    where
      go : (b : Bool) → in_order (ordered set us es) whole ≡ filled set whole us es → in_order (ordered set (u ∷ us) es) whole ≡ filled set whole (u ∷ us) es →
          in_order (cond b (any.Commit u ∷ ordered set us es) (id_of e ∷ ordered set (u ∷ us) es)) whole
          ≡ cond b (option_to_list (find_event (any.Commit u) whole) ++ filled set whole us es) (e ∷ filled set whole (u ∷ us) es)
      go true rest stay = ap (λ (l : List PlainEvent). option_to_list (find_event (any.Commit u) whole) ++ l) rest
      go false rest stay = λ i. option_to_list (a.0 i) ++ stay i

  -- its ids are the order
  filled_ids : (us : List ℕ) (es : List PlainEvent) → AllByRecursion (λ u. IsSome (find_event (any.Commit u) whole)) us → map id_of (filled set whole us es) ≡ ordered set us es
  filled_ids [] [] a = refl
  filled_ids (u ∷ us) [] a = refl
  filled_ids [] (e ∷ es) a = go (is_placed set e) (filled_ids [] es tt)
    where
      go : (b : Bool) → map id_of (filled set whole [] es) ≡ ordered set [] es →
          map id_of (cond b (filled set whole [] es) (e ∷ filled set whole [] es)) ≡ cond b (ordered set [] es) (id_of e ∷ ordered set [] es)
      go true rest = rest
      go false rest = ap (λ (l : List AnyId). id_of e ∷ l) rest
  filled_ids (u ∷ us) (e ∷ es) a = go (is_placed set e) (filled_ids us es a.1) (filled_ids (u ∷ us) es a)
    where
      its : (o : Option PlainEvent) → find_event (any.Commit u) whole ≡ o → IsSome o → map id_of (filled set whole us es) ≡ ordered set us es →
          map id_of (option_to_list o ++ filled set whole us es) ≡ any.Commit u ∷ ordered set us es
      its None is some rest = absurd cc
      its (Some x) is some rest = λ i. sym (find_id (any.Commit u) whole x is) i ∷ rest i

      go : (b : Bool) → map id_of (filled set whole us es) ≡ ordered set us es → map id_of (filled set whole (u ∷ us) es) ≡ ordered set (u ∷ us) es →
          map id_of (cond b (option_to_list (find_event (any.Commit u) whole) ++ filled set whole us es) (e ∷ filled set whole (u ∷ us) es))
          ≡ cond b (any.Commit u ∷ ordered set us es) (id_of e ∷ ordered set (u ∷ us) es)
      go true rest stay = its (find_event (any.Commit u) whole) refl a.0 rest
      go false rest stay = ap (λ (l : List AnyId). id_of e ∷ l) stay

-- ---- the line

module _ (set : List AnyId) (events : List PlainEvent) (h : IsSound events) (sel : IsSelection events set) (v : ℕ) (vs : List ℕ) (w : ℕ) (ws : List ℕ) (is_vs : listed set events ≡ v ∷ vs) (is_ws : chosen set ≡ w ∷ ws) (line : line_fault events v vs ≡ None) where
  abbrev given : List (ℕ × List ℕ)
  given = lined_up (node_of events v).parents (w ∷ ws)

  abbrev to : PlainEvent → PlainEvent
  to e = relinked given (last_of v vs) (last_of w ws) e

  abbrev whole : List PlainEvent
  whole = relinked_all events v vs w ws

  to_id : (e : PlainEvent) → id_of (to e) ≡ id_of e
  to_id e = relinked_id given (last_of v vs) (last_of w ws) e

  abbrev pub its : List PlainEvent
  its = filled set whole (w ∷ ws) whole

  whole_once : AreDistinct whole
  whole_once = distinct_mapped to to_id events (sound_once events h).ids

  all_there : AllByRecursion (λ u. IsSome (find_event (any.Commit u) whole)) (w ∷ ws)
  all_there =
      subst (AllByRecursion (λ u. IsSome (find_event (any.Commit u) whole))) is_ws
      (all_imply (λ c. has_id events (any.Commit c) ≡ true) (λ c. IsSome (find_event (any.Commit c) whole))
      (λ c k. found_mapped to to_id (any.Commit c) events ∙ sym (has_id_find events (any.Commit c)) ∙ k)
      (chosen set) (chosen_here events set sel.there))

  -- the order has each id once
  pub order_permutes : IsPermutation (map id_of whole) (ordered set (w ∷ ws) events)
  order_permutes =
      subst (IsPermutation (map id_of whole))
      (filled_ids set whole (w ∷ ws) whole all_there ∙ ordered_linked given (last_of v vs) (last_of w ws) set (w ∷ ws) events)
      (permuted (map id_of whole) (map id_of its) (λ id.
      let alike : (e : PlainEvent) → of_id id (to e) ≡ of_id id e = λ e. ap one_if (own_id (to e) id ∙ ap (same_id id) (to_id e) ∙ sym (own_id e id)) in
      sym (tally_times id whole) ∙ tally_mapped (of_id id) to alike events ∙ sym (left_sums set events h sel v vs w ws is_vs is_ws line (of_id id) alike) ∙ tally_times id its))

  -- and puts the events where they are wanted
  pub order_puts : in_order (ordered set (w ∷ ws) events) whole ≡ its
  order_puts =
      ap (λ (ids : List AnyId). in_order ids whole) (sym (ordered_linked given (last_of v vs) (last_of w ws) set (w ∷ ws) events))
      ∙ puts set whole (w ∷ ws) whole (each_found whole whole_once)

  pub its_complete : AreComplete its
  its_complete = (left_settles set events h sel v vs w ws is_vs is_ws line).complete

  -- settling stops for want of memory alone
  pub settle_fault : {X : Type 0} (view : X → List PlainEvent) (answer : Result (List PlainEvent) Fault) (why : Halt) → IsCauseOf its why → Returns view (Err why) answer
  settle_fault view answer halt.Memory cause = tt
  settle_fault view answer (halt.Refused fault) cause =
      let ends = settling_ends its (left_settles set events h sel v vs w ws is_vs is_ws line) in
      let both : ◌≡◌ {A = Result (List PlainEvent) (List PlainEvent)} (Err cause.2.left) (Ok ends.0) = sym cause.2.never ∙ ends.1 in
      absurd cc

  pub settled_linked : (new : List PlainEvent) → settle its ≡ Ok new → IsLinkedPast (past new)
  settled_linked new made =
      let can = left_settles set events h sel v vs w ws is_vs is_ws line in
      linked_in_order new (settled_once its new can.once (settled (λ e. Unit {0}) its new (any_event its) made)) (settled_in_order its new made)

-- ---- the whole

-- commits alone, and enough of them
pub of_these : (set : List AnyId) (events : List PlainEvent) (r : Result (List PlainEvent) Fault) → 2 ≤ length set → kind_fault events set ≡ None →
    reorder_these set events (listed set events) (chosen set) ≡ r → reorder_of set events ≡ r
of_these set events r many kinds is =
    ap (λ (b : Bool). cond b (Err (fault.WrongCount (length set))) (made_unless (reorder_these set events (listed set events) (chosen set)) (kind_fault events set))) (not_few (length set) many)
    ∙ ap (made_unless (reorder_these set events (listed set events) (chosen set))) kinds ∙ is
  where
    not_few : (n : ℕ) → 2 ≤ n → nat_lt n 2 ≡ false
    not_few n h = grind (arith, nat_tests)
