-- How the list of a plan goes on, while one event after another gets its marks.
use Rattle.std.proofs.Common.{◌≡◌, ℕ, zero, suc, ◌+◌, ◌≤◌, false, List, [], ◌∷◌, ◌++◌, length, take, drop, Option, Some, None, refl, sym, ap, subst, ◌∙◌, inl, inr, arith, append_assoc, append-nil, length-append}
use Rattle.std.specs.Prelude.{is_some, slice_get}
use Rattle.std.proofs.lemmas.Bool.{cases_Bool}
use Rattle.std.proofs.lemmas.List.{take-append-drop}
use Rattle.std.proofs.lemmas.Option.{none-some, same_Some}
use Rattle.plain_model.specs.declared.id.AnyId.{AnyId}
use Rattle.plain_model.specs.declared.limit.TheConstants.{MAX_MARK}
use Rattle.plain_model.specs.declared.event.PlainEvent.{PlainEvent}
use Rattle.plain_model.specs.Lookups.{event_marks, find_event, id_of, marks_of, own_marks, same_id}
use Rattle.plain_model.specs.Soundness.{IsSound}
use Rattle.event_arena.specs.declared.field.Field.TheVariants as field
use Rattle.event_arena.specs.Changes.{changed, with_aliases}
use Rattle.event_arena.specs.Graphs.{Change}
use Rattle.history_laws.specs.Once.{AreDistinct}
use Rattle.event_arena.proofs.ChangeLemmas.{id_with_field}
use Rattle.event_arena.proofs.ListLemmas.{take_all, take_item, drop_item, flat_take_item}
use Rattle.event_arena.proofs.OnceLemmas.{distinct_absent, marks_room}
use Rattle.history_laws.proofs.SoundOnce.{has_id_find}
use Rattle.event_arena.proofs.StepLemmas.{changed_after, changed_same, find_after, found_holds}
use Rattle.renumbering.specs.Renumbered.{marked_from, renumbered, renumbered_from}
use Rattle.renumbering.proofs.Few.{few_marks}
use Rattle.renumbering.proofs.Kept.{has_id_same}
use Rattle.renumbering.proofs.Marks.{length_own}

-- ---- changes of one event

module _ (id : AnyId) (f : PlainEvent → PlainEvent) (same : (e : PlainEvent) → id_of (f e) ≡ id_of e) where
  -- a changed event is found
  pub find_changed : (events : List PlainEvent) (e : PlainEvent) → find_event id events ≡ Some e → find_event id (changed id f events) ≡ Some (f e)
  find_changed [] e h = absurd (none-some e h)
  find_changed (x ∷ events) e h = elim (cases_Bool (same_id id (id_of x))) [
    | inl it ↦ rw it (rw (ap (same_id id) (same x) ∙ it) (ap (λ y. Some (f y)) (same_Some x e (rw it at h))))
    | inr no_it ↦ rw no_it (rw no_it (find_changed events e (rw no_it at h)))
  ]

  -- and changed again
  pub changed_twice : (g h : PlainEvent → PlainEvent) (events : List PlainEvent) (e : PlainEvent) → find_event id events ≡ Some e → g (f e) ≡ h e → changed id g (changed id f events) ≡ changed id h events
  changed_twice g h [] e is both = refl
  changed_twice g h (x ∷ events) e is both = elim (cases_Bool (same_id id (id_of x))) [
    | inl it ↦ rw it (rw (ap (same_id id) (same x) ∙ it) (let own : x ≡ e = same_Some x e (rw it at is) in ap (λ y. y ∷ events) (ap (λ y. g (f y)) own ∙ both ∙ ap h (sym own))))
    | inr no_it ↦ rw no_it (rw no_it (ap (λ ys. x ∷ ys) (changed_twice g h events e (rw no_it at is) both)))
  ]

-- a plan that keeps an event as it is
pub kept : (plan : Change) (event : PlainEvent) (f : PlainEvent → PlainEvent) → find_event (id_of event) plan.after ≡ Some event → f event ≡ event →
    plan ≡ record plan { after = changed (id_of event) f plan.after }
kept plan event f there same = ap (λ events. record plan { after = events }) (sym (changed_same (id_of event) f plan.after (found_holds (find_event (id_of event) plan.after) event (λ e. f e ≡ e) there same)))

-- a commit whose aliases are set is found with them
pub aliases_set : (event commit : PlainEvent) (new : List ℕ) (before after : List PlainEvent) → event ≡ commit → find_event (id_of event) before ≡ Some event → after ≡ changed (id_of commit) (with_aliases new) before →
    find_event (id_of commit) after ≡ Some (with_aliases new commit)
aliases_set event commit new before after is there set =
    ap (find_event (id_of commit)) set
    ∙ find_changed (id_of commit) (with_aliases new) (id_with_field (field.Aliases new)) before commit (subst (λ e. find_event (id_of e) before ≡ Some e) is there)

-- ---- an event between others

-- what isn't there isn't there under other marks
absent_renumbered : (n : ℕ) (events : List PlainEvent) (id : AnyId) → find_event id events ≡ None → find_event id (renumbered_from n events) ≡ None
absent_renumbered n events id h =
    go (find_event id (renumbered_from n events)) (sym (has_id_find (renumbered_from n events) id) ∙ has_id_same n events id ∙ has_id_find events id ∙ ap is_some h)
  where
    go : (o : Option PlainEvent) → is_some o ≡ false → o ≡ None
    go None h = refl
    go (Some e) h = absurd cc

-- ---- the marks of one event more

renumbered_push : (n : ℕ) (xs : List PlainEvent) (e : PlainEvent) → renumbered_from n (xs ++ e ∷ []) ≡ renumbered_from n xs ++ marked_from (n + length (marks_of xs)) e ∷ []
renumbered_push n [] e = ap (λ k. marked_from k e ∷ []) (let none : n ≡ n + 0 = omega arith in none)
renumbered_push n (x ∷ xs) e =
    ap (λ ys. marked_from n x ∷ ys) (renumbered_push (n + length (event_marks x)) xs e
    ∙ ap (λ k. renumbered_from (n + length (event_marks x)) xs ++ marked_from k e ∷ []) sums)
  where
    sums : n + length (event_marks x) + length (marks_of xs) ≡ n + length (marks_of (x ∷ xs))
    sums = let parts = length-append (own_marks x) (marks_of xs) in let own = length_own x in omega arith

-- ---- the list of a plan, where so many events have their marks

abbrev pub renumbered_up_to : ℕ → List PlainEvent → List PlainEvent
renumbered_up_to k events = renumbered (take k events) ++ drop k events

-- the mark that is next there
abbrev pub next_at : ℕ → List PlainEvent → ℕ
next_at k events = 1 + length (marks_of (take k events))

module _ (events : List PlainEvent) (k : ℕ) (e : PlainEvent) (is : slice_get events k ≡ Some e) where
  parts : events ≡ take k events ++ e ∷ drop (suc k) events
  parts = sym (take-append-drop k events) ∙ ap (λ ys. take k events ++ ys) (drop_item events k e is)

  pub next_more : next_at (suc k) events ≡ next_at k events + length (event_marks e)
  next_more =
      let more = ap length (flat_take_item own_marks events k e is) in
      let both = length-append (marks_of (take k events)) (own_marks e) in
      let own = length_own e in
      omega arith

  -- there are enough marks
  pub next_fits : IsSound events → next_at k events + length (event_marks e) ≤ MAX_MARK + 1
  next_fits sound =
      let room = marks_room events k e is in
      let few = few_marks events sound in
      let own = length_own e in
      omega arith

  module _ (once : AreDistinct events) where
    absent : find_event (id_of e) (renumbered (take k events)) ≡ None
    absent = absent_renumbered 1 (take k events) (id_of e) (distinct_absent (take k events) (drop (suc k) events) e (subst AreDistinct parts once))

    pub found_so_far : find_event (id_of e) (renumbered_up_to k events) ≡ Some e
    found_so_far = ap (λ ys. find_event (id_of e) (renumbered (take k events) ++ ys)) (drop_item events k e is) ∙ find_after (renumbered (take k events)) (drop (suc k) events) e absent

    pub changed_so_far : changed (id_of e) (marked_from (next_at k events)) (renumbered_up_to k events) ≡ renumbered_up_to (suc k) events
    changed_so_far =
        ap (λ ys. changed (id_of e) (marked_from (next_at k events)) (renumbered (take k events) ++ ys)) (drop_item events k e is)
        ∙ changed_after (marked_from (next_at k events)) (renumbered (take k events)) (drop (suc k) events) e absent
        ∙ sym (append_assoc (renumbered (take k events)) (marked_from (next_at k events) e ∷ []) (drop (suc k) events))
        ∙ ap (λ xs. xs ++ drop (suc k) events) (sym (renumbered_push 1 (take k events) e) ∙ ap renumbered (sym (take_item events k e is)))

-- all of them have their marks
pub so_far_all : (events : List PlainEvent) (k : ℕ) → length events ≤ k → renumbered_up_to k events ≡ renumbered events
so_far_all events k h = ap (λ xs. renumbered xs ++ drop k events) (take_all events k h) ∙ ap (λ ys. renumbered events ++ ys) (none_left k events h) ∙ append-nil (renumbered events)
  where
    none_left : (k : ℕ) (xs : List PlainEvent) → length xs ≤ k → drop k xs ≡ []
    none_left zero [] h = refl
    none_left (suc k) [] h = refl
    none_left zero (x ∷ xs) h = absurd (omega arith)
    none_left (suc k) (x ∷ xs) h = none_left k xs (omega arith)
