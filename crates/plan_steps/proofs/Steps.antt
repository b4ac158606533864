-- How the list of a plan goes on, while one event after another becomes what it becomes.
use Rattle.std.proofs.Common.{◌≡◌, ◌∙◌, ℕ, zero, suc, true, cond, inl, inr, List, [], ◌∷◌, ◌++◌, Some, None, refl, sym, ap, subst, take, drop, map, append_assoc}
use Rattle.std.proofs.lemmas.Bool.{cases_Bool}
use Rattle.std.proofs.lemmas.List.{take-append-drop}
use Rattle.std.proofs.lemmas.Option.{none-some, same_Some}
use Rattle.std.specs.Prelude.{slice_get, is_some, IfSome, IsSome}
use Rattle.plain_model.specs.declared.id.AnyId.{AnyId}
use Rattle.plain_model.specs.declared.operation.FileOp.{FileOp}
use Rattle.plain_model.specs.declared.event.PlainEvent.{PlainEvent}
use Rattle.plain_model.specs.declared.event.PlainEvent.TheVariants.{Blob, Commit, Tag, Reset, Pass}
use Rattle.plain_model.specs.Lookups.{find_event, id_of, same_id}
use Rattle.history_laws.proofs.Ids.{absent_cons, cons_absent}
use Rattle.event_arena.specs.Changes.{changed, with_ops}
use Rattle.event_arena.specs.Graphs.{Change}
use Rattle.history_laws.specs.Once.{AreDistinct}
use Rattle.event_arena.proofs.ListLemmas.{drop_item, take_item}
use Rattle.event_arena.proofs.OnceLemmas.{distinct_absent}
use Rattle.event_arena.proofs.StepLemmas.{changed_after, changed_same, find_after, found_holds, map_push}

-- ---- changes of one event

-- two changes that are one for the event that is found
pub changed_alike : (id : AnyId) (f g : PlainEvent → PlainEvent) (es : List PlainEvent) → IfSome (find_event id es) (λ e. f e ≡ g e) → changed id f es ≡ changed id g es
changed_alike id f g [] h = refl
changed_alike id f g (x ∷ es) h = elim (cases_Bool (same_id id (id_of x))) [
  | inl it ↦ rw it (ap (λ y. y ∷ es) (rw it at h))
  | inr no_it ↦ rw no_it (ap (λ ys. x ∷ ys) (changed_alike id f g es (rw no_it at h)))
]

-- a plan in which nothing changes
pub kept : (plan : Change) (id : AnyId) (f : PlainEvent → PlainEvent) → IfSome (find_event id plan.after) (λ e. f e ≡ e) →
    plan ≡ record plan { after = changed id f plan.after }
kept plan id f h = ap (λ (es : List PlainEvent). record plan { after = es }) (sym (changed_same id f plan.after h))

-- an event that is there is there after a change that keeps ids
pub still_there : (x : AnyId) (f : PlainEvent → PlainEvent) → ((e : PlainEvent) → id_of (f e) ≡ id_of e) → (es : List PlainEvent) (id : AnyId) →
    is_some (find_event id (changed x f es)) ≡ is_some (find_event id es)
still_there x f same [] id = refl
still_there x f same (e ∷ es) id = elim (cases_Bool (same_id x (id_of e))) [
  | inl it ↦ rw it (elim (cases_Bool (same_id id (id_of e))) [ inl own ↦ rw (same e, own) refl | inr other ↦ rw (same e, other) refl ])
  | inr no_it ↦ rw no_it (elim (cases_Bool (same_id id (id_of e))) [ inl own ↦ rw own refl | inr other ↦ rw other (still_there x f same es id) ])
]

-- an event that isn't there can't be changed
pub changed_nowhere : (id : AnyId) (f : PlainEvent → PlainEvent) (es : List PlainEvent) → find_event id es ≡ None → changed id f es ≡ es
changed_nowhere id f [] h = refl
changed_nowhere id f (e ∷ es) h =
    let rest = absent_cons id e es h in
    rw rest.0 (ap (λ ys. e ∷ ys) (changed_nowhere id f es rest.1))

-- ---- an event between others

-- what is at a place afterwards
pub item_map : (g : PlainEvent → PlainEvent) (es : List PlainEvent) (k : ℕ) (e : PlainEvent) → slice_get es k ≡ Some e → slice_get (map g es) k ≡ Some (g e)
item_map g [] k e at = absurd (none-some e at)
item_map g (x ∷ es) zero e at = ap (λ y. Some (g y)) (same_Some x e at)
item_map g (x ∷ es) (suc k) e at = item_map g es k e at

-- ---- events of which the first have become what they become

module _ (g : PlainEvent → PlainEvent) where
  abbrev pub so_far : ℕ → List PlainEvent → List PlainEvent
  so_far k events = map g (take k events) ++ drop k events

  module _ (same : (e : PlainEvent) → id_of (g e) ≡ id_of e) where
    -- what isn't there isn't there afterwards
    pub absent_mapped : (id : AnyId) (es : List PlainEvent) → find_event id es ≡ None → find_event id (map g es) ≡ None
    absent_mapped id [] h = refl
    absent_mapped id (x ∷ es) h =
        let rest = absent_cons id x es h in
        cons_absent id (g x) (map g es) (ap (same_id id) (same x) ∙ rest.0) (absent_mapped id es rest.1)

    -- and what is there is
    pub found_mapped : (id : AnyId) (es : List PlainEvent) → is_some (find_event id (map g es)) ≡ is_some (find_event id es)
    found_mapped id [] = refl
    found_mapped id (x ∷ es) = elim (cases_Bool (same_id id (id_of x))) [
      | inl it ↦ rw (same x, it) refl
      | inr no_it ↦ rw (same x, no_it) (found_mapped id es)
    ]

    module _ (events : List PlainEvent) (once : AreDistinct events) (k : ℕ) (e : PlainEvent) (is : slice_get events k ≡ Some e) where
      absent : find_event (id_of e) (map g (take k events)) ≡ None
      absent =
          let parts : events ≡ take k events ++ e ∷ drop (suc k) events =
          sym (take-append-drop k events) ∙ ap (λ (ys : List PlainEvent). take k events ++ ys) (drop_item events k e is) in
          absent_mapped (id_of e) (take k events) (distinct_absent (take k events) (drop (suc k) events) e (subst AreDistinct parts once))

      -- the next one is found
      pub step_found : find_event (id_of e) (so_far k events) ≡ Some e
      step_found =
          ap (λ (ys : List PlainEvent). find_event (id_of e) (map g (take k events) ++ ys)) (drop_item events k e is)
          ∙ find_after (map g (take k events)) (drop (suc k) events) e absent

      -- and changed
      pub step_changed : changed (id_of e) g (so_far k events) ≡ so_far (suc k) events
      step_changed =
          ap (λ (ys : List PlainEvent). changed (id_of e) g (map g (take k events) ++ ys)) (drop_item events k e is)
          ∙ changed_after g (map g (take k events)) (drop (suc k) events) e absent
          ∙ sym (append_assoc (map g (take k events)) (g e ∷ []) (drop (suc k) events))
          ∙ ap (λ (xs : List PlainEvent). xs ++ drop (suc k) events) (sym (map_push g (take k events) e) ∙ ap (map g) (sym (take_item events k e is)))

-- ---- facts of calls

-- the event that is found is this one, which two changes make the same
pub alike_of : (es : List PlainEvent) (event e : PlainEvent) (f g : PlainEvent → PlainEvent) → event ≡ e → find_event (id_of event) es ≡ Some event → f e ≡ g e →
    changed (id_of e) f es ≡ changed (id_of event) g es
alike_of es event e f g is there same =
    let found = subst (λ x. find_event (id_of x) es ≡ Some x) is there in
    changed_alike (id_of e) f g es (found_holds (find_event (id_of e) es) e (λ x. f x ≡ g x) found same) ∙ ap (λ x. changed (id_of x) g es) (sym is)

-- or one leaves as it is
pub kept_of : (plan : Change) (event e : PlainEvent) (g : PlainEvent → PlainEvent) → event ≡ e → find_event (id_of event) plan.after ≡ Some event → g e ≡ e →
    plan ≡ record plan { after = changed (id_of event) g plan.after }
kept_of plan event e g is there same =
    kept plan (id_of event) g (found_holds (find_event (id_of event) plan.after) event (λ x. g x ≡ x) there (subst (λ x. g x ≡ x) (sym is) same))

-- ---- two changes of one event

pub changed_twice : (id : AnyId) (f g : PlainEvent → PlainEvent) → ((e : PlainEvent) → id_of (g e) ≡ id_of e) → (es : List PlainEvent) →
    changed id f (changed id g es) ≡ changed id (λ e. f (g e)) es
changed_twice id f g same [] = refl
changed_twice id f g same (e ∷ es) = elim (cases_Bool (same_id id (id_of e))) [
  | inl it ↦
      let still : same_id id (id_of (g e)) ≡ true = ap (same_id id) (same e) ∙ it in
      rw (it, still) refl
  | inr no_it ↦ rw (no_it, no_it) (ap (λ l. e ∷ l) (changed_twice id f g same es))
]

-- a changed event is there still
pub changed_there : (id : AnyId) (g : PlainEvent → PlainEvent) → ((e : PlainEvent) → id_of (g e) ≡ id_of e) → (es : List PlainEvent) →
    IsSome (find_event id es) → IsSome (find_event id (changed id g es))
changed_there id g same [] there = there
changed_there id g same (e ∷ es) there = elim (cases_Bool (same_id id (id_of e))) [
  | inl it ↦
      let still : same_id id (id_of (g e)) ≡ true = ap (same_id id) (same e) ∙ it in
      rw (it, still) refl
  | inr no_it ↦ rw (no_it, no_it) (changed_there id g same es (sym (ap (λ b. is_some (cond b (Some e) (find_event id es))) no_it) ∙ there))
]

pub ops_id : (ops : List FileOp) (e : PlainEvent) → id_of (with_ops ops e) ≡ id_of e
ops_id ops (Commit id mark branch author committer encoding comment parents old aliases) = refl
ops_id ops (Blob id mark bytes) = refl
ops_id ops (Tag id name target tagger comment mark) = refl
ops_id ops (Reset id branch target) = refl
ops_id ops (Pass id line) = refl
