-- One event of a list is found and changed, between others.
use Rattle.std.proofs.Common.{List, None, Option, Some, [], ap, arith, drop, inl, inr, length, map, refl, subst, suc, sym, zero, ℕ, ◌++◌, ◌∷◌, ◌≡◌, ◌≤◌}
use Rattle.std.proofs.lemmas.Bool.{cases_Bool}
use Rattle.std.proofs.lemmas.Option.{same_Some}
use Rattle.std.specs.Prelude.{IfSome}
use Rattle.plain_model.specs.Lookups.{find_event, id_of, same_id}
use Rattle.plain_model.specs.declared.event.PlainEvent.{PlainEvent}
use Rattle.plain_model.specs.declared.id.AnyId.{AnyId}
use Rattle.history_laws.proofs.Ids.{absent_cons, same_id_refl}
use Rattle.event_arena.specs.Changes.{changed}

-- ---- changes of one event

-- what holds of the event that is found
pub found_holds : (o : Option PlainEvent) (e : PlainEvent) (P : PlainEvent → Type 0) → o ≡ Some e → P e → IfSome o P
found_holds None e P is h = tt
found_holds (Some x) e P is h = subst P (sym (same_Some x e is)) h

-- a change that leaves the event as it is changes nothing
pub changed_same : (id : AnyId) (f : PlainEvent → PlainEvent) (es : List PlainEvent) → IfSome (find_event id es) (λ e. f e ≡ e) → changed id f es ≡ es
changed_same id f [] h = refl
changed_same id f (x ∷ es) h = elim (cases_Bool (same_id id (id_of x))) [
  | inl it ↦ rw it (ap (λ y. y ∷ es) (rw it at h))
  | inr no_it ↦ rw no_it (ap (λ ys. x ∷ ys) (changed_same id f es (rw no_it at h)))
]

-- ---- an event between others

-- it is found after events that have another id
pub find_after : (xs ys : List PlainEvent) (e : PlainEvent) → find_event (id_of e) xs ≡ None → find_event (id_of e) (xs ++ e ∷ ys) ≡ Some e
find_after [] ys e h = rw same_id_refl refl
find_after (x ∷ xs) ys e h =
    let rest = absent_cons (id_of e) x xs h in
    rw rest.0 (find_after xs ys e rest.1)

-- and changed there
pub changed_after : (f : PlainEvent → PlainEvent) (xs ys : List PlainEvent) (e : PlainEvent) → find_event (id_of e) xs ≡ None →
    changed (id_of e) f (xs ++ e ∷ ys) ≡ xs ++ f e ∷ ys
changed_after f [] ys e h = rw same_id_refl refl
changed_after f (x ∷ xs) ys e h =
    let rest = absent_cons (id_of e) x xs h in
    rw rest.0 (ap (λ zs. x ∷ zs) (changed_after f xs ys e rest.1))

pub map_push : (g : PlainEvent → PlainEvent) (xs : List PlainEvent) (e : PlainEvent) → map g (xs ++ e ∷ []) ≡ map g xs ++ g e ∷ []
map_push g [] e = refl
map_push g (x ∷ xs) e = ap (λ zs. g x ∷ zs) (map_push g xs e)

pub none_left : (k : ℕ) (xs : List PlainEvent) → length xs ≤ k → drop k xs ≡ []
none_left zero [] h = refl
none_left (suc k) [] h = refl
none_left zero (x ∷ xs) h = absurd (omega arith)
none_left (suc k) (x ∷ xs) h = none_left k xs (omega arith)
