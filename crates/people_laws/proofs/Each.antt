-- A change of each event.
use Rattle.std.proofs.Common.{◌≡◌, inl, inr, false, List, [], ◌∷◌, map, refl, ap}
use Rattle.std.specs.List.{AllByRecursion}
use Rattle.std.proofs.lemmas.Bool.{cases_Bool}
use Rattle.plain_model.specs.declared.id.AnyId.{AnyId}
use Rattle.plain_model.specs.declared.event.PlainEvent.{PlainEvent}
use Rattle.plain_model.specs.Lookups.{id_of, is_listed}
use Rattle.event_arena.specs.Changes.{without_all}

module _ (f : PlainEvent → PlainEvent) where
  -- what is looked at through another function that doesn't see it
  pub map_same : (g : PlainEvent → PlainEvent) → ((e : PlainEvent) → g (f e) ≡ g e) → (es : List PlainEvent)
      → map g (map f es) ≡ map g es
  map_same g same [] = refl
  map_same g same (e ∷ es) = λ i. same e i ∷ map_same g same es i

  pub all_still : (P : PlainEvent → Type 0) → ((e : PlainEvent) → P e → P (f e)) → (es : List PlainEvent) → AllByRecursion P es
      → AllByRecursion P (map f es)
  all_still P each [] h = tt
  all_still P each (e ∷ es) h = (each e h.0, all_still P each es h.1)

  -- a change that keeps ids, and changes events of a set alone
  pub others_same : (set : List AnyId) → ((e : PlainEvent) → id_of (f e) ≡ id_of e)
      → ((e : PlainEvent) → is_listed (id_of e) set ≡ false → f e ≡ e) → (es : List PlainEvent)
      → without_all set (map f es) ≡ without_all set es
  others_same set ids stays [] = refl
  others_same set ids stays (e ∷ es) =
      let rest = others_same set ids stays es in
      elim (cases_Bool (is_listed (id_of e) set)) [
        | inl of_set ↦ rw (ids e, of_set) rest
        | inr other ↦ rw (stays e other, other) (ap (λ (l : List PlainEvent). e ∷ l) rest)
      ]
