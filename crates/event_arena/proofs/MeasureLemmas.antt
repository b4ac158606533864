-- What a list of events comes to.
use Rattle.std.proofs.Common.{◌≡◌, ◌∙◌, ℕ, zero, suc, ◌<◌, ◌≤◌, inl, inr, List, [], ◌∷◌, Some, refl, sym, ap, length, arith, length-append}
use Rattle.std.proofs.lemmas.Bool.{cases_Bool}
use Rattle.std.proofs.lemmas.Option.{none-some, same_Some}
use Rattle.std.specs.Prelude.{flat_map, map, slice_get, IsSome}
use Rattle.plain_model.specs.declared.event.PlainEvent.{PlainEvent}
use Rattle.plain_model.specs.Lookups.{AreIdsBelow, event_parents, find_event, id_number, id_of, referents_of, same_id}
use Rattle.plain_model.specs.declared.event.PlainEvent.TheVariants as plain
use Rattle.plain_model.specs.declared.id.AnyId.TheVariants as any
use Rattle.history_laws.proofs.Ids.{same_id_refl}
use Rattle.event_arena.specs.Needs.{need}

-- ---- room

-- parents are among what an event refers to
parents_referents : (e : PlainEvent) → length (event_parents e) ≤ length (referents_of e)
parents_referents (plain.Commit id mark branch author committer encoding comment parents ops aliases) = rw length-append (rw (mapped parents) (omega arith))
  where
    mapped : (ps : List ℕ) → length (map any.Commit ps) ≡ length ps
    mapped [] = refl
    mapped (p ∷ ps) = ap suc (mapped ps)
parents_referents (plain.Blob id mark bytes) = omega arith
parents_referents (plain.Tag id name target tagger comment mark) = omega arith
parents_referents (plain.Reset id branch target) = omega arith
parents_referents (plain.Pass id line) = omega arith

pub parents_need : (es : List PlainEvent) → length (flat_map event_parents es) ≤ need es
parents_need es = let h = along es in omega arith
  where
    along : (es : List PlainEvent) → length (flat_map event_parents es) ≤ length (flat_map referents_of es)
    along [] = omega arith
    along (e ∷ es) = rw (length-append (event_parents e) (flat_map event_parents es), length-append (referents_of e) (flat_map referents_of es))
        (let a = parents_referents e in let b = along es in omega arith)

-- ---- ids

found_at : (es : List PlainEvent) (k : ℕ) (e : PlainEvent) → slice_get es k ≡ Some e → IsSome (find_event (id_of e) es)
found_at [] k e h = absurd (none-some e h)
found_at (x ∷ es) zero e h = rw (sym (ap (λ y. same_id (id_of y) (id_of x)) (same_Some x e h)) ∙ same_id_refl (id_of x)) refl
found_at (x ∷ es) (suc k) e h = elim (cases_Bool (same_id (id_of e) (id_of x))) [
  | inl it ↦ rw it refl
  | inr no_it ↦ rw no_it (found_at es k e h)
]

-- the id of each event is below the bound
pub below_at : (bound : ℕ) (es : List PlainEvent) (k : ℕ) (e : PlainEvent) → AreIdsBelow bound es → slice_get es k ≡ Some e → id_number (id_of e) < bound
below_at bound es k e below h = below (id_of e) (found_at es k e h)
