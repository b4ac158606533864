-- The names of the load list have bytes such as names have, whatever is done to it.
use Rattle.std.proofs.Common.{Vec, ◌≡◌, ℕ, zero, suc, inl, inr, List, [], ◌∷◌, Some, refl, sym, subst, nat_eq}
use Rattle.std.specs.Prelude.{IsSome, flat_map, slice_get}
use Rattle.std.specs.Cmp.Lexicographic.{pointwise}
use Rattle.std.specs.List.{AllByRecursion}
use Rattle.std.specs.Map.{lookup, remove_entry}
use Rattle.std.proofs.lemmas.Bool.{cases_Bool}
use Rattle.std.proofs.lemmas.Slice.Eq.{bytes_eq-Decides}
use Rattle.indexmap.specs.IndexMap.{insert_entry, set_value_at}
use Rattle.plain_model.specs.Paths.{Bytes}
use Rattle.graft_laws.specs.Joined.{AreNameBytes}
use Rattle.history_machine.specs.Several.{joined_name}
use Rattle.history_machine.proofs.Several.{append_bytes}
use Rattle.load_list.specs.Entries.{AreNamed, Loaded}

-- ---- the list

module _ {A : Type 0} where
  -- another in the place of one
  pub named_set : (es : List (Vec ℕ A × Loaded)) (i : ℕ) (new : Loaded) → AreNamed es → AreNamed (set_value_at es i new)
  named_set [] i new h = tt
  named_set (e ∷ es) zero new h = h
  named_set (e ∷ es) (suc i) new h = (h.0, named_set es i new h.1)

  -- one more
  pub named_more : (name : Vec ℕ A) (new : Loaded) (es : List (Vec ℕ A × Loaded)) → AreNameBytes name.items → AreNamed es
      → AreNamed (insert_entry (λ (a b : Vec ℕ A). pointwise nat_eq a.items b.items) es name new)
  named_more name new [] fits h = (fits, tt)
  named_more name new (e ∷ es) fits h =
      elim (cases_Bool (pointwise nat_eq name.items e.0.items)) [
        | inl yes_it ↦ rw yes_it h
        | inr no_it ↦ rw no_it (h.0, named_more name new es fits h.1)
      ]

  -- one fewer
  pub named_fewer : (name : Bytes) (es : List (Vec ℕ A × Loaded)) → AreNamed es → AreNamed (remove_entry (λ (k : Vec ℕ A). pointwise nat_eq name k.items) es)
  named_fewer name [] h = tt
  named_fewer name (e ∷ es) h =
      elim (cases_Bool (pointwise nat_eq name e.0.items)) [
        | inl yes_it ↦ rw yes_it h.1
        | inr no_it ↦ rw no_it (h.0, named_fewer name es h.1)
      ]

  -- the one at a place
  pub named_at : (es : List (Vec ℕ A × Loaded)) (i : ℕ) (e : Vec ℕ A × Loaded) → slice_get es i ≡ Some e → AreNamed es → AreNameBytes e.0.items
  named_at [] i e at h = absurd cc
  named_at (x ∷ es) zero e at h = let same : x ≡ e = cc in subst (λ (y : Vec ℕ A × Loaded). AreNameBytes y.0.items) same h.0
  named_at (x ∷ es) (suc i) e at h = named_at es i e at h.1

  -- a name under which one is found
  pub named_found : (name : Bytes) (es : List (Vec ℕ A × Loaded)) → IsSome (lookup (λ (k : Vec ℕ A). pointwise nat_eq name k.items) es) → AreNamed es → AreNameBytes name
  named_found name [] some h = absurd cc
  named_found name (e ∷ es) some h =
      elim (cases_Bool (pointwise nat_eq name e.0.items)) [
        | inl yes_it ↦ subst AreNameBytes (sym ((bytes_eq-Decides name e.0.items).0 yes_it)) h.0
        | inr no_it ↦ named_found name es (rw no_it at some) h.1
      ]

-- ---- names

-- several together have such bytes
pub joined_bytes : (names : List Bytes) → AllByRecursion AreNameBytes names → AreNameBytes (joined_name names)
joined_bytes [] h = refl
joined_bytes (name ∷ names) h = append_bytes name (flat_map (λ other. 43 ∷ other) names) h.0 (behind names h.1)
  where
    behind : (names : List Bytes) → AllByRecursion AreNameBytes names → AreNameBytes (flat_map (λ other. 43 ∷ other) names)
    behind [] h = refl
    behind (other ∷ names) h = append_bytes (43 ∷ other) (flat_map (λ other. 43 ∷ other) names) h.0 (behind names h.1)
