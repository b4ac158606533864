-- The pair that was used longest ago: it is last, and goes first or away.
use Rattle.std.proofs.Common.{◌≡◌, ℕ, zero, suc, ◌-◌, ◌++◌, List, [], ◌∷◌, length, take, Some, refl, sym, ap, subst, ◌∙◌, arith, nat_eq, false, length-append}
use Rattle.std.specs.Prelude.{slice_get}
use Rattle.std.specs.List.{AllByRecursion, IsDistinct}
use Rattle.std.specs.Map.{keys_of, lookup_entry, remove_entry}
use Rattle.std.proofs.lemmas.Cmp.{nat_eq_equiv}
use Rattle.std.proofs.lemmas.List.{take_at}
use Rattle.std.proofs.lemmas.Option.{none-some, same_Some}
use Rattle.lru.specs.LruCache.{last_entry, promoted}

module _ {X : Type 0} where
  -- no key is that of another pair
  abbrev Misses : ℕ → List (ℕ × X) → Type 0
  Misses id [] = Unit {0}
  Misses id (e ∷ es) = (nat_eq id e.0 ≡ false) × Misses id es

  lookup_last : (es : List (ℕ × X)) (e : ℕ × X) → Misses e.0 es → lookup_entry (nat_eq e.0) (es ++ e ∷ []) ≡ Some e
  lookup_last [] e h = rw (nat_eq_equiv.refl e.0) refl
  lookup_last (x ∷ es) e h = rw h.0 (lookup_last es e h.1)

  remove_last : (es : List (ℕ × X)) (e : ℕ × X) → Misses e.0 es → remove_entry (nat_eq e.0) (es ++ e ∷ []) ≡ es
  remove_last [] e h = rw (nat_eq_equiv.refl e.0) refl
  remove_last (x ∷ es) e h = rw h.0 (ap (λ (xs : List (ℕ × X)). x ∷ xs) (remove_last es e h.1))

  key_apart : (k : ℕ) (es : List (ℕ × X)) (e : ℕ × X) → AllByRecursion (λ y. nat_eq k y ≡ false) (keys_of (es ++ e ∷ [])) → nat_eq k e.0 ≡ false
  key_apart k [] e h = h.0
  key_apart k (f ∷ es) e h = key_apart k es e h.1

  apart : (es : List (ℕ × X)) (e : ℕ × X) → IsDistinct nat_eq (keys_of (es ++ e ∷ [])) → Misses e.0 es
  unfolding IsDistinct
  apart [] e h = tt
  apart (x ∷ es) e h = (nat_eq_equiv.symm e.0 x.0 ∙ key_apart x.0 es e h.0, apart es e h.1)

  at_end : (es : List (ℕ × X)) (e : ℕ × X) → slice_get (es ++ e ∷ []) (length es) ≡ Some e
  at_end [] e = refl
  at_end (x ∷ es) e = at_end es e

  module _ (all es : List (ℕ × X)) (e : ℕ × X) (is : all ≡ es ++ e ∷ []) where
    -- it is the last one
    pub last_is : last_entry all ≡ Some e
    last_is =
        let place : length (es ++ e ∷ []) - 1 ≡ length es = let n = length-append es (e ∷ []) in omega (arith, n) in
        ap last_entry is ∙ ap (slice_get (es ++ e ∷ [])) place ∙ at_end es e

    -- it goes first
    pub promoted_last : IsDistinct nat_eq (keys_of all) → promoted (nat_eq e.0) all ≡ e ∷ es
    promoted_last once =
        let misses = apart es e (rw is at once) in
        ap (promoted (nat_eq e.0)) is ∙ rw (lookup_last es e misses, remove_last es e misses) refl

    -- it goes away
    pub rest_is : take (length all - 1) all ≡ es
    rest_is =
        ap (λ (l : List (ℕ × X)). take (length l - 1) l) is
        ∙ take_at es (e ∷ []) (length (es ++ e ∷ []) - 1) (let n = length-append es (e ∷ []) in omega (arith, n))

  -- what holds of all pairs holds of the last one
  at_place : (P : ℕ × X → Type 0) (es : List (ℕ × X)) (i : ℕ) (e : ℕ × X) → AllByRecursion P es → slice_get es i ≡ Some e → P e
  at_place P [] i e h at = absurd (none-some e at)
  at_place P (x ∷ es) zero e h at = subst P (same_Some x e at) h.0
  at_place P (x ∷ es) (suc i) e h at = at_place P es i e h.1 at

  pub last_holds : (P : ℕ × X → Type 0) (es : List (ℕ × X)) (e : ℕ × X) → AllByRecursion P es → Some e ≡ last_entry es → P e
  last_holds P es e h at = at_place P es (length es - 1) e h (sym at)
