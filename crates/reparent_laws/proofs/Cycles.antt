-- A new parent is refused where a path of parents leads from it to the commit.
use Rattle.std.proofs.Common.{◌≡◌, ℕ, Bool, true, false, cond, List, [], ◌∷◌, refl, sym, subst, ◌∙◌, true≢false, Some, None}
use Rattle.std.specs.List.{AllByRecursion}
use Rattle.plain_model.specs.declared.event.PlainEvent.{PlainEvent}
use Rattle.plain_model.specs.Soundness.{IsCommitOf, IsSound}
use Rattle.ancestry_laws.specs.Ancestry.{IsPathOfParents, descends}
use Rattle.ancestry_laws.proofs.Paths.{descent_path}
use Rattle.reparent_laws.specs.Reparent.{descendant}

module _ (events : List PlainEvent) (c : ℕ) (h : IsSound events) where
  pub found_descends : (new : List ℕ) (p : ℕ) → AllByRecursion (IsCommitOf events) new → descendant events c new ≡ Some p → IsPathOfParents events c p
  found_descends [] p there e = absurd cc
  found_descends (q ∷ new) p there e = go (descends events (c ∷ []) q) refl e (found_descends new p there.1)
    where
      go : (b : Bool) → descends events (c ∷ []) q ≡ b → cond b (Some q) (descendant events c new) ≡ Some p → (descendant events c new ≡ Some p → IsPathOfParents events c p) → IsPathOfParents events c p
      go true d e f = let is : q ≡ p = cc in subst (IsPathOfParents events c) is ((descent_path events c q h there.0).0 d)
      go false d e f = f e

  pub none_descends : (new : List ℕ) → AllByRecursion (IsCommitOf events) new → descendant events c new ≡ None → AllByRecursion (λ p. IsPathOfParents events c p → ⊥) new
  none_descends [] there e = tt
  none_descends (q ∷ new) there e = go (descends events (c ∷ []) q) refl e (none_descends new there.1)
    where
      go : (b : Bool) → descends events (c ∷ []) q ≡ b → cond b (Some q) (descendant events c new) ≡ None → (descendant events c new ≡ None → AllByRecursion (λ p. IsPathOfParents events c p → ⊥) new)
          → (IsPathOfParents events c q → ⊥) × AllByRecursion (λ p. IsPathOfParents events c p → ⊥) new
      go true d e f = absurd cc
      go false d e f = ((λ path. true≢false (sym ((descent_path events c q h there.0).1 path) ∙ d)), f e)
