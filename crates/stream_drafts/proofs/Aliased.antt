-- Aliases, after one more.
use Rattle.std.proofs.Common.{◌≡◌, ℕ, Bool, true, false, cond, List, [], ◌∷◌, ◌++◌, refl, sym, ◌∙◌, ap, Option, Some, None}
use Rattle.std.specs.Prelude.{◌==◌}
use Rattle.std.specs.Map.{lookup}
use Rattle.stream_drafts.specs.Aliased.{IsIndex}
use Rattle.stream_drafts.specs.Indexed.{first_of}

-- the first of two places where a mark is found
pub lookup_append : (aliases : List (ℕ × ℕ)) (mark commit m : ℕ)
    → lookup (λ a. a == m) (aliases ++ (mark, commit) ∷ []) ≡ first_of (lookup (λ a. a == m) aliases) (cond (mark == m) (Some commit) None)
lookup_append [] mark commit m = refl
lookup_append (a ∷ aliases) mark commit m = ap (cond (a.0 == m) (Some a.1)) (lookup_append aliases mark commit m) ∙ go (a.0 == m)
  where
    go : (b : Bool) → cond b (Some a.1) (first_of (lookup (λ x. x == m) aliases) (cond (mark == m) (Some commit) None))
        ≡ first_of (cond b (Some a.1) (lookup (λ x. x == m) aliases)) (cond (mark == m) (Some commit) None)
    go true = refl
    go false = refl

pub IsIndex_push : (aliases all : List (ℕ × ℕ)) (mark commit : ℕ) (old mid new : ℕ → Option ℕ) → all ≡ aliases ++ (mark, commit) ∷ []
    → IsIndex aliases old → ((m : ℕ) → mid m ≡ old m) → ((m : ℕ) → new m ≡ first_of (mid m) (cond (mark == m) (Some commit) None)) → IsIndex all new
IsIndex_push aliases all mark commit old mid new is i same noted = λ m.
    noted m ∙ ap (λ o. first_of o (cond (mark == m) (Some commit) None)) (same m ∙ i m) ∙ sym (lookup_append aliases mark commit m) ∙ ap (lookup (λ a. a == m)) (sym is)
