-- Places and waiters in lists of them.
use Rattle.std.specs.Prelude.{ℕ, ◌≡◌, ◌<◌, ◌==◌, ◌||◌, ◌⊎◌, Bool, true, suc, length, List, [], ◌∷◌}
use Rattle.std.specs.List.{list_any}
use Rattle.graph_walk.specs.declared.waiting.Waiter.{Waiter}

-- the place is one of these
abbrev pub is_among : ℕ → List ℕ → Bool
is_among k places = list_any (λ place. k == place) places

-- the waiter is one of these
abbrev pub IsIn : Waiter → List Waiter → Type 0
IsIn w [] = ⊥
IsIn w (x ∷ xs) = (w ≡ x) ⊎ IsIn w xs

-- the least of them is taken away
pub record TakesLeast (place : ℕ) (old new : List ℕ) : Type 0 where
  pub was : is_among place old ≡ true
  pub others : (k : ℕ) → is_among k old ≡ (k == place) || is_among k new
  pub fewer : length old ≡ suc (length new)
  pub above : (k : ℕ) → is_among k new ≡ true → place < k
