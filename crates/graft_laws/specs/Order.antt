-- The order of parts, and the latest commit before a second, in their own words.
use Rattle.std.specs.Prelude.{◌≡◌, ◌≤◌, ◌<◌, ℕ, List, [], ◌∷◌, ◌++◌, filter, flat_map, nat_lt, Option, Some, None, IfSome, IsFalse, IsTrue}
use Rattle.std.specs.List.{AllByRecursion}
use Rattle.plain_model.specs.declared.event.PlainEvent.{PlainEvent}
use Rattle.graft_laws.specs.Unite.{age, dated, is_before, is_same_age}

-- ---- parts

module _ {X : Type 0} (history : X → List PlainEvent) where
  -- none is older than the one in front of it
  abbrev pub IsByAge : List X → Type 0
  IsByAge [] = Unit {0}
  IsByAge (x ∷ []) = Unit {0}
  IsByAge (x ∷ y ∷ xs) = IsFalse (is_before (age (history y)) (age (history x))) × IsByAge (y ∷ xs)

  -- those of an age, in their order
  abbrev pub of_age : Option ℕ → List X → List X
  of_age a xs = filter (λ x. is_same_age (age (history x)) a) xs

-- ---- commits

-- a commit with its second is no later than the one that was found
abbrev pub IsNoLater : Option (ℕ × ℕ) → ℕ × ℕ → Type 0
IsNoLater None c = ⊥
IsNoLater (Some found) c = c.1 ≤ found.1

-- the last of those of its second: it stands among them, and each one behind it is earlier
abbrev pub IsLastOfSecond : List (ℕ × ℕ) → ℕ × ℕ → Type 0
IsLastOfSecond commits found =
    (front : List (ℕ × ℕ)) × (behind : List (ℕ × ℕ)) × (commits ≡ front ++ found ∷ behind) × AllByRecursion (λ c. c.1 < found.1) behind

-- Of the commits before a second none is later than the one that was found, and it is the last of its second; where none was found,
-- there is none.
pub record IsLatest (events : List PlainEvent) (seconds : ℕ) (found : Option (ℕ × ℕ)) : Type 0 where
  pub none_later : AllByRecursion (λ c. IsTrue (nat_lt c.1 seconds) → IsNoLater found c) (flat_map dated events)
  pub last : IfSome found (IsLastOfSecond (filter (λ c. nat_lt c.1 seconds) (flat_map dated events)))
