-- Ids that marks find: those of marks that rose, and all others.
use Rattle.std.specs.Prelude.{◌≡◌, ℕ, ◌<◌, ◌==◌, List, [], ◌∷◌, Option, None, nat_eq, vec_capacity, vec_len}
use Rattle.std.specs.HashMap.{get, spare}
use Rattle.std.specs.Map.{lookup}
use Rattle.stream_drafts.specs.declared.marked_ids.MarkedIds.{MarkedIds}
use Rattle.stream_drafts.specs.Indexed.{first_of}

-- each mark is above the one before, and the first above this one
abbrev pub RiseFrom : ℕ → List (ℕ × ℕ) → Type 0
RiseFrom m [] = Unit {0}
RiseFrom m (e ∷ es) = (m < e.0) × RiseFrom e.0 es

-- the last mark, or this one where there is none
abbrev pub last_from : ℕ → List (ℕ × ℕ) → ℕ
last_from m [] = m
last_from m (e ∷ es) = last_from e.0 es

-- the id that a mark finds: that of a mark that rose, or else another's
abbrev pub found_by : List (ℕ × ℕ) → (ℕ → Option ℕ) → ℕ → Option ℕ
found_by rising others m = first_of (lookup (λ a. a == m) rising) (others m)

abbrev pub finds : MarkedIds → ℕ → Option ℕ
finds ids = found_by ids.rising.items (get nat_eq ids.others)

-- no other mark is above those that rose
pub record AreApart (ids : MarkedIds) : Type 0 where
  pub rise : RiseFrom 0 ids.rising.items
  pub no_other : (m : ℕ) → last_from 0 ids.rising.items < m → get nat_eq ids.others m ≡ None

-- one mark more takes no memory
abbrev pub HasRoom : MarkedIds → Type 0
HasRoom ids = (vec_len ids.rising < vec_capacity ids.rising) × (0 < spare ids.others)
