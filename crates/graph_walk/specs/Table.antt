-- Expansions that are noted for some places.
use Rattle.std.specs.Prelude.{ℕ, zero, suc, ◌<◌, ◌==◌, List, [], ◌∷◌, ◌++◌, length, slice_index_or, if◌then◌else◌}
use Rattle.std.specs.List.Sorted.{IsNonDecreasingBy}
use Rattle.graph_walk.specs.declared.expansion.Expansion.{Expansion}
use Rattle.graph_walk.specs.declared.expansion.Expansion.TheVariants.{At}
use Rattle.graph_walk.specs.declared.table.Entry.{Entry}

-- what is noted for a place; else the place itself
abbrev pub expansion_at : List Entry → ℕ → Expansion
expansion_at [] place = At place
expansion_at (entry ∷ entries) place = if entry.place == place then entry.expansion else expansion_at entries place

-- those of the first places, so many of them
abbrev pub expansions_to : ℕ → List Entry → List Expansion
expansions_to zero entries = []
expansions_to (suc count) entries = expansions_to count entries ++ expansion_at entries count ∷ []

-- the places that are noted rise, and are among so many
pub record AreNoted (count : ℕ) (entries : List Entry) : Type 0 where
  pub rising : IsNonDecreasingBy (λ (entry : Entry). entry.place) entries
  pub below : (i : ℕ) (default : Entry) → i < length entries → (slice_index_or entries i default).place < count
