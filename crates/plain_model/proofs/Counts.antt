-- Counts that rose.
use Rattle.std.proofs.Common.{ℕ, ◌≤◌, arith}
use Rattle.plain_model.specs.Counts.{Rose}

-- one that rose later rose
pub rose_before : (a b c : ℕ) → a ≤ b → Rose b c → Rose a c
rose_before a b c low rose = omega (arith, low, rose)
