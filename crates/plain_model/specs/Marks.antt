-- Marks (git-fast-import, `mark`).
use Rattle.std.specs.Prelude.{ℕ, ◌≤◌, Option, Some, None, ◌&&◌, nat_le, if◌then◌else◌}
use Rattle.plain_model.specs.declared.limit.TheConstants.{MAX_MARK}

-- 1 to 4,294,967,295
abbrev pub IsMark : ℕ → Type 0
IsMark n = (1 ≤ n) × (n ≤ MAX_MARK)

-- the number, if it is a mark
abbrev pub as_mark : ℕ → Option ℕ
as_mark n = if nat_le 1 n && nat_le n MAX_MARK then Some n else None
