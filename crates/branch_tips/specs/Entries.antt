-- The entries of an ordered map from branches to commits, as tips.
use Rattle.std.specs.Prelude.{ℕ, Bool, true, List, [], ◌∷◌, Vec, Option, Some, None, bytes_eq, if◌then◌else◌}
use Rattle.std.specs.List.Sorted.{IsStrictlySortedBy}
use Rattle.std.specs.Map.{keys_of}
use Rattle.std.specs.Ordering.{nat_cmp}
use Rattle.std.specs.Cmp.Lexicographic.{slice_cmp}
use Rattle.plain_model.specs.Paths.{Bytes}
use Rattle.plain_model.specs.Trees.{TreeOf, has, put}

-- each branch as its bytes
abbrev pub tips_in : {A : Type 0} → List (Vec ℕ A × ℕ) → TreeOf ℕ
tips_in [] = []
tips_in (e ∷ es) = (e.0.items, e.1) ∷ tips_in es

-- each branch once, in byte order
abbrev pub AreInOrder : {A : Type 0} → List (Vec ℕ A × ℕ) → Type 0
AreInOrder es = IsStrictlySortedBy (λ x y. slice_cmp nat_cmp x.items y.items) (keys_of es)

-- ---- the branch that was set last, with its tip

-- the tip, at that branch alone
abbrev pub tip_of : Option (Bytes × ℕ) → Bytes → Option ℕ
tip_of None branch = None
tip_of (Some last) branch = if bytes_eq last.0 branch then Some last.1 else None

-- the tips, with that branch's new one
abbrev pub tips_with : Option (Bytes × ℕ) → TreeOf ℕ → TreeOf ℕ
tips_with None tips = tips
tips_with (Some last) tips = put last.0 last.1 tips

-- whether that branch has a tip among these
abbrev pub is_among : Option (Bytes × ℕ) → TreeOf ℕ → Bool
is_among None tips = true
is_among (Some last) tips = has tips last.0
