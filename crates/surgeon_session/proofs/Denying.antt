-- The denials of a run, from those of its lines.
use Rattle.std.proofs.Common.{ℕ, ◌≤◌, List, [], ◌∷◌, ◌++◌, Option, append-nil, append_assoc, arith, sym, subst}
use Rattle.std.specs.List.{AllByRecursion}
use Rattle.plain_model.specs.Counts.{Rose}
use Rattle.byte_patterns.specs.Judging.{Counted, Denial}

rose_within : (a b c d : ℕ) → a ≤ b → c ≤ d → Rose b c → Rose a d
rose_within a b c d le le' h = omega (arith, le, le', h)

counted_within : (a b c d : ℕ) (denial : Option Denial) → a ≤ b → c ≤ d → Counted b c denial → Counted a d denial
counted_within a b c d denial le le' h = λ sized. rose_within a b c d le le' (h sized)

-- those of the lines before, and that of this one
pub counted_more : (a b c : ℕ) (denials : List (Option Denial)) (denial : Option Denial) → a ≤ b → b ≤ c
    → AllByRecursion (Counted a b) denials → Counted b c denial → AllByRecursion (Counted a c) (denials ++ denial ∷ [])
counted_more a b c [] denial le le' all here = (counted_within a b c c denial le (omega arith) here, tt)
counted_more a b c (d ∷ denials) denial le le' all here =
    (counted_within a a b c d (omega arith) le' all.0, counted_more a b c denials denial le le' all.1 here)

-- one of several, put after those before
pub one_by_one : (P : List (Option Denial) → Type 0) (before : List (Option Denial)) (denial : Option Denial) (more : List (Option Denial))
    → P (before ++ denial ∷ more) → P ((before ++ denial ∷ []) ++ more)
one_by_one P before denial more h = subst P (sym (append_assoc before (denial ∷ []) more)) h

-- and back
pub all_at_once : (P : List (Option Denial) → Type 0) (before : List (Option Denial)) (denial : Option Denial) (more : List (Option Denial))
    → P ((before ++ denial ∷ []) ++ more) → P (before ++ denial ∷ more)
all_at_once P before denial more h = subst P (append_assoc before (denial ∷ []) more) h

pub with_none : (P : List (Option Denial) → Type 0) (before : List (Option Denial)) → P before → P (before ++ [])
with_none P before h = subst P (sym (append-nil before)) h

pub no_more : (P : List (Option Denial) → Type 0) (before : List (Option Denial)) → P (before ++ []) → P before
no_more P before h = subst P (append-nil before) h
