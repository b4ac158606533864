-- The same freedom, call by call: what each call of `build` may answer, and what comes of the answers.
use Rattle.std.specs.Prelude.{◌≡◌, ◌||◌, Bool, true, false, List, [], ◌∷◌, Result, Err}
use Rattle.plain_model.specs.Paths.{Bytes}
use Rattle.plain_model.specs.declared.fault.Fault.{Fault}
use Rattle.plain_model.specs.declared.fault.Fault.TheVariants as fault
use Rattle.byte_patterns.specs.Building.{HasNoPattern}
use Rattle.byte_patterns.specs.Judging.{Judged, ◌>>>◌, as_read, plainly}
use Rattle.byte_patterns.specs.Searching.{is_pattern}

-- What has texts built as patterns, one after another, and goes on where each is one.
pub data Asking (A : Type 0) : Type 0 where
  gives : Result A Fault → Asking A
  asks : Bytes → Asking A → Asking A

-- what a call of `build` answers
pub data Answer : Type 0 where
  searched : Answer
  no_pattern : Answer
  too_big : Answer

-- What may come where the calls answer so, one after another: a pattern is searched where the grammar reads one, a text is none
-- where it reads none or one that is nested too deep, and any may be too big. At the first that isn't searched it ends.
abbrev pub Comes : {A : Type 0} → Asking A → List Answer → Result A Fault → Type 0
Comes (gives value) [] out = out ≡ value
Comes (gives value) (answer ∷ answers) out = ⊥
Comes (asks text next) [] out = ⊥
Comes (asks text next) (searched ∷ answers) out = (is_pattern text ≡ true) × Comes next answers out
Comes (asks text next) (no_pattern ∷ answers) out = HasNoPattern text × (answers ≡ []) × (out ≡ Err (fault.BadPattern text))
Comes (asks text next) (too_big ∷ answers) out = (answers ≡ []) × (out ≡ Err (fault.PatternTooBig text))

abbrev pub is_too_big : Answer → Bool
is_too_big too_big = true
is_too_big other = false

-- a size is refused
abbrev pub has_big : List Answer → Bool
has_big [] = false
has_big (answer ∷ answers) = is_too_big answer || has_big answers

-- the texts that are built, and what is prescribed as the grammar reads them
abbrev pub judged : {A : Type 0} → Asking A → Judged A
judged (gives value) = plainly value
judged (asks text next) = record { built = text ∷ []; value = as_read text (is_pattern text) } >>> λ read. judged next
