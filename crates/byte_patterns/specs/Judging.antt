-- What is prescribed where patterns are built on the way, and what a refusal of one of them makes of it. (own)
use Rattle.std.specs.Prelude.{◌≡◌, ℕ, ◌==◌, ◌||◌, Bool, true, false, List, [], ◌∷◌, ◌++◌, length, nat_lt, slice_get, Option, Some, None, Result, Ok, Err, if◌then◌else◌}
use Rattle.std.specs.List.{list_any}
use Rattle.plain_model.specs.Paths.{Bytes}
use Rattle.plain_model.specs.declared.fault.Fault.{Fault}
use Rattle.plain_model.specs.declared.fault.Fault.TheVariants as fault
use Rattle.plain_model.specs.declared.fault.Halt.{Halt}
use Rattle.plain_model.specs.declared.fault.Halt.TheVariants as halt
use Rattle.plain_model.specs.Counts.{Rose}
use Rattle.byte_patterns.specs.Searching.{is_pattern, is_too_deep}

-- ---- what is prescribed

-- a value or a fault, as each text is read by the grammar; and the texts that are built as patterns on the way, in order
pub record Judged (A : Type 0) : Type 0 where
  pub built : List Bytes
  pub value : Result A Fault

-- no pattern is built
abbrev pub plainly : {A : Type 0} → Result A Fault → Judged A
plainly value = record { built = []; value = value }

-- the patterns that are built first, and what comes then
abbrev pub with_built : {A : Type 0} → List Bytes → Judged A → Judged A
with_built built next = record { built = built ++ next.built; value = next.value }

abbrev pub next_of : {A B : Type 0} → List Bytes → Result A Fault → (A → Judged B) → Judged B
next_of built (Ok x) next = with_built built (next x)
next_of built (Err why) next = record { built = built; value = Err why }

-- one after another: the first fault counts, and after it nothing is built
infixl 10 ◌>>>◌
abbrev pub ◌>>>◌ : {A B : Type 0} → Judged A → (A → Judged B) → Judged B
first >>> next = next_of first.built first.value next

-- more than 256 bytes, or a `{` among them
abbrev pub is_big : Bytes → Bool
is_big text = nat_lt 256 (length text) || list_any (λ b. b == 123) text

-- what the grammar makes of a text that is not big
abbrev pub as_read : Bytes → Bool → Result Bytes Fault
as_read text true = Ok text
as_read text false = Err (fault.BadPattern text)

-- a text as a pattern
unfoldable pub pattern_of : Bytes → Judged Bytes
pattern_of text =
    if is_big text then plainly (Err (fault.PatternTooBig text))
    else record { built = text ∷ []; value = as_read text (is_pattern text) }

-- ---- refusals of what the grammar reads

-- why a pattern is refused that the grammar reads
pub data Reason : Type 0 where
  its_size : Reason
  its_nesting : Reason

-- which one of the patterns that are built is refused, counted from 0, and why
pub record Denial : Type 0 where
  pub place : ℕ
  pub reason : Reason

-- what is prescribed where a text is refused for its nesting
abbrev pub unless_deep : {A : Type 0} → Bytes → Bool → Result A Fault → Result A Fault
unless_deep text true otherwise = Err (fault.BadPattern text)
unless_deep text false otherwise = otherwise

-- what is prescribed where this pattern is refused, if it is built
abbrev pub without : {A : Type 0} → Reason → Option Bytes → Result A Fault → Result A Fault
without why None otherwise = otherwise
without its_size (Some text) otherwise = Err (fault.PatternTooBig text)
without its_nesting (Some text) otherwise = unless_deep text (is_too_deep text) otherwise

-- what is prescribed where one of the patterns is refused, or none
abbrev pub under : {A : Type 0} → Option Denial → Judged A → Result A Fault
under None judged = judged.value
under (Some denial) judged = without denial.reason (slice_get judged.built denial.place) judged.value

abbrev pub is_size : Reason → Bool
is_size its_size = true
is_size its_nesting = false

-- one is refused for its size
abbrev pub is_sized : Option Denial → Bool
is_sized None = false
is_sized (Some denial) = is_size denial.reason

-- a size is refused only where the count of them rose
abbrev pub Counted : ℕ → ℕ → Option Denial → Type 0
Counted before now denial = is_sized denial ≡ true → Rose before now

-- ---- calls

-- a call answers what is prescribed, none of the patterns being refused or one of them
abbrev pub Judges : {X Y : Type 0} → (X → Y) → ℕ → ℕ → Result X Halt → Judged Y → Type 0
Judges view before now (Ok x) judged = judged.value ≡ Ok (view x)
Judges view before now (Err (halt.Refused fault)) judged = (denial : Option Denial) × Counted before now denial × (under denial judged ≡ Err fault)
Judges view before now (Err halt.Memory) judged = Unit {0}
