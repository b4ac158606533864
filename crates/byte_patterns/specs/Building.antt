-- Why a text gave no pattern.
use Rattle.std.specs.Prelude.{◌≡◌, ◌⊎◌, ℕ, ◌≤◌, true, false, Result, Err}
use Rattle.plain_model.specs.Paths.{Bytes}
use Rattle.regex.specs.declared.bytes.regex.Regex.{Regex}
use Rattle.plain_model.specs.Counts.{Rose}
use Rattle.byte_patterns.specs.Searching.{is_pattern, is_too_deep}
use Rattle.byte_patterns.specs.declared.building.BuildFault.{BuildFault}
use Rattle.byte_patterns.specs.declared.building.BuildFault.TheVariants.{NoPattern, TooBig}

-- the grammar reads none, or one that is nested too deep
abbrev pub HasNoPattern : Bytes → Type 0
HasNoPattern text = (is_pattern text ≡ false) ⊎ (is_too_deep text ≡ true)

-- each refusal has its cause, and the count of refused sizes never falls
pub record HasCause (before now : ℕ) (text : Bytes) (answer : Result Regex BuildFault) : Type 0 where
  pub later : before ≤ now
  pub no_pattern : answer ≡ Err NoPattern → HasNoPattern text
  pub too_big : answer ≡ Err TooBig → Rose before now
