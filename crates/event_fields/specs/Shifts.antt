-- By how much a date moves, and into which zone (reposurgeon manual, `timeoffset`; which texts: own).
use Rattle.std.specs.Prelude.{ℕ, suc, ◌==◌, ◌&&◌, ◌||◌, ◌≤◌, Bool, true, false, [], ◌∷◌, ◌++◌, codes, length, nat_le, Option, Some, None, option_map, ℤ, pos, negsuc, neg_ℤ, if◌then◌else◌}
use Rattle.plain_model.specs.Numbers.{decimal_of}
use Rattle.plain_model.specs.Parts.{number_within}
use Rattle.plain_model.specs.Paths.{Bytes}
use Rattle.plain_model.specs.Text.{zone}
use Rattle.event_fields.specs.declared.shift.TheConstants.{MAX_SHIFT, MAX_SHIFT_DIGITS}

-- so many seconds, after `-` earlier
abbrev pub directed : Bool → ℕ → ℤ
directed true n = neg_ℤ (pos n)
directed false n = pos n

-- the seconds that a sign and 1 to 12 digits say
abbrev pub shift_in : Bytes → Option ℤ
shift_in [] = None
shift_in (sign ∷ digits) =
    if (sign == 43 || sign == 45) && nat_le (length digits) MAX_SHIFT_DIGITS
    then option_map (directed (sign == 45)) (number_within MAX_SHIFT digits) else None

-- a sign, and the number that four digits say
pub record PlainZone : Type 0 where
  pub minus : Bool
  pub offset : ℕ

-- four digits say it
abbrev pub IsZone : PlainZone → Type 0
IsZone zone = zone.offset ≤ 9999

-- the zone that a sign and four digits say
abbrev pub zone_in : Bytes → Option PlainZone
zone_in [] = None
zone_in (sign ∷ digits) =
    if (sign == 43 || sign == 45) && (length digits == 4)
    then option_map (λ n. record { minus = sign == 45; offset = n }) (number_within 9999 digits) else None

-- ---- as they are written

-- `+` or `-`
abbrev pub sign_text : Bool → Bytes
sign_text minus = if minus then codes "-" else codes "+"

abbrev pub shift_text : ℤ → Bytes
shift_text (pos later) = sign_text false ++ decimal_of later
shift_text (negsuc earlier) = sign_text true ++ decimal_of (suc earlier)

abbrev pub zone_text : PlainZone → Bytes
zone_text at = sign_text at.minus ++ zone at.offset

-- so many seconds have 12 digits at most
abbrev pub IsShift : ℤ → Type 0
IsShift (pos later) = later ≤ MAX_SHIFT
IsShift (negsuc earlier) = suc earlier ≤ MAX_SHIFT
