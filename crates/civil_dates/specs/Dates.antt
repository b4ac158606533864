-- Dates in UTC as they are printed, of seconds since 1970: `1970-01-01T00:00:00Z` is 0. (RFC 3339, "Internet Date/Time Format")
use Rattle.std.specs.Prelude.{ℕ, zero, suc, ◌+◌, ◌-◌, ◌/◌, ◌%◌, ◌==◌, ◌&&◌, ◌||◌, not, nat_lt, Bool, List, [], ◌∷◌, ◌++◌, codes, if◌then◌else◌}
use Rattle.plain_model.specs.Paths.{Bytes}

-- a day of the calendar; months and days of a month count from 1
pub record Date : Type 0 where
  pub year : ℕ
  pub month : ℕ
  pub day : ℕ

-- every fourth year, but of the centuries only every fourth
abbrev pub is_leap : ℕ → Bool
is_leap year = (year % 4 == 0) && (not (year % 100 == 0) || (year % 400 == 0))

abbrev pub days_in_year : ℕ → ℕ
days_in_year year = if is_leap year then 366 else 365

-- the days of each month, from January on
abbrev pub month_lengths : ℕ → List ℕ
month_lengths year = 31 ∷ (if is_leap year then 29 else 28) ∷ 31 ∷ 30 ∷ 31 ∷ 30 ∷ 31 ∷ 31 ∷ 30 ∷ 31 ∷ 30 ∷ 31 ∷ []

-- so many days after the first of a month, where it and the later months have these lengths
abbrev pub date_from : ℕ → ℕ → List ℕ → ℕ → Date
date_from year month [] days = record { year = year; month = month; day = days + 1 }
date_from year month (own ∷ later) days =
    if nat_lt days own then record { year = year; month = month; day = days + 1 }
    else date_from year (month + 1) later (days - own)

-- so many days after the first of a year: the full years are counted off, as many as the first number says at most
abbrev pub date_after : ℕ → ℕ → ℕ → Date
date_after zero year days = date_from year 1 (month_lengths year) days
date_after (suc years) year days =
    if nat_lt days (days_in_year year) then date_from year 1 (month_lengths year) days
    else date_after years (year + 1) (days - days_in_year year)

-- so many days after 1 January 1970; there are no more years than days
unfoldable pub civil_day : ℕ → Date
civil_day days = date_after days 1970 days

-- ---- as text

abbrev pub two_digits : ℕ → Bytes
two_digits n = (48 + n / 10) ∷ (48 + n % 10) ∷ []

abbrev pub four_digits : ℕ → Bytes
four_digits n = two_digits (n / 100) ++ two_digits (n % 100)

-- `YYYY-MM-DD`
abbrev pub day_text : Date → Bytes
day_text date = four_digits date.year ++ codes "-" ++ two_digits date.month ++ codes "-" ++ two_digits date.day

-- `HH:MM:SS`, of seconds since midnight
abbrev pub clock_text : ℕ → Bytes
clock_text seconds =
    two_digits (seconds / 3600) ++ codes ":" ++ two_digits (seconds / 60 % 60) ++ codes ":" ++ two_digits (seconds % 60)

-- `YYYY-MM-DDTHH:MM:SSZ`; a day has 86,400 seconds
unfoldable pub date_text : ℕ → Bytes
date_text seconds = day_text (civil_day (seconds / 86400)) ++ codes "T" ++ clock_text (seconds % 86400) ++ codes "Z"
