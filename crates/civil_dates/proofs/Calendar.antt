-- The date of a day is the one of jiff's calendar.
use Rattle.std.proofs.Common.{◌≡◌, ℕ, zero, suc, ◌+◌, ◌-◌, ◌<◌, ◌≤◌, List, [], ◌∷◌, ◌++◌, arith, pos, negsuc, ℤ, ◌+ℤ◌, ◌*ℤ◌, inl, inr, refl, ap, sym, ◌∙◌, ltb, rules, ◌/◌, ◌%◌}
use Rattle.std.proofs.lemmas.Bool.{cases_Bool, cases_lt, ltb-true, ltb-false}
use Rattle.jiff_core.specs.declared.civil.date.Date.{Date as JiffDate}
use Rattle.jiff_core.specs.declared.civil.datetime.DateTime.{DateTime}
use Rattle.jiff_core.specs.Calendar as cal
use Rattle.jiff_core.specs.Calendar.{days_from_civil, day_count, days_in_month, IsCivilDate, IsYear}
use Rattle.jiff_core.specs.Date.{epoch_day}
use Rattle.jiff_core.specs.DateTime.{civil_nanos, civil_seconds}
use Rattle.jiff_core.specs.Time.{time_seconds}
use Rattle.jiff.specs.Names.{iso_datetime_text}
use Rattle.jiff_core.proofs.CalendarLemmas.{days_from_civil-day_count, day_count-day, day_count-end, day_count-epoch, day_count-last_of_year, day_count-later_year, day_count-next_month, day_count-next_year, days_in_year_bounds}
use Rattle.jiff_core.proofs.DateLemmas.{epoch_day_injective}
use Rattle.jiff_core.proofs.DateTimeLemmas.{civil_nanos-civil_seconds}
use Rattle.jiff_core.proofs.SignedLemmas.{signed_arith}
use Rattle.civil_dates.specs.Calendars.{IsDay}
use Rattle.civil_dates.specs.Dates.{Date, civil_day, date_after, date_from, date_text, days_in_year, month_lengths}

-- whole seconds leave no fraction
pub whole_seconds : (dt : DateTime) (n : ℕ) → civil_nanos dt ≡ pos n *ℤ pos 1_000_000_000 →
    (civil_seconds dt ≡ pos n) × (dt.time.subsec_nanosecond ≡ 0)
whole_seconds dt n e = omega (arith, signed_arith, civil_nanos-civil_seconds dt, e, dt.time.subsec_in)

-- the calendar has the date, and so many days come before it, from the first that the library counts
record IsCounted (date : Date) (days : ℕ) : Type 0 where
  civil : IsCivilDate (pos date.year) date.month date.day
  counts : day_count (pos date.year) date.month date.day ≡ days

-- from a month on, the lengths are those of the calendar, up to December
abbrev AreMonths : ℕ → ℕ → List ℕ → Type 0
AreMonths year month [] = month ≡ 13
AreMonths year month (own ∷ later) = (own ≡ days_in_month (pos year) month) × (month ≤ 12) × AreMonths year (month + 1) later

all_months : (year : ℕ) → AreMonths year 1 (month_lengths year)
all_months year = search rules

-- the year ends with its last month
no_later_month : (year month : ℕ) → month ≡ 13 → day_count (pos year) month 1 ≡ day_count (pos year) 1 1 + cal.days_in_year (pos year)
no_later_month year month is = rw is (omega (
  arith,
  day_count-next_month (pos year) 12 (omega arith),
  day_count-day (pos year) 12 1 31 (omega arith) (omega arith),
  day_count-last_of_year (pos year),
))

from_month : (year month : ℕ) (lengths : List ℕ) (days : ℕ) → IsYear (pos year) → 1 ≤ month → AreMonths year month lengths
    → day_count (pos year) month 1 + days < day_count (pos year) 1 1 + cal.days_in_year (pos year)
    → IsCounted (date_from year month lengths days) (day_count (pos year) month 1 + days)
from_month year month [] days is_year from months within = absurd (omega (arith, no_later_month year month months))
from_month year month (own ∷ later) days is_year from months within = elim (cases_Bool (ltb days own)) [
  | inl lt ↦ rw lt (record {
    civil = (is_year, (from, months.1), (omega arith, omega (arith, ltb-true days own lt, months.0)));
    counts = omega (arith, day_count-day (pos year) month 1 (days + 1) (omega arith) (omega arith));
  })
  | inr ge ↦ (
      let next = day_count-next_month (pos year) month from in
      let left = ltb-false days own ge in
      let same : day_count (pos year) (month + 1) 1 + (days - own) ≡ day_count (pos year) month 1 + days =
      omega (arith, next, months.0, left) in
      rw (ge, ← same) (from_month year (month + 1) later (days - own) is_year (omega arith) months.2 (omega (arith, same))))
]

-- years below 10000 are those of the library
in_range : (year : ℕ) → day_count (pos year) 1 1 < 7_304_850 → IsYear (pos year)
in_range year within = elim (cases_lt year 10000) [
  | inl lt ↦ (omega (arith, signed_arith), omega (arith, signed_arith))
  | inr ge ↦ absurd (elim (cases_lt 10000 year) [
    | inl lt ↦ (
        let later = day_count-later_year (pos 10000) (pos year) (omega (arith, signed_arith)) (omega (arith, signed_arith)) in
        omega (arith, day_count-end, later))
    | inr le ↦ (let same : year ≡ 10000 = omega arith in omega (arith, day_count-end, rw same at within))
  ])
]

in_year : (year days : ℕ) → days < days_in_year year → day_count (pos year) 1 1 < 7_304_850
    → IsCounted (date_from year 1 (month_lengths year) days) (day_count (pos year) 1 1 + days)
in_year year days lt within = from_month year 1 (month_lengths year) days (in_range year within) (omega arith) (all_months year) (omega arith)

from_year : (years year days : ℕ) → days ≤ years → day_count (pos year) 1 1 + days < 7_304_850
    → IsCounted (date_after years year days) (day_count (pos year) 1 1 + days)
from_year zero year days few within = in_year year days (omega (arith, days_in_year_bounds (pos year))) (omega arith)
from_year (suc years) year days few within = elim (cases_Bool (ltb days (days_in_year year))) [
  | inl lt ↦ rw lt (in_year year days (ltb-true days (days_in_year year) lt) (omega arith))
  | inr ge ↦ (
      let later = year + 1 in
      let next = day_count-next_year (pos year) (pos later) (omega (arith, signed_arith)) (omega (arith, signed_arith)) in
      let left = ltb-false days (days_in_year year) ge in
      let some : 365 ≤ days_in_year year = (days_in_year_bounds (pos year)).1 in
      let same : day_count (pos later) 1 1 + (days - days_in_year year) ≡ day_count (pos year) 1 1 + days = omega (arith, next, left) in
      rw (ge, ← same) (from_year years later (days - days_in_year year) (omega (arith, some, left)) (omega (arith, same))))
]

counted : (days : ℕ) → days ≤ 2_932_896 → IsCounted (civil_day days) (4_371_953 + days)
unfolding civil_day
counted days within = rw (← day_count-epoch) (from_year days 1970 days (omega arith) (omega (arith, day_count-epoch)))

pub is_day : (days : ℕ) → days ≤ 2_932_896 → IsDay days (civil_day days)
is_day days within =
    let h = counted days within in
    let date = civil_day days in
    record {
      civil = h.civil;
      number = omega (arith, signed_arith, h.counts, days_from_civil-day_count (pos date.year) date.month date.day);
    }

-- the same as a date of the library
shown_date : (date : Date) (days : ℕ) → IsDay days date → JiffDate
shown_date date days h = record {
  year = pos date.year;
  month = date.month;
  day = date.day;
  year_in = h.civil.0;
  month_in = h.civil.1;
  day_in = h.civil.2;
}

-- the date of the library with this day number
pub date_is : (date : JiffDate) (days : ℕ) → days ≤ 2_932_896 → epoch_day date ≡ pos days
    → (date.year ≡ pos (civil_day days).year) × (date.month ≡ (civil_day days).month) × (date.day ≡ (civil_day days).day)
unfolding shown_date
date_is date days within is =
    let h = is_day days within in
    epoch_day_injective date (shown_date (civil_day days) days h) (is ∙ sym h.number)

same_date : (a b : Date) → a.year ≡ b.year → a.month ≡ b.month → a.day ≡ b.day → a ≡ b
same_date a b year month day = λ i. record { year = year i; month = month i; day = day i }

pub only_day : (days : ℕ) (date : Date) → days ≤ 2_932_896 → IsDay days date → date ≡ civil_day days
unfolding shown_date
only_day days date within h =
    let same = date_is (shown_date date days h) days within h.number in
    same_date date (civil_day days) (omega (arith, signed_arith, same.0)) same.1 same.2

-- the day and the clock of a moment
record IsAt (dt : DateTime) (seconds : ℕ) : Type 0 where
  date : epoch_day dt.date ≡ pos (seconds / 86400)
  clock : time_seconds dt.time ≡ seconds % 86400

parts : (z : ℤ) (t n : ℕ) → t < 86400 → z *ℤ pos 86_400 +ℤ pos t ≡ pos n → (z ≡ pos (n / 86400)) × (t ≡ n % 86400)
parts (pos d) t n within e = (ap pos (omega (arith, signed_arith, e)), omega (arith, signed_arith, e))
parts (negsuc d) t n within e = absurd (omega (arith, signed_arith, e))

is_at : (dt : DateTime) (seconds : ℕ) → civil_seconds dt ≡ pos seconds → IsAt dt seconds
unfolding civil_seconds
is_at dt seconds e =
    let t = dt.time in
    let found = parts (epoch_day dt.date) (time_seconds t) seconds (omega (arith, t.hour_in, t.minute_in, t.second_in)) e in
    record { date = found.0; clock = found.1 }

-- what `Display` prints of a moment without a fraction
pub text_of : (dt : DateTime) (seconds : ℕ) → seconds ≤ 250_000_000_000 → dt.time.subsec_nanosecond ≡ 0 → civil_seconds dt ≡ pos seconds
    → iso_datetime_text dt ++ 90 ∷ [] ≡ date_text seconds
unfolding date_text
text_of dt seconds most whole e =
    let at = is_at dt seconds e in
    let date = date_is dt.date (seconds / 86400) (omega arith) at.date in
    let hour : dt.time.hour ≡ seconds % 86400 / 3600 = omega (arith, at.clock, dt.time.minute_in, dt.time.second_in) in
    let minute : dt.time.minute ≡ seconds % 86400 / 60 % 60 = omega (arith, at.clock, dt.time.minute_in, dt.time.second_in) in
    let second : dt.time.second ≡ seconds % 86400 % 60 = omega (arith, at.clock, dt.time.minute_in, dt.time.second_in) in
    rw (date.0, date.1, date.2, hour, minute, second, whole) refl
