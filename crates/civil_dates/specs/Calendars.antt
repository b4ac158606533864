-- The days that are counted off are those of the calendar of `jiff`. (The Gregorian calendar, reckoned on without an end.)
use Rattle.std.specs.Prelude.{◌≡◌, ℕ, ◌≤◌, pos}
use Rattle.jiff_core.specs.Calendar.{IsCivilDate, days_from_civil}
use Rattle.civil_dates.specs.Dates.{Date, civil_day}

-- the calendar has the date, and it comes so many days after 1 January 1970
pub record IsDay (days : ℕ) (date : Date) : Type 0 where
  pub civil : IsCivilDate (pos date.year) date.month date.day
  pub number : days_from_civil (pos date.year) date.month date.day ≡ pos days

-- the date that is counted off is the one of its day, up to the end of 9999
pub record AreOfTheCalendar : Type 0 where
  pub is_day : (days : ℕ) → days ≤ 2_932_896 → IsDay days (civil_day days)
  pub only : (days : ℕ) (date : Date) → days ≤ 2_932_896 → IsDay days date → date ≡ civil_day days
