-- Worked dates, each also as GNU `date -u` tells it.
use Rattle.std.specs.Prelude.{◌≡◌, codes}
use Rattle.civil_dates.specs.Dates.{date_text}

pub record WorkedDates : Type 0 where
  pub beginning : date_text 0 ≡ codes "1970-01-01T00:00:00Z"
  pub before_a_leap_day : date_text 951782399 ≡ codes "2000-02-28T23:59:59Z"
  pub leap_day_of_a_century : date_text 951782400 ≡ codes "2000-02-29T00:00:00Z"
  pub a_day_in_may : date_text 1306281600 ≡ codes "2011-05-25T00:00:00Z"
  pub end_of_february : date_text 4107542399 ≡ codes "2100-02-28T23:59:59Z"
  pub no_leap_day_in_a_century : date_text 4107542400 ≡ codes "2100-03-01T00:00:00Z"
