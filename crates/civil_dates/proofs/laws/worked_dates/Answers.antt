use Rattle.std.proofs.Common.{refl}
use Rattle.civil_dates.specs.Dates.{civil_day, date_text}
use Rattle.civil_dates.proofs.laws.worked_dates.Goals as goal

pub returns : goal.returns
unfolding civil_day date_text
returns c = record {
  beginning = refl;
  before_a_leap_day = refl;
  leap_day_of_a_century = refl;
  a_day_in_may = refl;
  end_of_february = refl;
  no_leap_day_in_a_century = refl;
}
