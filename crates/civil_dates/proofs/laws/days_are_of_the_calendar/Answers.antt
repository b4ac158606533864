use Rattle.civil_dates.proofs.Calendar.{is_day, only_day}
use Rattle.civil_dates.proofs.laws.days_are_of_the_calendar.Goals as goal

pub returns : goal.returns
returns c = record { is_day = is_day; only = only_day }
