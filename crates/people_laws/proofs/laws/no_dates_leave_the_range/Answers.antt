use Rattle.people_laws.proofs.Refused.{all_move, why_stuck}
use Rattle.people_laws.proofs.laws.no_dates_leave_the_range.Goals as goal

pub returns-clause-stuck : goal.returns-clause-stuck
returns-clause-stuck c = λ seconds zone set events why. why_stuck seconds zone events set why

pub returns-clause-free : goal.returns-clause-free
returns-clause-free c = λ seconds zone set events new. all_move seconds zone events set new
