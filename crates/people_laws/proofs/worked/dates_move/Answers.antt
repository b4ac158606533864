use Rattle.people_laws.proofs.Rows.{dates_earlier, dates_greatest, dates_last, dates_later, dates_order, dates_range}
use Rattle.people_laws.proofs.worked.dates_move.Goals as goal

pub returns-clause-later : goal.returns-clause-later
returns-clause-later c = dates_later

pub returns-clause-earlier : goal.returns-clause-earlier
returns-clause-earlier c = dates_earlier

pub returns-clause-range : goal.returns-clause-range
returns-clause-range c = dates_range

pub returns-clause-order : goal.returns-clause-order
returns-clause-order c = dates_order

pub returns-clause-greatest : goal.returns-clause-greatest
returns-clause-greatest c = dates_greatest

pub returns-clause-last : goal.returns-clause-last
returns-clause-last c = dates_last
