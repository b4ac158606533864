use Rattle.people_laws.proofs.Refused.{all_lines_right, why_wrong}
use Rattle.people_laws.proofs.laws.the_lowest_line_is_refused.Goals as goal

pub returns-clause-wrong : goal.returns-clause-wrong
returns-clause-wrong c = why_wrong

pub returns-clause-right : goal.returns-clause-right
returns-clause-right c = all_lines_right
