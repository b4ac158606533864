use Rattle.production_laws.proofs.Meant.{spelled_history_is_read, history_has_parts}
use Rattle.production_laws.proofs.laws.a_history_is_what_the_lines_mean.Goals as goal

pub returns-clause-read : goal.returns-clause-read
returns-clause-read c = spelled_history_is_read

pub returns-clause-spelled : goal.returns-clause-spelled
returns-clause-spelled c = history_has_parts
