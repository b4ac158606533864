use Rattle.stream_grammar.proofs.Within.{defect_reported, end_reported, limit_reported, history_given}
use Rattle.stream_grammar.proofs.laws.the_first_cause_is_reported.Goals as goal

pub returns : goal.returns
returns c = record { defect = defect_reported; early_end = end_reported; limit = limit_reported; history = history_given }
