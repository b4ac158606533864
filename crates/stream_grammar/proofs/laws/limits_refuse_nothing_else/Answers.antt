use Rattle.stream_grammar.proofs.Within.{history, defect, limit, spent}
use Rattle.stream_grammar.proofs.laws.limits_refuse_nothing_else.Goals as goal

pub returns : goal.returns
returns c = record { history = history; defect = defect; limit = limit; spent = spent }
