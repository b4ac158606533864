use Rattle.byte_patterns.specs.Judging.{pattern_of}
use Rattle.event_sets.specs.declared.set.EventSet.{EventSet}
use Rattle.selection_eval.specs.Denoted.{at_found, known}
use Rattle.byte_patterns.proofs.Judged.{stopped}
use Rattle.selection_eval.proofs.evaluation.at_pattern.Goals as goal

pub returns-in-Err-clause-judged : goal.returns-in-Err-clause-judged
returns-in-Err-clause-judged g c =
    stopped (λ text. text) (λ (set : EventSet). set.ids) _ _ c.in-Err.halt (pattern_of c.args.pattern.now)
    (λ text. known (at_found c.args.whole text c.args.events.now.list)) c.in-Err.ensures.judged
