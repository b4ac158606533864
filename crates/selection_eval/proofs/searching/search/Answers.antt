use Rattle.byte_patterns.specs.Judging.{pattern_of}
use Rattle.event_sets.specs.declared.set.EventSet.{EventSet}
use Rattle.event_sets.specs.Sets.{passing}
use Rattle.selection_eval.specs.Denoted.{known}
use Rattle.selection_eval.specs.Fields.{has_found}
use Rattle.byte_patterns.proofs.Judged.{stopped}
use Rattle.selection_eval.proofs.searching.search.Goals as goal

pub returns-in-Err-clause-judged : goal.returns-in-Err-clause-judged
returns-in-Err-clause-judged g c =
    stopped (λ text. text) (λ (set : EventSet). set.ids) _ _ c.in-Err.halt (pattern_of c.args.pattern.now)
    (λ text. known (passing (has_found text c.args.fields) c.args.events.now.list)) c.in-Err.ensures.judged
