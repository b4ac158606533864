use Rattle.std.proofs.Common.{Ok}
use Rattle.byte_patterns.specs.Judging.{pattern_of, plainly}
use Rattle.byte_patterns.proofs.Judged.{stopped}
use Rattle.expunge_laws.specs.Matching.{Matches}
use Rattle.expunge_laws.specs.Matching.Matches.{found}
use Rattle.path_expunge.proofs.matcher.Matcher.pattern.Goals as goal

pub returns-in-Err-clause-judged : goal.returns-in-Err-clause-judged
returns-in-Err-clause-judged g c =
    stopped (λ text. text) (λ (m : Matches). m) _ _ c.in-Err.halt (pattern_of c.args.text.now) (λ read. plainly (Ok (found read))) c.in-Err.ensures.judged
