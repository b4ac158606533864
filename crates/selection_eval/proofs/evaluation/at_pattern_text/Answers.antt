use Rattle.std.proofs.lemmas.Str.{IsUtf8-from_is_utf8}
use Rattle.selection_eval.proofs.evaluation.at_pattern_text.Goals as goal

pub returns-in_ok-no_pattern-in-Err-clause-judged : goal.returns-in_ok-no_pattern-in-Err-clause-judged
returns-in_ok-no_pattern-in-Err-clause-judged g c texts =
    absurd (c.in-Err.ensures.cases.0 (rw c.as_slice.ensures (IsUtf8-from_is_utf8 c.args.pattern.now texts)))
