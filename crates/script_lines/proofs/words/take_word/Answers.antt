use Rattle.std.proofs.Common.{None, lit<, arith, false-eqb}
use Rattle.std.proofs.lemmas.Str.Pattern.{strip_prefix_char}
use Rattle.script_lines.proofs.WordSteps.{plain_from}
use Rattle.script_lines.proofs.words.take_word.Goals as goal

pub take_plain-requires : goal.take_plain-requires
take_plain-requires c =
    let word = c.skip_blanks-word.result.now in
    plain_from word (c.skip_blanks-word.ensures.at_word (omega (arith, false-eqb _ 0 c.if-is_empty.ensures)))
    (strip_prefix_char 34 word None c.in-None.ensures.cases (lit< tt))
