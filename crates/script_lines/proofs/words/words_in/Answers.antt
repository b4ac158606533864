use Rattle.std.proofs.Common.{sym, ◌∙◌, true-eqb}
use Rattle.std.proofs.lemmas.List.{nil_from_length}
use Rattle.script_lines.proofs.WordSteps.{all_taken}
use Rattle.script_lines.proofs.words.words_in.Goals as goal

pub returns : goal.returns
returns c =
    let rest = c.loop-rest.rest.now in
    sym (all_taken c.loop-rest.words rest (nil_from_length rest (true-eqb _ 0 c.loop-rest-test.ensures))) ∙ c.loop-rest.invariant.same
