use Rattle.script_lines.proofs.WordSteps.{taken, plain_first, shorter}
use Rattle.script_lines.proofs.words.take_plain.Goals as goal

pub returns-clause-words : goal.returns-clause-words
returns-clause-words c =
    let parts = c.cut_head.ensures in
    taken c.args.words.now c.push.new.self _ _ _ c.in_ok-push.ensures.ok
    (rw (c.in_ok-of.ensures, parts.head, parts.rest) (plain_first c.args.text.now c.requires))

pub returns-clause-shorter : goal.returns-clause-shorter
returns-clause-shorter c = rw c.cut_head.ensures.rest (shorter c.args.text.now c.requires)
