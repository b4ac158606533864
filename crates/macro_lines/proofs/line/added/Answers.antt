use Rattle.macro_lines.proofs.Keeping.{empty_so, nothing_counts, some_counts_already, some_so}
use Rattle.macro_lines.proofs.line.added.Goals as goal

pub returns-then-is_empty : goal.returns-then-is_empty
returns-then-is_empty c put is =
    rw c.trim_front.ensures (nothing_counts c.args.text.now put c.args.piece.now is (empty_so c.args.text.now c.is_empty.result c.is_empty.ensures c.if-is_empty.true))

pub returns-else-is_empty : goal.returns-else-is_empty
returns-else-is_empty c put is =
    some_counts_already c.args.text.now put c.args.piece.now is (some_so c.args.text.now c.is_empty.result c.is_empty.ensures c.if-is_empty.false)
