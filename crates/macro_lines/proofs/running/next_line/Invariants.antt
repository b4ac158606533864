use Rattle.std.proofs.Common.{◌≡◌, ◌-◌, drop, length}
use Rattle.std.specs.Prelude.{IsOk}
use Rattle.macro_lines.specs.Left.{made_lines}
use Rattle.macro_lines.specs.Macros.{expanded}
use Rattle.macro_lines.proofs.running.next_line.Given as goal

abbrev pub invariant-loop-text : goal.invariant-loop-text
invariant-loop-text l = record {
  left : IsOk (expanded l.selection l.words (drop l.next l.body));
  same : made_lines (expanded l.selection l.words (drop l.next l.body)) ≡ made_lines (expanded l.selection l.words (drop l.place l.body));
}

abbrev pub decreases-loop-text : goal.decreases-loop-text
decreases-loop-text l = length l.body - l.next
