use Rattle.std.proofs.Common.{◌≡◌, length}
use Rattle.std.specs.List.{list_any}
use Rattle.script_lines.specs.Scripts.{closes, lines_of, trimmed}
use Rattle.script_lines.proofs.script.is_closed.Given as goal

abbrev pub invariant-loop-line : goal.invariant-loop-line
invariant-loop-line l = list_any (λ line. closes (trimmed line)) (lines_of l.rest) ≡ list_any (λ line. closes (trimmed line)) (lines_of l.bytes)

abbrev pub decreases-loop-line : goal.decreases-loop-line
decreases-loop-line l = length l.rest
