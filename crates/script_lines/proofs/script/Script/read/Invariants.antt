use Rattle.std.proofs.Common.{◌≡◌, ◌+◌, ◌≤◌, length}
use Rattle.script_lines.specs.Scripts.{before, lines_of, script_from}
use Rattle.script_lines.specs.declared.script.Place.TheVariants.{Outside}
use Rattle.script_lines.proofs.script.Script.read.Given as goal

abbrev pub invariant-loop-text : goal.invariant-loop-text
invariant-loop-text l = record {
  same : before l.items (script_from l.line l.place (lines_of l.rest)) ≡ script_from 1 Outside (lines_of l.bytes);
  counted : l.line + length l.rest ≤ length l.bytes + 1;
}

abbrev pub decreases-loop-text : goal.decreases-loop-text
decreases-loop-text l = length l.rest
