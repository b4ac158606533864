use Rattle.std.proofs.Common.{◌≡◌, ◌-◌, ◌<◌, drop, get_or}
use Rattle.script_lines.specs.Scripts.{without_front}
use Rattle.script_lines.proofs.trimming.front_end.Given as goal

abbrev pub invariant-loop-i : goal.invariant-loop-i
invariant-loop-i l = record {
  same : without_front (drop l.i l.bytes) ≡ without_front l.bytes;
  ascii : 0 < l.i → get_or l.bytes (l.i - 1) 0 < 128;
}
