use Rattle.std.proofs.Common.{◌≡◌, ◌<◌, ◌≤◌, take, get_or, length}
use Rattle.script_lines.specs.Scripts.{without_back}
use Rattle.script_lines.proofs.trimming.back_start.Given as goal

abbrev pub invariant-loop-end : goal.invariant-loop-end
invariant-loop-end l = record {
  within : l.end ≤ length l.bytes;
  same : without_back (take l.end l.bytes) ≡ without_back l.bytes;
  ascii : l.end < length l.bytes → get_or l.bytes l.end 0 < 128;
}

abbrev pub decreases-loop-end : goal.decreases-loop-end
decreases-loop-end l = l.end
