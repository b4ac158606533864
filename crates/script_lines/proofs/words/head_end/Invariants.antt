use Rattle.std.proofs.Common.{◌≡◌, ◌++◌, take, drop}
use Rattle.script_lines.specs.Words.{head_of, after_head}
use Rattle.script_lines.proofs.words.head_end.Given as goal

abbrev pub invariant-loop-i : goal.invariant-loop-i
invariant-loop-i l = record {
  head : take l.i l.bytes ++ head_of (drop l.i l.bytes) ≡ head_of l.bytes;
  rest : after_head (drop l.i l.bytes) ≡ after_head l.bytes;
}
