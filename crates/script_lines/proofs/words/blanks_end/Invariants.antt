use Rattle.std.proofs.Common.{◌≡◌, ◌-◌, ◌<◌, drop, get_or}
use Rattle.script_lines.specs.Words.{without_blanks, words_of}
use Rattle.script_lines.proofs.words.blanks_end.Given as goal

abbrev pub invariant-loop-i : goal.invariant-loop-i
invariant-loop-i l = record {
  front : without_blanks (drop l.i l.bytes) ≡ without_blanks l.bytes;
  same : words_of (drop l.i l.bytes) ≡ words_of l.bytes;
  ascii : 0 < l.i → get_or l.bytes (l.i - 1) 0 < 128;
}
