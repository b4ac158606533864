use Rattle.std.proofs.Common.{◌≡◌, drop}
use Rattle.macro_lines.specs.Macros.{looked_for}
use Rattle.macro_lines.proofs.running.look_for_words.Given as goal

abbrev pub invariant-loop-text : goal.invariant-loop-text
invariant-loop-text l = looked_for l.words (drop l.text-index l.body) ≡ looked_for l.words l.body
