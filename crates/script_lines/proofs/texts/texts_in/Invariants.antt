use Rattle.std.proofs.Common.{◌≡◌, drop}
use Rattle.script_lines.specs.Texts.{texts_in}
use Rattle.script_lines.proofs.TextSteps.{after_texts}
use Rattle.script_lines.proofs.texts.texts_in.Given as goal

abbrev pub invariant-loop-i : goal.invariant-loop-i
invariant-loop-i l = after_texts l.texts (texts_in (drop l.i l.words)) ≡ texts_in l.words
