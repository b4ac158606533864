use Rattle.std.proofs.Common.{◌≡◌, ◌-◌, ◌≤◌, None, drop, length}
use Rattle.selection_eval.specs.Days.{at_last_sign}
use Rattle.selection_eval.proofs.days.last_sign.Given as goal

abbrev pub invariant-loop-after : goal.invariant-loop-after
invariant-loop-after l = at_last_sign (drop (length l.text - l.after) l.text) ≡ None
