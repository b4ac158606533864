use Rattle.std.proofs.Common.{◌≡◌, ◌++◌, drop}
use Rattle.simplify_laws.specs.Simplify.{simpler}
use Rattle.coalesce_simplify.proofs.voiding.unflagged.Given as goal

abbrev pub invariant-loop-place : goal.invariant-loop-place
invariant-loop-place l = l.left ++ simpler (drop l.place l.ops) ≡ simpler l.ops
