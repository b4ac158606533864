use Rattle.std.proofs.Common.{◌≡◌, ◌+◌, drop}
use Rattle.split_laws.specs.Split.{first_touch}
use Rattle.split_reorder.proofs.touching.first_touch.Given as goal

abbrev pub invariant-loop-place : goal.invariant-loop-place
invariant-loop-place l = first_touch l.path (l.place + 1) (drop l.place l.ops) ≡ first_touch l.path 1 l.ops
