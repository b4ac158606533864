use Rattle.std.proofs.Common.{◌≡◌, ◌++◌, drop, filter, not}
use Rattle.path_expunge.specs.Apart.{takes}
use Rattle.path_expunge.proofs.leaving.ops_left.Given as goal

abbrev pub invariant-loop-op : goal.invariant-loop-op
invariant-loop-op l = l.left ++ filter (λ op. not (takes l.named op)) (drop l.op-index l.ops) ≡ filter (λ op. not (takes l.named op)) l.ops
