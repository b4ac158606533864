use Rattle.std.proofs.Common.{◌≡◌, drop}
use Rattle.path_move_laws.specs.Lengths.{longest_after_all}
use Rattle.path_moves.proofs.lengths.longest_after_all.Given as goal

abbrev pub invariant-loop-op : goal.invariant-loop-op
invariant-loop-op l = longest_after_all l.most (drop l.op-index l.ops) ≡ longest_after_all l.longest l.ops
