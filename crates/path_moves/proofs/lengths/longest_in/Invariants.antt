use Rattle.std.proofs.Common.{◌≡◌, drop}
use Rattle.path_move_laws.specs.Lengths.{longest_in}
use Rattle.path_moves.proofs.lengths.longest_in.Given as goal

abbrev pub invariant-loop-place : goal.invariant-loop-place
invariant-loop-place l = longest_in l.most (drop l.place l.events.list) ≡ longest_in 0 l.events.list
