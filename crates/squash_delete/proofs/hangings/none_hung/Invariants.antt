use Rattle.std.proofs.Common.{◌≡◌, [], replicate}
use Rattle.squash_delete.proofs.hangings.none_hung.Given as goal

abbrev pub invariant-loop-place : goal.invariant-loop-place
invariant-loop-place l = l.rows.items ≡ replicate l._place []
