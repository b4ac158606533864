use Rattle.std.proofs.Common.{◌≡◌, ℕ, length, None}
use Rattle.std.specs.Prelude.{slice_index_or}
use Rattle.path_moves.proofs.kept.Kept.new.Given as goal

abbrev pub invariant-loop-place : goal.invariant-loop-place
invariant-loop-place l = record {
  count : length l.pairs.items ≡ l.place;
  none : (j : ℕ) → slice_index_or l.pairs.items j None ≡ None;
  due : length l.due.items ≡ length l.events.list;
}
