use Rattle.std.proofs.Common.{◌≡◌, ◌<◌, take}
use Rattle.plain_model.specs.Lookups.{greatest_mark}
use Rattle.event_arena.proofs.measure.greatest_mark.Given as goal

abbrev pub invariant-loop-place : goal.invariant-loop-place
invariant-loop-place l = record {
  value : l.greatest ≡ greatest_mark (take l.place l.table);
  range : l.greatest < 4294967296;
}
