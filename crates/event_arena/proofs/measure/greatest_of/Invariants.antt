use Rattle.std.proofs.Common.{◌≡◌, ◌<◌, take}
use Rattle.plain_model.specs.Lookups.{greatest_of}
use Rattle.event_arena.proofs.measure.greatest_of.Given as goal

abbrev pub invariant-loop-mark : goal.invariant-loop-mark
invariant-loop-mark l = record {
  value : l.greatest ≡ greatest_of l.fn.first (take l.mark-index l.marks);
  range : l.greatest < 4294967296;
}
