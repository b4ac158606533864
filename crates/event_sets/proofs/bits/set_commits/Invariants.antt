use Rattle.std.proofs.Common.{◌≡◌, length, map, take}
use Rattle.plain_model.specs.declared.id.AnyId.TheVariants as any
use Rattle.event_sets.specs.Bits.{Adds}
use Rattle.event_sets.proofs.bits.set_commits.Given as goal

abbrev pub invariant-loop-commit : goal.invariant-loop-commit
invariant-loop-commit l = record {
  count : length l.bits.items ≡ length l.initial.bits.items;
  adds : Adds l.events.list (map any.Commit (take l.commit-index l.commits)) l.initial.bits.items l.bits.items;
}
