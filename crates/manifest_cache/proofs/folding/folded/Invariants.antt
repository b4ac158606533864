use Rattle.std.proofs.Common.{◌≡◌, ◌+◌, ◌-◌, ◌≤◌, Some, length, take}
use Rattle.plain_model.specs.Histories.{folded}
use Rattle.manifest_cache.specs.Listed.{events_of}
use Rattle.manifest_cache.specs.Walks.{ops_back}
use Rattle.manifest_cache.proofs.folding.folded.Given as goal

abbrev pub invariant-loop-after : goal.invariant-loop-after
invariant-loop-after g l = record {
  rest : folded (ops_back (events_of l.listed) l.walk) (Some l.fn.base) ≡ folded (ops_back (events_of l.listed) (take (length l.walk - l.after) l.walk)) (Some l.tree);
  counted : l.steps + length (ops_back (events_of l.listed) (take (length l.walk - l.after) l.walk)) ≤ l.fn.steps + length (ops_back (events_of l.listed) l.walk);
}
