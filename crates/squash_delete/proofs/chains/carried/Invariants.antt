use Rattle.std.specs.Option.{option_map_or}
use Rattle.plan_steps.specs.Depths.{depth}
use Rattle.squash_delete.proofs.ChainLemmas.{IsOnTheWay}
use Rattle.squash_delete.proofs.chains.carried.Given as goal

abbrev pub invariant-loop-at : goal.invariant-loop-at
invariant-loop-at l = IsOnTheWay l.removal.set l.removal.events l.parents l.at l.commits.items

abbrev pub decreases-loop-at : goal.decreases-loop-at
decreases-loop-at l = option_map_or (depth l.removal.events) l.at 0
