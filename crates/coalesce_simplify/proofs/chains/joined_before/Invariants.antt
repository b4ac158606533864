use Rattle.std.specs.Option.{option_map_or}
use Rattle.plan_steps.specs.Depths.{depth}
use Rattle.coalesce_simplify.proofs.Walks.{IsOn}
use Rattle.coalesce_simplify.proofs.chains.joined_before.Given as goal

abbrev pub invariant-loop-at : goal.invariant-loop-at
invariant-loop-at l = IsOn l.going.set l.going.events l.parents l.at l.commits.items

abbrev pub decreases-loop-at : goal.decreases-loop-at
decreases-loop-at l = option_map_or (depth l.going.events) l.at 0
