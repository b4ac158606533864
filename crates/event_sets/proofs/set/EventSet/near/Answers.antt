use Rattle.std.proofs.Common.{◌∙◌, add-one}
use Rattle.event_sets.specs.Sets.{near_once}
use Rattle.event_sets.proofs.set.EventSet.near.Goals as goal

pub loop-preserved : goal.loop-preserved
loop-preserved c =
    rw add-one (record {
      events = c.in_ok-set.ensures.events ∙ c.loop.invariant.events;
      ids = c.in_ok-set.ensures.ids ∙ (λ i. near_once (c.loop.invariant.events i) (c.loop.invariant.ids i));
    })
