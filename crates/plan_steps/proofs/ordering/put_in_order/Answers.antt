use Rattle.plan_steps.proofs.Settling.{ends_complete}
use Rattle.plan_steps.proofs.ordering.put_in_order.Goals as goal

pub settle-requires : goal.settle-requires
settle-requires c = ends_complete c.args.plan.now.after c.requires
