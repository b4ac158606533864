use Rattle.plan_steps.proofs.ordering.put_near_in_order.Goals as goal

pub returns-then-are_near_settled-clause-settled : goal.returns-then-are_near_settled-clause-settled
returns-then-are_near_settled-clause-settled c =
    c.settling_orders.ensures.stays c.args.plan.now.after (c.requires.others (c.are_near_settled.ensures c.if-are_near_settled.true))
