use Rattle.std.proofs.Common.{arith}
use Rattle.std.proofs.lemmas.Bool.Decides.{nat_tests}
use Rattle.plan_steps.proofs.Counting.{aliases_weight, ops_weight}
use Rattle.plan_steps.proofs.limits.is_light.Goals as goal

pub returns-in-Some-clause-operations : goal.returns-in-Some-clause-operations
returns-in-Some-clause-operations c is =
    let counted = ops_weight c.args.plan.now.after in
    let weighed = c.in-Some.ensures in
    let least = c.min.ensures in
    grind (arith, nat_tests)

pub returns-in-Some-clause-aliases : goal.returns-in-Some-clause-aliases
returns-in-Some-clause-aliases c is =
    let counted = aliases_weight c.args.plan.now.after in
    let weighed = c.in-Some.ensures in
    let least = c.min.ensures in
    grind (arith, nat_tests)
