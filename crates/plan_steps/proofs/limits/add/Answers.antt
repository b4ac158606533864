use Rattle.plan_steps.proofs.Counting.{sum_above, sum_more, sum_passed}
use Rattle.plan_steps.proofs.limits.add.Goals as goal
use Rattle.plan_steps.proofs.limits.add.Goals.{then-sum-via-then-sum, then-sum-via-else-sum+then-sum-more}

pub returns-then-sum : goal.returns-then-sum
returns-then-sum c most counted h = elim c.then-sum.branch [
  | then-sum-via-then-sum w ↦ sum_above most counted c.args.more c.args.sum h w.if-sum.true
  | then-sum-via-else-sum+then-sum-more w ↦ sum_passed most counted c.args.more c.args.sum h w.if-sum.false w.if-sum-more.true
]

pub returns : goal.returns
returns c most counted h = sum_more most counted c.args.more c.args.sum h c.if-sum.false c.if-sum-more.false
