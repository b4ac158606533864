use Rattle.std.proofs.Common.{arith, sym}
use Rattle.edit_laws.proofs.Limits.{not_many}
use Rattle.plan_steps.proofs.limits.no_sum.Goals as goal

pub returns : goal.returns
returns c = record { above = sym (not_many c.args.most 0 (omega arith)); left = λ is. omega arith }
