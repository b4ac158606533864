use Rattle.std.proofs.Common.{take}
use Rattle.plain_model.specs.declared.limit.TheConstants.{MAX_ALIASES, MAX_OPERATIONS}
use Rattle.plan_steps.specs.Counts.{IsSum, total_of}
use Rattle.plan_steps.specs.declared.limits.Counted.TheVariants.{Operations, Aliases}
use Rattle.plan_steps.proofs.limits.has_many.Given as goal

abbrev pub invariant-loop-place : goal.invariant-loop-place
invariant-loop-place l = record {
  operations : IsSum MAX_OPERATIONS (total_of Operations (take l.place l.plan.after)) l.operations;
  aliases : IsSum MAX_ALIASES (total_of Aliases (take l.place l.plan.after)) l.aliases;
}
