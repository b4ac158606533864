use Rattle.std.proofs.Common.{◌≡◌, filter, map, take}
use Rattle.plain_model.specs.Lookups.{id_of}
use Rattle.edit_laws.specs.Sweeping.{is_left_over}
use Rattle.plan_steps.proofs.sweeping.left_over.Given as goal

abbrev pub invariant-loop-place : goal.invariant-loop-place
invariant-loop-place l = l.ids ≡ map id_of (filter (is_left_over l.plan.before l.plan.after) (take l.place l.plan.after))
