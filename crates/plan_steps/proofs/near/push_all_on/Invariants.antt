use Rattle.std.proofs.Common.{◌≡◌, ◌++◌, take}
use Rattle.std.specs.Prelude.{flat_map}
use Rattle.plan_steps.specs.Near.{on_flagged}
use Rattle.plan_steps.proofs.near.push_all_on.Given as goal

abbrev pub invariant-loop-id : goal.invariant-loop-id
invariant-loop-id l = l.list ≡ l.initial.list ++ flat_map (on_flagged l.flags l.events.list) (take l.id-index l.ids)
