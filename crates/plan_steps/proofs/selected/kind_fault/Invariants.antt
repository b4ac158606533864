use Rattle.std.proofs.Common.{◌≡◌, drop}
use Rattle.commit_laws.specs.Selected.{kind_fault}
use Rattle.plan_steps.proofs.selected.kind_fault.Given as goal

abbrev pub invariant-loop-id : goal.invariant-loop-id
invariant-loop-id l = kind_fault l.events.list (drop l.id-index l.set) ≡ kind_fault l.events.list l.set
