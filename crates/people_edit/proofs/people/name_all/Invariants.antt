use Rattle.std.proofs.Common.{◌≡◌}
use Rattle.people_laws.specs.Authors.{authored}
use Rattle.people_edit.specs.Tables.{said_for}
use Rattle.plan_steps.proofs.Steps.{so_far}
use Rattle.people_edit.proofs.people.name_all.Given as goal

abbrev pub invariant-loop-place : goal.invariant-loop-place
invariant-loop-place l = l.plan ≡ record l.initial.plan { after = so_far (authored (said_for l.table)) l.place l.events.list }
