use Rattle.std.proofs.Common.{◌≤◌}
use Rattle.path_expunge.specs.declared.fates.Fate.TheVariants.{Same}
use Rattle.path_expunge.specs.Fates.{FateIs}
use Rattle.plan_steps.specs.Near.{NoneNear}
use Rattle.plan_steps.specs.Tables.{IsTableTo}
use Rattle.path_expunge.proofs.fates.fates.Given as goal

abbrev pub invariant-loop-place : goal.invariant-loop-place
invariant-loop-place l = record {
  later : l.place ≤ l.near;
  apart : NoneNear l.removal.set l.removal.events l.place l.near;
  table : IsTableTo Same (FateIs l.removal.set l.removal.events) l.removal.events l.place l.table.items;
}
