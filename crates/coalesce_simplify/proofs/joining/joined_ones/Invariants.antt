use Rattle.std.proofs.Common.{◌≡◌, filter, map, take}
use Rattle.plain_model.specs.Lookups.{id_of}
use Rattle.coalesce_simplify.proofs.Joins.{passes}
use Rattle.coalesce_simplify.proofs.joining.joined_ones.Given as goal

abbrev pub invariant-loop-place : goal.invariant-loop-place
invariant-loop-place l = l.ids ≡ map id_of (filter (passes l.seconds l.chosen.set l.chosen.events) (take l.place l.chosen.events))
