use Rattle.std.proofs.Common.{◌≡◌, ◌++◌, drop, map}
use Rattle.plain_model.specs.Lookups.{id_of}
use Rattle.listing.proofs.finding.all.Given as goal

abbrev pub invariant-loop-place : goal.invariant-loop-place
invariant-loop-place l = l.ids ++ drop l.place (map id_of l.events.list) ≡ map id_of l.events.list
