use Rattle.std.proofs.Common.{◌≡◌, ◌++◌, drop}
use Rattle.listing.specs.Summaries.{numbers_of}
use Rattle.listing.proofs.summaries.numbers_of.Given as goal

abbrev pub invariant-loop-id : goal.invariant-loop-id
invariant-loop-id l = l.numbers ++ numbers_of l.events.list (drop l.id-index l.set) ≡ numbers_of l.events.list l.set
