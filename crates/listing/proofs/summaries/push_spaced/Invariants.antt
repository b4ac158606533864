use Rattle.std.proofs.Common.{◌≡◌, ◌++◌, codes, decimal, drop}
use Rattle.std.specs.Prelude.{flat_map}
use Rattle.listing.specs.Summaries.{spaced}
use Rattle.listing.proofs.summaries.push_spaced.Given as goal

abbrev pub invariant-loop-number : goal.invariant-loop-number
invariant-loop-number l =
    l.into ++ flat_map (λ m. codes " " ++ decimal m) (drop l.number-index l.rest)
    ≡ l.fn.into ++ spaced l.fn.numbers
