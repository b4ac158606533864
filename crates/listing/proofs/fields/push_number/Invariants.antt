use Rattle.std.proofs.Common.{◌≡◌, ◌-◌, ◌++◌}
use Rattle.std.specs.Prelude.{replicate}
use Rattle.listing.proofs.fields.push_number.Given as goal

abbrev pub invariant-loop : goal.invariant-loop
invariant-loop l = l.into ++ replicate (6 - l.counter) 32 ≡ l.fn.into ++ replicate (6 - l.initial.counter) 32
