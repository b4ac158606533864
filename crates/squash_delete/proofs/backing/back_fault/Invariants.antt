use Rattle.std.proofs.Common.{◌≡◌, drop}
use Rattle.squash_laws.specs.Squash.{first_back_fault}
use Rattle.squash_delete.proofs.backing.back_fault.Given as goal

abbrev pub invariant-loop-place : goal.invariant-loop-place
invariant-loop-place l = first_back_fault l.removal.set l.removal.events l.removal.events
    ≡ first_back_fault l.removal.set l.removal.events (drop l.place l.removal.events)
