use Rattle.std.proofs.Common.{◌≡◌, drop}
use Rattle.tagify_laws.specs.Tagify.{taken_name}
use Rattle.empty_commits.proofs.names.taken_name.Given as goal

abbrev pub invariant-loop-place : goal.invariant-loop-place
invariant-loop-place l =
    taken_name l.empties.set l.empties.events l.empties.events ≡ taken_name l.empties.set l.empties.events (drop l.place l.empties.events)
