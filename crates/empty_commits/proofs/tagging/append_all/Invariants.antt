use Rattle.std.proofs.Common.{◌≡◌, take}
use Rattle.empty_commits.proofs.TaggingLemmas.{behind}
use Rattle.empty_commits.proofs.tagging.append_all.Given as goal

abbrev pub invariant-loop-place : goal.invariant-loop-place
invariant-loop-place l = l.plan ≡ behind l.empties.set l.empties.events l.initial.plan (take l.place l.empties.events)
