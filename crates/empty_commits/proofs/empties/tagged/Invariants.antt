use Rattle.std.proofs.Common.{◌≡◌, filter, map, take}
use Rattle.plain_model.specs.Lookups.{id_of}
use Rattle.tagify_laws.specs.Tagify.{becomes_tag}
use Rattle.empty_commits.proofs.empties.tagged.Given as goal

abbrev pub invariant-loop-place : goal.invariant-loop-place
invariant-loop-place l = l.ids ≡ map id_of (filter (becomes_tag l.selection.set) (take l.place l.selection.events))
