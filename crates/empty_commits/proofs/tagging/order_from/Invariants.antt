use Rattle.std.proofs.Common.{◌≡◌, ◌+◌, map, take}
use Rattle.plain_model.specs.Lookups.{id_of}
use Rattle.tagify_laws.specs.InPlace.{in_place}
use Rattle.empty_commits.proofs.TaggingLemmas.{count}
use Rattle.empty_commits.proofs.tagging.order_from.Given as goal

abbrev pub invariant-loop-place : goal.invariant-loop-place
invariant-loop-place l = record {
  ids : l.ids ≡ map id_of (in_place l.empties.set l.empties.events l.next (take l.place l.empties.events));
  number : l.number ≡ l.next + count l.empties.set l.empties.events (take l.place l.empties.events);
}
