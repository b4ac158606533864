use Rattle.std.proofs.Common.{◌≡◌, ◌++◌, drop}
use Rattle.std.specs.Prelude.{flat_map}
use Rattle.listing.specs.Listings.{tag_line}
use Rattle.listing.proofs.lists.push_tags.Given as goal

abbrev pub invariant-loop-place : goal.invariant-loop-place
invariant-loop-place l =
    l.into ++ flat_map (tag_line l.events.list) (drop l.place l.events.list)
    ≡ l.fn.into ++ flat_map (tag_line l.events.list) l.events.list
