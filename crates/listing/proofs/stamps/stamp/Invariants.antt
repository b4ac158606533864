use Rattle.std.proofs.Common.{◌≡◌, ◌++◌, drop}
use Rattle.listing.specs.Listings.{lines_of}
use Rattle.listing.specs.Stamps.{stamp_line}
use Rattle.listing.proofs.stamps.stamp.Given as goal

abbrev pub invariant-loop-id : goal.invariant-loop-id
invariant-loop-id l =
    l.into ++ lines_of (stamp_line l.events.list) l.events.list (drop l.id-index l.set)
    ≡ l.fn.into ++ lines_of (stamp_line l.events.list) l.events.list l.set
