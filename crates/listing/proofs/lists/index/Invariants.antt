use Rattle.std.proofs.Common.{◌≡◌, ◌++◌, drop}
use Rattle.listing.specs.Listings.{index_line, lines_of}
use Rattle.listing.proofs.lists.index.Given as goal

abbrev pub invariant-loop-id : goal.invariant-loop-id
invariant-loop-id l =
    l.into ++ lines_of (index_line l.events.list) l.events.list (drop l.id-index l.set)
    ≡ l.fn.into ++ lines_of (index_line l.events.list) l.events.list l.set
