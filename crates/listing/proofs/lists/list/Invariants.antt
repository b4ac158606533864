use Rattle.std.proofs.Common.{◌≡◌, ◌++◌, drop}
use Rattle.listing.specs.Listings.{lines_of, list_line}
use Rattle.listing.proofs.lists.list.Given as goal

abbrev pub invariant-loop-id : goal.invariant-loop-id
invariant-loop-id l =
    l.into ++ lines_of list_line l.events.list (drop l.id-index l.set)
    ≡ l.fn.into ++ lines_of list_line l.events.list l.set
