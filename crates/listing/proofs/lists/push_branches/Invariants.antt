use Rattle.std.proofs.Common.{◌≡◌, ◌++◌, drop}
use Rattle.listing.specs.Listings.{branch_lines}
use Rattle.listing.proofs.lists.push_branches.Given as goal

abbrev pub invariant-loop-branch : goal.invariant-loop-branch
invariant-loop-branch l =
    l.into ++ branch_lines l.events.list (drop l.branch-index l.tips)
    ≡ l.fn.into ++ branch_lines l.events.list l.tips
