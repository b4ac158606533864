use Rattle.std.proofs.Common.{◌∙◌, ◌+◌, ap}
use Rattle.branch_tips.specs.Entries.{tips_in}
use Rattle.branch_tips.proofs.TipEntries.{put_tips}
use Rattle.listing.specs.Stamping.{counted}
use Rattle.listing.proofs.StampLemmas.{counted_put}
use Rattle.listing.proofs.stamps.StampCounts.add.Goals as goal

pub returns-clause-counts : goal.returns-clause-counts
returns-clause-counts c = λ other.
    let key = c.into_items.result in
    let which = c.count-which.result + 1 in
    let put_in = ap tips_in c.in_ok-insert.ensures.entries ∙ put_tips key which c.self.inside.by_stamp.entries in
    let count = c.count-which.ensures in
    let is = ap (λ n. n + 1) (rw c.as_slice.ensures at count) in
    ap (λ counts. counted counts other) put_in
    ∙ rw (c.into_items.ensures, c.self.view_is) (counted_put c.args.stamp other which c.args.self.now is)
