use Rattle.std.proofs.Common.{◌∙◌, ap}
use Rattle.std.specs.Prelude.{unwrap_or}
use Rattle.branch_tips.proofs.TipEntries.{at_tips}
use Rattle.listing.proofs.stamps.StampCounts.count.Goals as goal

pub returns : goal.returns
returns c =
    let there = c.copied.ensures ∙ c.get.ensures.value ∙ at_tips c.args.stamp.now c.self.inside.by_stamp.entries in
    rw (← c.self.view_is) (c.unwrap_or.ensures ∙ ap (λ o. unwrap_or o 0) there)
