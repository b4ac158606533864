use Rattle.std.proofs.Common.{◌∙◌, sym, arith}
use Rattle.listing.specs.Listings.{tag_line}
use Rattle.listing.proofs.Lines.{none_to_come, to_come}
use Rattle.listing.proofs.lists.push_tags.Goals as goal

pub loop-place-preserved : goal.loop-place-preserved
loop-place-preserved c =
    let list = c.args.events.now.list in
    let at = c.nth.ensures.event in
    let put = c.in_ok-push_tag_name.ensures in
    to_come (tag_line list) list c.loop-place.place c.nth.result.now c.loop-place.into c.push_tag_name.new.into at put
    ∙ c.loop-place.invariant

pub returns : goal.returns
returns c =
    let list = c.args.events.now.list in
    sym (none_to_come (tag_line list) list c.loop-place.place c.loop-place.into (omega arith)) ∙ c.loop-place.invariant
