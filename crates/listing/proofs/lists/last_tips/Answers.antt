use Rattle.std.proofs.Common.{◌∙◌, sym, arith, rules}
use Rattle.listing.proofs.Lines.{all_noted, noted_at}
use Rattle.listing.proofs.lists.last_tips.Goals as goal

pub loop-place-preserved : goal.loop-place-preserved
loop-place-preserved c =
    noted_at c.args.events.now.list c.loop-place.place c.nth.result.now c.loop-place.tips c.note.new.self c.nth.ensures.event c.in_ok-note.ensures.ok
    ∙ c.loop-place.invariant

pub returns : goal.returns
returns c =
    let all = sym (all_noted c.args.events.now.list c.loop-place.place c.loop-place.tips (omega arith)) ∙ c.loop-place.invariant in
    search (rules, all)
