use Rattle.std.proofs.Common.{◌∙◌}
use Rattle.plan_steps.proofs.WayLemmas.{back_there, commit_placed}
use Rattle.path_expunge.proofs.fates.back_of.Goals as goal

pub returns : goal.returns
returns c =
    let events = c.args.removal.now.events in
    let set = c.args.removal.now.set in
    let b = commit_placed events c.args.commit c.place.result c.place.ensures.place in
    c.stand_in.ensures b.event b.at b.own
    ∙ back_there set events c.count-count.ensures.sound c.args.commit c.place.result c.args.back.now c.place.ensures.place c.requires.back
