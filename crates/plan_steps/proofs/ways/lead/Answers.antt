use Rattle.std.proofs.Common.{add-one, take, arith}
use Rattle.history_laws.proofs.SoundOnce.{sound_once}
use Rattle.event_arena.proofs.ListLemmas.{take_more}
use Rattle.plan_steps.proofs.WayLemmas.{led_more}
use Rattle.plan_steps.proofs.ways.lead.Goals as goal

pub loop-commit-preserved : goal.loop-commit-preserved
loop-commit-preserved c =
    let events = c.args.removal.now.events in
    let once = (sound_once events c.count-count.ensures.sound).ids in
    let more = take_more c.args.commits.now c.loop-commit.commit-index c.commit-item.result c.loop-commit-test.true c.commit-item.is in
    rw (add-one, more) (led_more events (take c.loop-commit.commit-index c.args.commits.now) c.commit-item.result c.place.result c.args.way.now c.args.ways.now c.loop-commit.ways once c.place.ensures.place
    (let count = c.requires.count in let within = c.place.ensures.within in omega arith) c.loop-commit.invariant)
