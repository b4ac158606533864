use Rattle.std.proofs.Common.{◌∙◌, length, ap}
use Rattle.std.specs.Prelude.{option_and_then}
use Rattle.history_laws.proofs.SoundOnce.{sound_once}
use Rattle.squash_laws.specs.Takings.{back_of}
use Rattle.plan_steps.proofs.NodeLemmas.{earlier_there}
use Rattle.plan_steps.proofs.WayLemmas.{is_early}
use Rattle.plan_steps.proofs.ways.back_of.Goals as goal

pub place-requires : goal.place-requires
place-requires c =
    earlier_there c.args.removal.now.events c.count-count.ensures.sound (length c.args.ways.now) c.args.commit c.requires.earlier

pub way_at-requires : goal.way_at-requires
way_at-requires c =
    let events = c.args.removal.now.events in
    let once = (sound_once events c.count-count.ensures.sound).ids in
    (is_early events (length c.args.ways.now) c.args.commit c.place.result once c.requires.earlier c.place.ensures.place).low

pub returns : goal.returns
returns c =
    let events = c.args.removal.now.events in
    let once = (sound_once events c.count-count.ensures.sound).ids in
    let b = is_early events (length c.args.ways.now) c.args.commit c.place.result once c.requires.earlier c.place.ensures.place in
    c.way_at.ensures ∙ c.requires.ways.entry c.place.result b.event b.at b.low
    ∙ ap (option_and_then (back_of c.args.removal.now.set events)) b.own
