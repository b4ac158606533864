use Rattle.std.proofs.Common.{subst, sym}
use Rattle.history_laws.proofs.SoundOnce.{sound_once}
use Rattle.squash_delete.specs.Chains.{Notes}
use Rattle.plan_steps.proofs.NodeLemmas.{earlier_there}
use Rattle.plan_steps.proofs.WayLemmas.{is_early}
use Rattle.squash_delete.proofs.chains.link_of.Goals as goal

pub place-requires : goal.place-requires
place-requires c =
    earlier_there c.args.removal.now.events c.count-count.ensures.sound c.args.table.now.count c.args.commit c.requires.earlier

pub returns : goal.returns
returns c =
    let events = c.args.removal.now.events in
    let b = is_early events c.args.table.now.count c.args.commit c.place.result (sound_once events c.count-count.ensures.sound).ids c.requires.earlier c.place.ensures.place in
    subst (Notes c.args.removal.now.set events c.args.commit) (sym c.at.ensures) (c.requires.table c.place.result b.event b.at b.low c.args.commit b.own)
