use Rattle.std.proofs.Common.{◌∙◌, ap, sym, true}
use Rattle.std.proofs.Math.ListN.{set}
use Rattle.history_laws.proofs.Ids.{placeless}
use Rattle.event_arena.proofs.ChangeLemmas.{listed_more, listed_skip}
use Rattle.history_laws.proofs.SoundOnce.{sound_once}
use Rattle.event_sets.proofs.bits.set_bit.Goals as goal

pub returns-in-Some-clause-adds : goal.returns-in-Some-clause-adds
returns-in-Some-clause-adds c = λ before is.
    ap (λ bits. set bits c.in-Some.place true) is
    ∙ listed_more c.args.events.now.list before c.args.id c.in-Some.place
    (sound_once c.args.events.now.list c.count-count.ensures.sound).ids (sym c.in-Some.ensures.place)

pub returns-in_default-clause-adds : goal.returns-in_default-clause-adds
returns-in_default-clause-adds c = λ before is.
    is ∙ listed_skip c.args.events.now.list before c.args.id
    (placeless c.args.events.now.list c.args.id (sym c.in_default.ensures.place))
