use Rattle.std.proofs.Common.{◌∙◌, ap}
use Rattle.history_laws.proofs.SoundOnce.{sound_once}
use Rattle.event_sets.specs.Bits.{picks}
use Rattle.event_sets.proofs.BitLemmas.{picks_live, picks_passing, picks_tied}
use Rattle.event_sets.proofs.set.EventSet.of_bits.Goals as goal

pub invariant_of-result : goal.invariant_of-result
invariant_of-result c =
    let es = c.args.events.now.list in
    record {
      tied = picks_tied c.args.bits.items es (sound_once es c.count-count.ensures.sound).ids c.requires;
      live = picks_live c.args.bits.items es;
    }

pub returns-clause-passing : goal.returns-clause-passing
returns-clause-passing c =
    λ test is. ap (λ bits. picks bits c.args.events.now.list) is ∙ picks_passing test c.args.events.now.list
