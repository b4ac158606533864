use Rattle.std.proofs.Common.{◌∙◌, ◌∷◌, [], add-one, refl, subst, sym, take}
use Rattle.event_arena.proofs.ListLemmas.{take_all, take_more}
use Rattle.event_sets.specs.Bits.{Adds}
use Rattle.event_sets.specs.Sets.{Ids}
use Rattle.event_sets.proofs.BitLemmas.{adds_more, adds_none}
use Rattle.event_sets.proofs.bits.set_bits.Goals as goal

pub loop-id-init : goal.loop-id-init
loop-id-init c = record { count = refl; adds = adds_none c.args.events.now.list c.args.bits.now.items }

pub loop-id-preserved : goal.loop-id-preserved
loop-id-preserved c =
    let es = c.args.events.now.list in
    let k = c.loop-id.id-index in
    rw add-one (record {
      count = c.set_bit.ensures.count ∙ c.loop-id.invariant.count;
      adds = subst (λ (ids : Ids). Adds es ids c.args.bits.now.items c.set_bit.new.bits.items)
          (sym (take_more c.args.ids.now k c.id-item.result c.loop-id-test.true c.id-item.is))
          (adds_more es (take k c.args.ids.now) (c.id-item.result ∷ []) c.args.bits.now.items c.loop-id.bits.items
          c.set_bit.new.bits.items c.loop-id.invariant.adds c.set_bit.ensures.adds);
    })

pub returns-clause-adds : goal.returns-clause-adds
returns-clause-adds c =
    subst (λ (ids : Ids). Adds c.args.events.now.list ids c.args.bits.now.items c.loop-id.bits.items)
    (take_all c.args.ids.now c.loop-id.id-index c.loop-id-test.false) c.loop-id.invariant.adds
