use Rattle.std.proofs.Common.{sym, subst, take, add-one}
use Rattle.event_arena.specs.Relinked.{HasPlaces}
use Rattle.event_arena.proofs.ListLemmas.{take_all, take_more}
use Rattle.event_arena.proofs.RelinkLemmas.{no_places, places_more}
use Rattle.event_arena.proofs.relinking.push_places.Goals as goal

pub loop-id-init : goal.loop-id-init
loop-id-init c = record { old = λ k h. h; new = no_places c.args.table.now c.args.places.now.items }

pub loop-id-preserved : goal.loop-id-preserved
loop-id-preserved c =
    let v = c.loop-id.invariant in
    let e = c.push_place.ensures in
    rw add-one (record {
      old = λ k h. e.old k (v.old k h);
      new = subst (λ ids. HasPlaces ids c.args.table.now c.push_place.new.places.items) (sym (take_more c.args.ids.now c.loop-id.id-index c.id-item.result c.loop-id-test.true c.id-item.is))
          (places_more (take c.loop-id.id-index c.args.ids.now) c.id-item.result c.args.table.now c.loop-id.places.items c.push_place.new.places.items v.new e.old (e.new c.if-not-push_place.false));
    })

pub returns-clause-new : goal.returns-clause-new
returns-clause-new c = λ it. subst (λ ids. HasPlaces ids c.args.table.now c.loop-id.places.items) (take_all c.args.ids.now c.loop-id.id-index c.loop-id-test.false) c.loop-id.invariant.new
