use Rattle.std.proofs.Common.{List, add-one, ap, arith, subst}
use Rattle.std.specs.List.{list_any}
use Rattle.std.specs.Prelude.{bytes_eq}
use Rattle.plain_model.specs.declared.event.PlainEvent.{PlainEvent}
use Rattle.event_arena.proofs.ListLemmas.{take_all}
use Rattle.graft_unite.specs.Used.{AreNamesOf}
use Rattle.graft_unite.proofs.NameLemmas.{noted_more}
use Rattle.graft_unite.proofs.used.Names.of.Goals as goal

pub loop-place-init : goal.loop-place-init
loop-place-init c name = ap (list_any (bytes_eq name)) c.new-names.ensures

pub loop-place-preserved : goal.loop-place-preserved
loop-place-preserved c =
    rw add-one (noted_more c.args.events.now.list c.loop-place.place c.nth.result.now c.loop-place.names c.note.new.self c.nth.ensures.event c.loop-place.invariant c.in_ok-note.ensures)

pub returns : goal.returns
returns c =
    let count = c.count-place-end.ensures.count in
    let end = c.loop-place-test.false in
    subst (λ (l : List PlainEvent). AreNamesOf l c.loop-place.names) (take_all c.args.events.now.list c.loop-place.place (omega arith)) c.loop-place.invariant
