use Rattle.std.proofs.Common.{◌∙◌, List, add-one, ap, arith, sym}
use Rattle.plain_model.specs.declared.event.PlainEvent.{PlainEvent}
use Rattle.event_arena.proofs.ListLemmas.{take_all}
use Rattle.graft_laws.specs.Faults.{name_fault}
use Rattle.graft_laws.specs.Joining.{new_names}
use Rattle.graft_unite.proofs.NameLemmas.{fault_found, fault_none}
use Rattle.graft_unite.proofs.clashes.name_fault.Goals as goal

pub returns-in-Some : goal.returns-in-Some
returns-in-Some g c =
    sym (fault_found (g.J.Join.joining c.args.how.now) (g.J.Join.clashing c.args.how.now) c.args.part.now.list c.loop-place.place c.nth.result.now c.in-Some.fault
    c.nth.ensures.event c.loop-place.invariant (sym c.in_ok-fault.ensures ∙ c.in-Some.is))

pub loop-place-preserved : goal.loop-place-preserved
loop-place-preserved g c =
    rw add-one (fault_none (g.J.Join.joining c.args.how.now) (g.J.Join.clashing c.args.how.now) c.args.part.now.list c.loop-place.place c.nth.result.now
    c.nth.ensures.event c.loop-place.invariant (sym c.in_ok-fault.ensures ∙ c.in_default.is))

pub returns : goal.returns
returns g c =
    let count = c.count-place-end.ensures.count in
    let end = c.loop-place-test.false in
    sym (ap (λ (l : List PlainEvent). name_fault (g.J.Join.clashing c.args.how.now) (new_names (g.J.Join.joining c.args.how.now) l)) (sym (take_all c.args.part.now.list c.loop-place.place (omega arith)))
    ∙ c.loop-place.invariant)
