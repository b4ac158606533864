use Rattle.std.proofs.Common.{◌≡◌, ◌∙◌, List, Result, Ok, Err, sym, ap, subst}
use Rattle.plain_model.specs.declared.event.PlainEvent.{PlainEvent}
use Rattle.plain_model.specs.declared.fault.Fault.{Fault}
use Rattle.plain_model.specs.Histories.{IsLinkedPast, past}
use Rattle.edit_laws.specs.Checking.{tree_check}
use Rattle.edit_laws.proofs.Trees.{linked_in_order}
use Rattle.event_arena.specs.Graphs.{Change}
use Rattle.event_arena.proofs.Plans.{leaves_sound}
use Rattle.simplify_laws.specs.Simplify.{simplified}
use Rattle.simplify_laws.proofs.Simplified.{once, order}
use Rattle.coalesce_simplify.proofs.simplifying.simplify.Goals as goal

pub check-requires-clause-earlier : goal.check-requires-clause-earlier
check-requires-clause-earlier c =
    let events = c.args.events.now.list in
    let set = c.args.set.now in
    let sound = c.count-count.ensures.sound in
    subst (λ (es : List PlainEvent). IsLinkedPast (past es)) (ap (λ (p : Change). p.after) (sym c.in_ok-plan.ensures))
    (linked_in_order (simplified set events) (once set events sound) (order set events sound))

pub returns-in-Ok-clause-plans : goal.returns-in-Ok-clause-plans
returns-in-Ok-clause-plans c =
    let events = c.args.events.now.list in
    let set = c.args.set.now in
    let left = simplified set events in
    let after : c.in_ok-plan.plan.after ≡ left = ap (λ (p : Change). p.after) c.in_ok-plan.ensures in
    let check = ap tree_check (sym after) ∙ c.in-Ok.ensures.checked in
    let done = ap (λ (r : Result (Unit {0}) Fault). elim r as (λ x. Result (List PlainEvent) Fault) [ Ok y ↦ Ok left | Err why ↦ Err why ]) check ∙ ap Ok (sym after) in
    (done, leaves_sound c.args.events.now left c.in_ok-plan.plan c.in_ok-plan.ensures (c.simplifying_keeps_soundness.ensures set events c.in_ok-plan.plan.after c.count-count.ensures.sound done))
