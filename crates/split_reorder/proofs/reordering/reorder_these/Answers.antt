use Rattle.std.proofs.Common.{◌≡◌, ◌∙◌, List, None, sym, ap, subst}
use Rattle.plain_model.specs.declared.event.PlainEvent.{PlainEvent}
use Rattle.plain_model.specs.Soundness.{IsSound}
use Rattle.edit_laws.specs.Parts.{AreComplete}
use Rattle.edit_laws.specs.Settling.{settle}
use Rattle.event_arena.specs.declared.plan.Plan.{Plan}
use Rattle.event_arena.specs.Graphs.{Change}
use Rattle.graph_walk.specs.Outcome.{IsCauseOf}
use Rattle.reorder_laws.specs.Reorder.{line_fault, reorder_these}
use Rattle.split_reorder.proofs.Arranged.{its, its_complete, settle_fault, settled_linked}
use Rattle.split_reorder.proofs.reordering.reorder_these.Goals as goal

pub settle-requires : goal.settle-requires
settle-requires c =
    let events = c.args.places.now.events in
    let set = c.args.places.now.set in
    let first = c.in-Some.first.now in
    let rest = c.in-Some.rest.now in
    let head = c.in-Some-split_first.head.now in
    let tail = c.in-Some-split_first.tail.now in
    let sound = subst IsSound c.requires.before c.old_count-count.ensures.sound in
    let listed_is = sym c.requires.listed ∙ c.in-Some.ensures.cases.0 in
    let chosen_is = sym c.requires.chosen ∙ c.in-Some-split_first.ensures.cases.0 in
    let line : line_fault events first rest ≡ None = ap (λ (es : List PlainEvent). line_fault es first rest) (sym c.events.ensures) ∙ sym c.line_fault.ensures ∙ c.in_default-line_fault.is in
    let after : c.arrange.new.plan.after ≡ its set events sound c.requires.selection first rest head tail listed_is chosen_is line = ap (λ (p : Change). p.after) c.in_ok-arrange.ensures in
    subst AreComplete (sym after) (its_complete set events sound c.requires.selection first rest head tail listed_is chosen_is line)

pub returns-in-Err-clause-answer : goal.returns-in-Err-clause-answer
returns-in-Err-clause-answer c =
    let events = c.args.places.now.events in
    let set = c.args.places.now.set in
    let first = c.in-Some.first.now in
    let rest = c.in-Some.rest.now in
    let head = c.in-Some-split_first.head.now in
    let tail = c.in-Some-split_first.tail.now in
    let sound = subst IsSound c.requires.before c.old_count-count.ensures.sound in
    let listed_is = sym c.requires.listed ∙ c.in-Some.ensures.cases.0 in
    let chosen_is = sym c.requires.chosen ∙ c.in-Some-split_first.ensures.cases.0 in
    let line : line_fault events first rest ≡ None = ap (λ (es : List PlainEvent). line_fault es first rest) (sym c.events.ensures) ∙ sym c.line_fault.ensures ∙ c.in_default-line_fault.is in
    let after : c.arrange.new.plan.after ≡ its set events sound c.requires.selection first rest head tail listed_is chosen_is line = ap (λ (p : Change). p.after) c.in_ok-arrange.ensures in
    settle_fault set events sound c.requires.selection first rest head tail listed_is chosen_is line (λ (plan : Plan). plan.after) (reorder_these set events c.args.line.now c.args.wanted.now) c.in-Err.halt
    (subst (λ (es : List PlainEvent). IsCauseOf es c.in-Err.halt) after c.in-Err.ensures.cause)

pub check-requires-clause-earlier : goal.check-requires-clause-earlier
check-requires-clause-earlier c =
    let events = c.args.places.now.events in
    let set = c.args.places.now.set in
    let first = c.in-Some.first.now in
    let rest = c.in-Some.rest.now in
    let head = c.in-Some-split_first.head.now in
    let tail = c.in-Some-split_first.tail.now in
    let sound = subst IsSound c.requires.before c.old_count-count.ensures.sound in
    let listed_is = sym c.requires.listed ∙ c.in-Some.ensures.cases.0 in
    let chosen_is = sym c.requires.chosen ∙ c.in-Some-split_first.ensures.cases.0 in
    let line : line_fault events first rest ≡ None = ap (λ (es : List PlainEvent). line_fault es first rest) (sym c.events.ensures) ∙ sym c.line_fault.ensures ∙ c.in_default-line_fault.is in
    let after : c.arrange.new.plan.after ≡ its set events sound c.requires.selection first rest head tail listed_is chosen_is line = ap (λ (p : Change). p.after) c.in_ok-arrange.ensures in
    settled_linked set events sound c.requires.selection first rest head tail listed_is chosen_is line c.settle.new.plan.after (ap settle (sym after) ∙ c.in_default-settle.ensures.settled)
