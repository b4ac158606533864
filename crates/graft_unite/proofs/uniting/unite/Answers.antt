use Rattle.std.proofs.Common.{◌∙◌, ℕ, List, ap, get_or, subst, sym, Result, Ok, Err}
use Rattle.plain_model.specs.declared.event.PlainEvent.{PlainEvent}
use Rattle.plain_model.specs.declared.fault.Fault.{Fault}
use Rattle.plain_model.specs.Faults.{Returns}
use Rattle.event_arena.specs.Graphs.{Change}
use Rattle.graft_unite.specs.declared.uniting.United.{United}
use Rattle.graft_unite.proofs.OrderLemmas.{good_parts, oldest_first, too_few, united_at}
use Rattle.graft_unite.proofs.UniteLemmas.{refused_too}
use Rattle.graft_unite.proofs.uniting.unite.Goals as goal

pub returns-then-parts-lt2-clause-returns : goal.returns-then-parts-lt2-clause-returns
returns-then-parts-lt2-clause-returns c = too_few c.args.parts.now c.args.prune c.if-parts-lt2.true

pub carry_out-requires-clause-sound : goal.carry_out-requires-clause-sound
carry_out-requires-clause-sound c =
    let parts = c.args.parts.now in
    let is = united_at c.args.prune parts c.as_slice-places.result.now c.if-parts-lt2.false (c.as_slice-places.ensures.value ∙ c.in_ok-order.ensures.places)
    c.index-parts-base.result c.in_ok-events.events.list c.index-parts-base.is (c.in_ok-events.ensures.list ∙ c.events.ensures) in
    c.a_unite_keeps_soundness.ensures c.args.prune parts c.in-Ok.plan.after (good_parts parts c.in_ok-order.ensures.sound c.requires.names) (is ∙ c.in-Ok.ensures.united)

pub returns-in-Ok-clause-returns : goal.returns-in-Ok-clause-returns
returns-in-Ok-clause-returns c =
    let is = united_at c.args.prune c.args.parts.now c.as_slice-places.result.now c.if-parts-lt2.false (c.as_slice-places.ensures.value ∙ c.in_ok-order.ensures.places)
    c.index-parts-base.result c.in_ok-events.events.list c.index-parts-base.is (c.in_ok-events.ensures.list ∙ c.events.ensures) in
    is ∙ c.in-Ok.ensures.united ∙ ap Ok (sym c.carry_out.ensures.list)

pub returns-in-Ok-clause-base : goal.returns-in-Ok-clause-base
returns-in-Ok-clause-base c =
    ap (λ (places : List ℕ). get_or places 0 0) (c.as_slice-places.ensures.value ∙ c.in_ok-order.ensures.places) ∙ oldest_first c.args.parts.now

pub returns-clause-returns : goal.returns-clause-returns
returns-clause-returns c =
    let parts = c.args.parts.now in
    let is = united_at c.args.prune parts c.as_slice-places.result.now c.if-parts-lt2.false (c.as_slice-places.ensures.value ∙ c.in_ok-order.ensures.places)
    c.index-parts-base.result c.in_ok-events.events.list c.index-parts-base.is (c.in_ok-events.ensures.list ∙ c.events.ensures) in
    refused_too (λ (plan : Change). plan.after) (λ (united : United). united.events.list) c.in-Err.halt _
    (subst (λ (answer : Result (List PlainEvent) Fault). Returns (λ (plan : Change). plan.after) (Err c.in-Err.halt) answer) (sym is) c.in-Err.ensures.united)
