use Rattle.std.proofs.Common.{◌≡◌, ◌∙◌, [], List, length, ap, eqb-true, sym}
use Rattle.plain_model.specs.declared.id.AnyId.{AnyId}
use Rattle.plain_model.specs.declared.event.PlainEvent.{PlainEvent}
use Rattle.event_arena.specs.Changes.{without_all}
use Rattle.plan_steps.proofs.SweepLemmas.{nil_of, without_none}
use Rattle.plan_steps.proofs.sweeping.take_away.Goals as goal

pub returns-then-is_empty-clause-ok : goal.returns-then-is_empty-clause-ok
returns-then-is_empty-clause-ok c =
    let p = c.args.plan.now in
    let none : c.args.ids.now ≡ [] = sym c.as_slice.ensures ∙ nil_of c.as_slice.result.now (eqb-true (length c.as_slice.result.now) 0 (sym c.is_empty.ensures ∙ c.if-is_empty.true)) in
    ap (λ (es : List PlainEvent). record p { after = es }) (sym (ap (λ (ids : List AnyId). without_all ids p.after) none ∙ without_none p.after))
