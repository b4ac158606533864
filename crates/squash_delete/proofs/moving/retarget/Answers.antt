use Rattle.std.proofs.Common.{◌∙◌, List, ap, subst, sym}
use Rattle.std.specs.Prelude.{IsTrue, is_some}
use Rattle.std.proofs.lemmas.Result.{on_ok_weaker}
use Rattle.plain_model.specs.declared.id.AnyId.{AnyId}
use Rattle.plain_model.specs.declared.event.PlainEvent.{PlainEvent}
use Rattle.plain_model.specs.Lookups.{find_event, id_of, place_of}
use Rattle.event_arena.specs.Changes.{changed, has_target, with_target}
use Rattle.plan_steps.proofs.LeavingLemmas.{changed_nowhere, found_is}
use Rattle.squash_delete.proofs.moving.retarget.Goals as goal

pub set_target-requires-clause-there : goal.set_target-requires-clause-there
set_target-requires-clause-there c =
    let after = c.args.plan.now.after in
    ap (λ (id : AnyId). is_some (find_event id after)) c.id-in-Some.ensures ∙ found_is (id_of c.args.event.now) after
    ∙ ap is_some (ap (λ (id : AnyId). place_of id after) (sym c.id.ensures) ∙ sym c.in-Some.ensures.place)

pub set_target-requires-clause-field : goal.set_target-requires-clause-field
set_target-requires-clause-field c = subst (λ (id : AnyId). IsTrue (has_target id)) (sym c.id-in-Some.ensures) c.requires

pub returns-in-Some : goal.returns-in-Some
returns-in-Some c =
    on_ok_weaker c.set_target.result (λ is. is ∙ ap (λ (id : AnyId). record c.args.plan.now { after = changed id (with_target c.args.target) c.args.plan.now.after }) c.id-in-Some.ensures) c.set_target.ensures.ok

pub returns-in-None : goal.returns-in-None
returns-in-None c =
    ap (λ (es : List PlainEvent). record c.args.plan.now { after = es })
    (sym (changed_nowhere (id_of c.args.event.now) (with_target c.args.target) c.args.plan.now.after (ap (λ id. place_of id c.args.plan.now.after) (sym c.id.ensures) ∙ sym c.in-None.ensures.place)))
