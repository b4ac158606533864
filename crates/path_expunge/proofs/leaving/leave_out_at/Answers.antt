use Rattle.std.proofs.Common.{◌≡◌, ◌∙◌, List, Option, None, Some, refl, sym, ap, subst, filter, not}
use Rattle.std.specs.Prelude.{IsSome, slice_get}
use Rattle.std.proofs.lemmas.Option.{same_Some}
use Rattle.std.proofs.lemmas.Result.{on_ok_weaker}
use Rattle.plain_model.specs.declared.operation.FileOp.{FileOp}
use Rattle.plain_model.specs.declared.event.PlainEvent.{PlainEvent}
use Rattle.plain_model.specs.Lookups.{commit_id, event_ops, find_event}
use Rattle.event_arena.specs.Changes.{changed, with_ops}
use Rattle.expunge_laws.specs.Apart.{event_without}
use Rattle.path_expunge.specs.Apart.{takes}
use Rattle.path_expunge.proofs.LeavingLemmas.{with_rest, without_ops}
use Rattle.plan_steps.proofs.Steps.{alike_of, kept_of}
use Rattle.plan_steps.proofs.WayLemmas.{own_commit}
use Rattle.path_expunge.proofs.leaving.leave_out_at.Goals as goal

pub returns-in_default : goal.returns-in_default
returns-in_default c event at =
    let test = takes c.args.named.now in
    let x = c.commit_at.ensures in
    let here = ap (λ (es : List PlainEvent). slice_get es c.args.place) (sym c.table.ensures.table) ∙ x.1 in
    let none : commit_id event ≡ None = ap commit_id (same_Some event x.0 (sym at ∙ here)) ∙ sym x.2 ∙ c.in_default.is in
    kept_of c.args.plan.now event event (event_without test) refl (c.requires.found event at) (without_ops test event none)

pub returns : goal.returns
returns c event at =
    let test = takes c.args.named.now in
    let plan = c.args.plan.now in
    let x = c.commit_at.ensures in
    let y = c.ops_at.ensures in
    let id_here = ap (λ (es : List PlainEvent). slice_get es c.args.place) (sym c.table.ensures.table) ∙ x.1 in
    let here = ap (λ (es : List PlainEvent). slice_get es c.args.place) (sym c.table-2.ensures.table) ∙ y.1 in
    let own : commit_id event ≡ Some c.in-Some.id = ap commit_id (same_Some event x.0 (sym at ∙ id_here)) ∙ sym x.2 ∙ c.in-Some.is in
    let ops : c.ops_at.result.now ≡ event_ops event = y.2 ∙ ap event_ops (same_Some y.0 event (sym here ∙ at)) in
    let left : c.in_ok-left.left ≡ filter (λ op. not (test op)) (event_ops event) = c.in_ok-left.ensures ∙ ap (filter (λ op. not (test op))) ops in
    on_ok_weaker c.set_ops.result (λ is.
    is ∙ ap (λ (es : List PlainEvent). record plan { after = es })
    (ap (λ i. changed i (with_ops c.in_ok-left.left) plan.after) (own_commit c.in-Some.id event own)
    ∙ alike_of plan.after event event (with_ops c.in_ok-left.left) (event_without test) refl (c.requires.found event at)
    (ap (λ (l : List FileOp). with_ops l event) left ∙ with_rest test event))) c.set_ops.ensures.ok

pub set_ops-requires : goal.set_ops-requires
set_ops-requires c =
    let x = c.commit_at.ensures in
    let here = ap (λ (es : List PlainEvent). slice_get es c.args.place) (sym c.table.ensures.table) ∙ x.1 in
    let found = ap (λ i. find_event i c.args.plan.now.after) (own_commit c.in-Some.id x.0 (sym x.2 ∙ c.in-Some.is)) ∙ c.requires.found x.0 here in
    subst (λ (o : Option PlainEvent). IsSome o) (sym found) refl
