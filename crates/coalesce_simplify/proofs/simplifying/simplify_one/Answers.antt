use Rattle.std.proofs.Common.{◌≡◌, ◌∙◌, List, Option, refl, sym, ap, subst}
use Rattle.std.specs.Prelude.{MatchOption}
use Rattle.std.proofs.lemmas.Result.{on_ok_weaker}
use Rattle.plain_model.specs.declared.operation.FileOp.{FileOp}
use Rattle.plain_model.specs.declared.event.PlainEvent.{PlainEvent}
use Rattle.plain_model.specs.declared.event.PlainEvent.TheVariants.{Commit}
use Rattle.plain_model.specs.declared.id.AnyId.TheVariants as any
use Rattle.event_arena.specs.Changes.{changed, with_ops}
use Rattle.simplify_laws.specs.Simplify.{simpler}
use Rattle.plan_steps.proofs.WayLemmas.{no_id}
use Rattle.coalesce_simplify.specs.Voiding.{simple_event}
use Rattle.plan_steps.proofs.Steps.{alike_of, kept_of}
use Rattle.coalesce_simplify.proofs.Voided.{no_commit}
use Rattle.coalesce_simplify.proofs.simplifying.simplify_one.Goals as goal

pub returns-in_default : goal.returns-in_default
returns-in_default c =
    let e = c.args.event.now in
    kept_of c.args.plan.now e e simple_event refl c.requires (no_commit e (no_id e c.in_default.not-Commit))

pub returns-in-Some : goal.returns-in-Some
returns-in-Some c =
    let plan = c.args.plan.now in
    let v = c.in-Commit in
    let e = Commit v.id v.mark v.branch v.author v.committer v.encoding v.comment v.parents v.ops v.aliases in
    let ops = c.as_slice.result.now in
    let Found : Option (List FileOp) → Type 0 = λ o. MatchOption o (simpler ops ≡ ops) (λ l. l ≡ simpler ops) in
    let left : c.in-Some.left ≡ simpler v.ops = subst Found c.in-Some.is c.in_ok-found.ensures ∙ ap simpler c.as_slice.ensures in
    on_ok_weaker c.set_ops.result (λ is.
    is ∙ ap (λ (es : List PlainEvent). record plan { after = es })
    (ap (λ (ops : List FileOp). changed (any.Commit v.id) (with_ops ops) plan.after) left
    ∙ alike_of plan.after c.args.event.now e (with_ops (simpler v.ops)) simple_event v.is c.requires refl)) c.set_ops.ensures.ok

pub returns-in-None : goal.returns-in-None
returns-in-None c =
    let v = c.in-Commit in
    let e = Commit v.id v.mark v.branch v.author v.committer v.encoding v.comment v.parents v.ops v.aliases in
    let ops = c.as_slice.result.now in
    let Found : Option (List FileOp) → Type 0 = λ o. MatchOption o (simpler ops ≡ ops) (λ l. l ≡ simpler ops) in
    let same : simpler v.ops ≡ v.ops = sym (ap simpler c.as_slice.ensures) ∙ subst Found c.in-None.is c.in_ok-found.ensures ∙ c.as_slice.ensures in
    kept_of c.args.plan.now c.args.event.now e simple_event v.is c.requires
    (ap (λ (ops : List FileOp). Commit v.id v.mark v.branch v.author v.committer v.encoding v.comment v.parents ops v.aliases) same)
