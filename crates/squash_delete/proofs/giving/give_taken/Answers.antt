use Rattle.std.proofs.Common.{◌≡◌, ◌∙◌, ℕ, List, ap, refl, sym, subst}
use Rattle.std.proofs.lemmas.Option.{same_Some}
use Rattle.std.specs.Prelude.{OnOk}
use Rattle.plain_model.specs.declared.id.AnyId.TheVariants as any
use Rattle.plain_model.specs.declared.operation.FileOp.{FileOp}
use Rattle.plain_model.specs.declared.event.PlainEvent.{PlainEvent}
use Rattle.plain_model.specs.declared.event.PlainEvent.TheVariants.{Commit}
use Rattle.plain_model.specs.Lookups.{id_of}
use Rattle.plain_model.specs.Paths.{Bytes}
use Rattle.event_arena.specs.Changes.{changed, with_comment, with_ops, with_parents}
use Rattle.event_arena.specs.Graphs.{Change}
use Rattle.std.proofs.lemmas.Result.{on_ok_weaker}
use Rattle.plan_steps.proofs.Steps.{alike_of, changed_twice, kept_of}
use Rattle.squash_delete.specs.Fates.{given}
use Rattle.squash_delete.specs.declared.fates.Fate.TheVariants.{Taken}
use Rattle.squash_delete.proofs.FateLemmas.{not_taken, parents_id}
use Rattle.squash_delete.proofs.giving.give_taken.Goals as goal

pub returns-in_default : goal.returns-in_default
returns-in_default c event at =
    let plan = c.args.plan.now in
    let e = c.nth.result.now in
    let G : PlainEvent → PlainEvent = given (Taken c.args.parents.now c.args.ops.now c.args.comment.now) in
    subst (λ (x : PlainEvent). plan ≡ record plan { after = changed (id_of x) G plan.after }) (same_Some e event (sym c.nth.ensures.event ∙ at))
    (kept_of plan e e G refl c.nth.ensures.found (not_taken e c.in_default.not-Commit c.args.parents.now c.args.ops.now c.args.comment.now))

pub returns : goal.returns
returns c event at =
    let plan = c.args.plan.now in
    let n = c.nth.result.now in
    let x = c.in-Commit in
    let ps = c.in_ok-parents.parents in
    let os = c.in_ok-ops.ops in
    let text = c.in_ok-comment.comment in
    let e = Commit x.id x.mark x.branch x.author x.committer x.encoding x.comment x.parents x.ops x.aliases in
    let G : PlainEvent → PlainEvent = given (Taken c.args.parents.now c.args.ops.now c.args.comment.now) in
    let F : PlainEvent → PlainEvent = λ y. with_comment text (with_ops os y) in
    subst (λ (y : PlainEvent). OnOk c.give.result (c.give.new.plan ≡ record plan { after = changed (id_of y) G plan.after })) (same_Some n event (sym c.nth.ensures.event ∙ at))
    (on_ok_weaker c.give.result (λ is.
    is ∙ ap (λ (p : Change). record p { after = changed (any.Commit x.id) F p.after }) c.in_ok-give_parents.ensures
    ∙ ap (λ (es : List PlainEvent). record plan { after = es })
    (changed_twice (any.Commit x.id) F (with_parents ps) (parents_id ps) plan.after
    ∙ alike_of plan.after n e (λ y. F (with_parents ps y)) G x.is c.nth.ensures.found
    (ap (λ (l : List ℕ). Commit x.id x.mark x.branch x.author x.committer x.encoding text l os x.aliases) c.in_ok-parents.ensures
    ∙ ap (λ (l : List FileOp). Commit x.id x.mark x.branch x.author x.committer x.encoding text c.args.parents.now l x.aliases) c.in_ok-ops.ensures
    ∙ ap (λ (l : Bytes). Commit x.id x.mark x.branch x.author x.committer x.encoding l c.args.parents.now c.args.ops.now x.aliases) c.in_ok-comment.ensures))) c.give.ensures)
