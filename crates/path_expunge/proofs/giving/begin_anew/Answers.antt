use Rattle.std.proofs.Common.{◌≡◌, ◌∙◌, ℕ, List, ap, refl, sym, subst}
use Rattle.std.proofs.lemmas.Option.{same_Some}
use Rattle.std.specs.Prelude.{◌∷◌, IsSome, OnOk, is_some}
use Rattle.std.proofs.lemmas.Result.{on_ok_weaker}
use Rattle.plain_model.specs.declared.id.AnyId.TheVariants as any
use Rattle.plain_model.specs.declared.operation.FileOp.{FileOp}
use Rattle.plain_model.specs.declared.operation.FileOp.TheVariants.{DeleteAll}
use Rattle.plain_model.specs.declared.event.PlainEvent.{PlainEvent}
use Rattle.plain_model.specs.declared.event.PlainEvent.TheVariants.{Commit}
use Rattle.plain_model.specs.Lookups.{find_event, id_of}
use Rattle.event_arena.specs.declared.field.Field.TheVariants as field
use Rattle.event_arena.specs.Changes.{changed, with_ops, with_parents}
use Rattle.event_arena.specs.Graphs.{Change}
use Rattle.event_arena.proofs.ChangeLemmas.{id_with_field}
use Rattle.plan_steps.proofs.Steps.{changed_there, changed_twice}
use Rattle.path_expunge.specs.Fates.{begun_anew}
use Rattle.path_expunge.proofs.FateLemmas.{not_anew}
use Rattle.plan_steps.proofs.Steps.{alike_of, kept_of}
use Rattle.path_expunge.proofs.giving.begin_anew.Goals as goal

pub returns-in_default : goal.returns-in_default
returns-in_default c event at =
    let plan = c.args.plan.now in
    let e = c.nth.result.now in
    let ps = c.args.parents.now in
    subst (λ (x : PlainEvent). plan ≡ record plan { after = changed (id_of x) (λ y. begun_anew (with_parents ps y)) plan.after }) (same_Some e event (sym c.nth.ensures.event ∙ at))
    (kept_of plan e e (λ y. begun_anew (with_parents ps y)) refl c.nth.ensures.found (not_anew e c.in_default.not-Commit ps))

pub set_ops-requires : goal.set_ops-requires
set_ops-requires c =
    let plan = c.args.plan.now in
    let id = any.Commit c.in-Commit.id in
    let found = subst (λ (x : PlainEvent). IsSome (find_event (id_of x) plan.after)) c.in-Commit.is (ap is_some c.nth.ensures.found) in
    subst (λ (es : List PlainEvent). IsSome (find_event id es)) (sym (ap (λ (p : Change). p.after) c.in_ok-set_parents.ensures.ok))
    (changed_there id (with_parents c.in_ok-copy.field-0) (id_with_field (field.Parents c.in_ok-copy.field-0)) plan.after found)

pub returns : goal.returns
returns c event at =
    let plan = c.args.plan.now in
    let n = c.nth.result.now in
    let ps = c.args.parents.now in
    let x = c.in-Commit in
    let e = Commit x.id x.mark x.branch x.author x.committer x.encoding x.comment x.parents x.ops x.aliases in
    let G : PlainEvent → PlainEvent = λ y. begun_anew (with_parents ps y) in
    let ops : c.in_ok-made.made ≡ DeleteAll ∷ x.ops = c.in_ok-made.ensures ∙ ap (λ (l : List FileOp). DeleteAll ∷ l) c.as_slice.ensures in
    subst (λ (y : PlainEvent). OnOk c.set_ops.result (c.set_ops.new.self ≡ record plan { after = changed (id_of y) G plan.after })) (same_Some n event (sym c.nth.ensures.event ∙ at))
    (on_ok_weaker c.set_ops.result (λ is.
    is ∙ ap (λ (p : Change). record p { after = changed (any.Commit x.id) (with_ops c.in_ok-made.made) p.after }) c.in_ok-set_parents.ensures.ok
    ∙ ap (λ (es : List PlainEvent). record plan { after = es })
    (changed_twice (any.Commit x.id) (with_ops c.in_ok-made.made) (with_parents c.in_ok-copy.field-0) (id_with_field (field.Parents c.in_ok-copy.field-0)) plan.after
    ∙ alike_of plan.after n e (λ y. with_ops c.in_ok-made.made (with_parents c.in_ok-copy.field-0 y)) G x.is c.nth.ensures.found
    (ap (λ (l : List FileOp). Commit x.id x.mark x.branch x.author x.committer x.encoding x.comment c.in_ok-copy.field-0 l x.aliases) ops
    ∙ ap (λ (l : List ℕ). Commit x.id x.mark x.branch x.author x.committer x.encoding x.comment l (DeleteAll ∷ x.ops) x.aliases) c.in_ok-copy.ensures))) c.set_ops.ensures.ok)
