use Rattle.std.proofs.Common.{◌≡◌, ◌∙◌, ◌∷◌, [], false, cond, ap, sym}
use Rattle.std.proofs.lemmas.Option.{same_Some}
use Rattle.plain_model.specs.declared.id.AnyId.{AnyId}
use Rattle.plain_model.specs.declared.id.AnyId.TheVariants as any
use Rattle.plain_model.specs.Lookups.{id_of}
use Rattle.edit_laws.specs.Sweeping.{is_left_over}
use Rattle.plan_steps.proofs.SweepLemmas.{over_blob, over_named, over_unnamed}
use Rattle.plan_steps.proofs.sweeping.over_at.Goals as goal
use Rattle.plan_steps.proofs.sweeping.over_at.Goals.{then-not-before-place-via-then-not-before-place, then-not-before-place-via-else-not-before-place+then-after-place}

pub returns-then-not-before-place : goal.returns-then-not-before-place
returns-then-not-before-place c e at =
    let old = c.args.plan.now.before in
    let new = c.args.plan.now.after in
    let none : is_left_over old new e ≡ false = elim c.then-not-before-place.branch [
      | then-not-before-place-via-then-not-before-place w ↦ over_unnamed old new c.args.before.now c.args.after.now c.requires.before c.requires.after c.args.place e at w.if-not-before-place.true
      | then-not-before-place-via-else-not-before-place+then-after-place w ↦ over_named old new c.args.before.now c.args.after.now c.requires.before c.requires.after c.args.place e at w.if-after-place.true
    ] in
    sym (ap (λ x. cond x (id_of e ∷ []) []) none)

pub returns-in-Blob : goal.returns-in-Blob
returns-in-Blob c e at =
    let own : any.Blob c.in-Blob.id ≡ id_of e =
    ap id_of (sym c.in-Blob.is ∙ same_Some c.nth.result.now e (sym c.nth.ensures.event ∙ at)) in
    let over = over_blob c.args.plan.now.before c.args.plan.now.after c.args.before.now c.args.after.now c.requires.before c.requires.after c.args.place c.in-Blob.id e at own c.if-not-before-place.false c.if-after-place.false in
    ap (λ (id : AnyId). id ∷ []) own ∙ sym (ap (λ x. cond x (id_of e ∷ []) []) over)
