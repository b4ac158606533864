use Rattle.std.proofs.Common.{refl}
use Rattle.event_fields.specs.declared.field.Field.TheVariants as field
use Rattle.people_laws.specs.Values.{with_text}
use Rattle.plan_steps.proofs.Steps.{kept_of}
use Rattle.people_edit.proofs.Unvalued.{no_comment}
use Rattle.people_edit.proofs.values.comment.Goals as goal

pub returns-in_default : goal.returns-in_default
returns-in_default c =
    let e = c.args.event.now in
    let value = c.args.text.now in
    kept_of c.args.plan.now e e (with_text field.Comment value) refl c.requires (no_comment value e c.in_default.not-Commit c.in_default.not-Tag)
