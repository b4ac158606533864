use Rattle.std.proofs.Common.{◌∙◌, ap}
use Rattle.plain_model.specs.declared.event.PlainEvent.{PlainEvent}
use Rattle.std.specs.Prelude.{List}
use Rattle.mailbox_lines.proofs.Results.{on_ok}
use Rattle.mailbox_edit.proofs.Given.{field_there, given_kept, given_put}
use Rattle.mailbox_edit.proofs.giving.give.Goals as goal

pub set_signed-requires-clause-field : goal.set_signed-requires-clause-field
set_signed-requires-clause-field c =
    field_there c.args.plan.now.after c.args.id.now c.args.role c.args.who c.args.when c.in_ok-signed.field-0 c.in-Some.signed c.in-Some.is c.requires
    c.in_ok-signed.ensures

pub returns-in-Some : goal.returns-in-Some
returns-in-Some c =
    let plan = c.args.plan.now in
    on_ok c.set_signed.result _ _ (λ put. put ∙ ap (λ (es : List PlainEvent). record plan { after = es })
    (given_put plan.after c.args.id.now c.args.role c.args.who c.args.when c.in_ok-signed.field-0 c.in-Some.signed c.in-Some.is c.in_ok-signed.ensures))
    c.set_signed.ensures.ok

pub returns-in-None : goal.returns-in-None
returns-in-None c =
    given_kept c.args.plan.now c.args.id.now c.args.role c.args.who c.args.when c.in_ok-signed.field-0 c.in-None.is c.in_ok-signed.ensures
