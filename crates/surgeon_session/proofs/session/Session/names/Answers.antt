use Rattle.std.proofs.Common.{refl}
use Rattle.plain_model.specs.Paths.{Bytes}
use Rattle.surgeon_session.specs.Commands.{no_calls}
use Rattle.surgeon_session.proofs.Halting.{halted_alone, halts_after, returned}
use Rattle.surgeon_session.proofs.Sent.{reports_text, sends_text}
use Rattle.surgeon_session.proofs.session.Session.names.Goals as goal

pub returns-in_err-text : goal.returns-in_err-text
returns-in_err-text g c =
    halted_alone no_calls _ _ c.args.self.now c.args.self.now _ _ c.in_err-text.field-0.0 c.from_residual.result c.from_residual.ensures.1
    (λ files. halts_after c.in_err-text.field-0.0 _ _ (returned (λ (b : Bytes). b) c.in_err-text.field-0.0 _ c.in_err-text.ensures)) refl

pub returns : goal.returns
returns g c =
    sends_text _ _ _ _ c.args.self.now c.args.self.now c.args.to.now c.in_ok-text.text (Unit {0}) _ refl (reports_text c.args.self.now c.args.to.now _ c.in_ok-text.text c.in_ok-text.ensures)
    c.send.result c.send.ensures.never_refused c.send.ensures.outcome
