use Rattle.std.proofs.Common.{None, Ok, refl, ap, sym}
use Rattle.plain_model.specs.declared.fault.Halt.TheVariants as halt
use Rattle.history_machine.specs.Sessions.{repos_text}
use Rattle.surgeon_session.specs.Commands.{no_calls}
use Rattle.surgeon_session.proofs.Halting.{halted_alone}
use Rattle.surgeon_session.proofs.Sent.{reports_text, sends_text}
use Rattle.surgeon_session.proofs.session.Session.show_repositories.Goals as goal

pub returns : goal.returns
returns g c =
    sends_text _ _ _ _ c.args.self.now c.args.self.now None c.in_ok-text.text (Unit {0}) _ refl (reports_text c.args.self.now None (Ok (repos_text c.args.self.now)) c.in_ok-text.text (ap Ok (sym c.in_ok-text.ensures)))
    c.send.result c.send.ensures.never_refused c.send.ensures.outcome

pub returns-in_err-text : goal.returns-in_err-text
returns-in_err-text g c =
    halted_alone no_calls _ _ c.args.self.now c.args.self.now _ _ halt.Memory c.from_residual.result c.from_residual.ensures.1 (λ files. tt) refl
