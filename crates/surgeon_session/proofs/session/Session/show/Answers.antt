use Rattle.std.proofs.Common.{ap}
use Rattle.plain_model.specs.Paths.{Bytes}
use Rattle.history_machine.specs.Sessions.{chosen, shown}
use Rattle.surgeon_session.specs.Commands.{no_calls}
use Rattle.load_list.specs.Lists.{LoadList, session_of, text_in}
use Rattle.surgeon_session.proofs.Halting.{halted_alone, halts_after, returned}
use Rattle.surgeon_session.proofs.Sent.{reports_text, sends_text}
use Rattle.surgeon_session.proofs.session.Session.show.Goals as goal

pub returns-in_err-text : goal.returns-in_err-text
unfolding chosen
returns-in_err-text g c =
    let old = c.self.inside.list in
    let new = c.shown.new.self in
    let macros = c.self.inside.macros in
    let why = c.in_err-text.field-0.0 in
    let text = text_in (shown c.args.what c.args.ids.now) old in
    rw (← c.self.view_is)
    (halted_alone no_calls _ _ (session_of old macros) (session_of new macros) _ _ why c.from_residual.result c.from_residual.ensures.1
    (λ files. halts_after why text _ (returned (λ (b : Bytes). b) why text c.in_err-text.ensures.text)) (ap (λ (list : LoadList). session_of list macros) c.shown.ensures.same))

pub returns : goal.returns
unfolding chosen
returns g c =
    let old = c.self.inside.list in
    let new = c.shown.new.self in
    let macros = c.self.inside.macros in
    rw (← c.self.view_is)
    (sends_text _ _ _ _ (session_of old macros) (session_of new macros) c.args.to.now c.in_ok-text.text (Unit {0}) _ (ap (λ (list : LoadList). session_of list macros) c.shown.ensures.same)
    (reports_text (session_of old macros) c.args.to.now (text_in (shown c.args.what c.args.ids.now) old) c.in_ok-text.text c.in_ok-text.ensures.text) c.send.result c.send.ensures.never_refused c.send.ensures.outcome)
