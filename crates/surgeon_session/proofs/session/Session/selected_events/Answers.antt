use Rattle.load_list.proofs.Speaking.{events_refused}
use Rattle.surgeon_session.proofs.session.Session.selected_events.Goals as goal

pub returns-in_err-ids-clause-judged : goal.returns-in_err-ids-clause-judged
returns-in_err-ids-clause-judged g c =
    rw (← c.self.view_is)
    (events_refused (g.P.Patterns.sizes c.args.patterns.now) (g.P.Patterns.sizes c.denoted.new.patterns) c.self.inside.list c.self.inside.macros c.in_err-ids.field-0.0
    c.from_residual.result c.from_residual.ensures.1 c.args.selection.now c.in_err-ids.ensures.judged)
