use Rattle.load_list.proofs.Speaking.{paths_refused}
use Rattle.surgeon_session.proofs.session.Session.said_paths.Goals as goal

pub returns-in_err-matchers-clause-judged : goal.returns-in_err-matchers-clause-judged
returns-in_err-matchers-clause-judged g c =
    rw (← c.self.view_is)
    (paths_refused (g.P.Patterns.sizes c.args.patterns.now) (g.P.Patterns.sizes c.matchers_of.new.patterns) c.self.inside.list c.self.inside.macros c.in_err-matchers.field-0.0
    c.from_residual-in_err-matchers.result c.from_residual-in_err-matchers.ensures.1 _ c.args.words.now c.in_ok-chosen.ensures c.in_err-matchers.ensures.judged)
