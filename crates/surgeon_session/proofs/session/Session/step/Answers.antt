use Rattle.surgeon_session.proofs.Readying.{is_ready, not_ready, not_ready_missed, not_ready_near}
use Rattle.surgeon_session.proofs.session.Session.step.Goals as goal

pub returns-in_err-subject-clause-carries : goal.returns-in_err-subject-clause-carries
returns-in_err-subject-clause-carries g c =
    not_ready (g.P.Patterns.sizes c.args.patterns.now) (g.P.Patterns.sizes c.ready.new.patterns) (g.S.Store.state c.args.store.now) (g.T.Sink.state c.args.out.now) c.args.self.now c.ready.new.self c.args.command.now
    c.in_err-subject.field-0.0 c.from_residual.result c.from_residual.ensures.1 c.in_err-subject.ensures.judged c.ready.ensures.same

pub returns-in_err-subject-clause-near : goal.returns-in_err-subject-clause-near
returns-in_err-subject-clause-near g c =
    not_ready_near (g.P.Patterns.sizes c.args.patterns.now) (g.P.Patterns.sizes c.ready.new.patterns) (g.S.Store.state c.args.store.now).files (g.S.Store.state c.args.store.now).rest c.args.self.now c.args.command.now
    c.in_err-subject.field-0.0 c.from_residual.result c.from_residual.ensures.1 c.in_err-subject.ensures.judged

pub returns-clause-carries : goal.returns-clause-carries
returns-clause-carries g c =
    is_ready (g.P.Patterns.sizes c.args.patterns.now) (g.P.Patterns.sizes c.ready.new.patterns) (g.S.Store.state c.args.store.now) (g.S.Store.state c.carry.new.store) (g.T.Sink.state c.args.out.now) (g.T.Sink.state c.carry.new.out)
    c.args.self.now c.ready.new.self c.carry.new.self c.args.command.now c.in_ok-subject.subject c.carry.result c.in_ok-subject.ensures.judged c.ready.ensures.same c.carry.ensures.carries

pub returns-in_err-subject-clause-missed : goal.returns-in_err-subject-clause-missed
returns-in_err-subject-clause-missed g c =
    not_ready_missed (g.P.Patterns.sizes c.args.patterns.now) (g.P.Patterns.sizes c.ready.new.patterns) (g.S.Store.state c.args.store.now) c.args.self.now c.args.command.now
    c.in_err-subject.field-0.0 c.from_residual.result c.from_residual.ensures.1 c.in_err-subject.ensures.judged
