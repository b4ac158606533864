use Rattle.history_machine.specs.Several.{grafted_with}
use Rattle.load_list.proofs.Joining.{join_refused}
use Rattle.load_list.proofs.list.LoadList.graft.Goals as goal

pub returns-in_err-join-clause-changes : goal.returns-in_err-join-clause-changes
returns-in_err-join-clause-changes c = λ macros.
    join_refused (λ part. grafted_with c.args.prune part c.args.ids.now) c.args.name.now c.args.self.now c.in_ok-place.place c.in_ok-place.ensures macros
    c.in_err-join.field-0.0 c.from_residual-in_err-join.result c.join.new.self _ c.from_residual-in_err-join.ensures.1 c.in_err-join.ensures.joins
