use Rattle.std.proofs.Common.{[]}
use Rattle.history_machine.specs.Sessions.{empty_session}
use Rattle.history_machine.specs.Whole.{run_from}
use Rattle.plain_model.specs.declared.status.Status.TheVariants as status
use Rattle.surgeon_session.specs.Calls.{world}
use Rattle.surgeon_session.proofs.Rounds.{mapped, same_later}
use Rattle.surgeon_cli.proofs.Prints.{not_begun_worlds, session_aside}
use Rattle.surgeon_cli.proofs.top.run_script.Goals as goal

pub returns-in-Err-clause-outcome : goal.returns-in-Err-clause-outcome
returns-in-Err-clause-outcome g c =
    let s = g.S.Store.state c.args.store.now in
    let k = g.T.Sink.state c.args.out.now in (
      [],
      tt,
      record {
        prescribed = not_begun_worlds (λ w. run_from [] empty_session w.files c.args.script.now c.args.keep_going) status.Memory (world s k) tt;
        caused = tt;
        later = same_later s k;
      },
    )

pub returns-in-Ok-clause-outcome : goal.returns-in-Ok-clause-outcome
returns-in-Ok-clause-outcome g c =
    let s = g.S.Store.state in
    let k = g.T.Sink.state in
    let ran = c.run-status.ensures.runs in
    rw (← c.in-Ok.ensures) (
      ran.0,
      ran.1,
      record {
        prescribed = mapped (world (s c.args.store.now) (k c.args.out.now)) (world (s c.run-status.new.store) (k c.run-status.new.out))
            (λ w now h. session_aside (run_from ran.0 c.in-Ok.session w.files c.args.script.now c.args.keep_going) c.run-status.result c.in-Ok.session c.run-status.new.self w now h) ran.2.outcome.prescribed;
        caused = ran.2.outcome.caused;
        later = ran.2.outcome.later;
      },
    )
