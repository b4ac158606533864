use Rattle.std.proofs.Common.{[], None, zero, refl}
use Rattle.std.specs.Prelude.{map}
use Rattle.plain_model.specs.declared.limit.TheConstants.{MAX_COMMANDS}
use Rattle.plain_model.specs.declared.status.Status.TheVariants as status
use Rattle.history_machine.specs.Machine.{SessionEndsAs}
use Rattle.history_machine.specs.Steps.{line_step}
use Rattle.history_machine.specs.Whole.{run_from, waiting_of}
use Rattle.surgeon_session.specs.Calls.{world}
use Rattle.surgeon_session.proofs.RunningTo.{runs_nowhere}
use Rattle.surgeon_session.proofs.Rounds.{same_later, same_world}
use Rattle.surgeon_session.proofs.SessionRounds.{breaks_here, items_within}
use Rattle.surgeon_session.proofs.session.Session.run.Goals as goal

pub run_lines-requires : goal.run_lines-requires
run_lines-requires g c = rw c.in-Ok.ensures (items_within MAX_COMMANDS c.args.script.now)

pub returns-in-Err-clause-runs : goal.returns-in-Err-clause-runs
returns-in-Err-clause-runs g c =
    let s = g.S.Store.state c.args.store.now in
    let k = g.T.Sink.state c.args.out.now in
    let session = c.args.self.now in (
      [],
      tt,
      record {
        outcome = record {
          prescribed = same_world (λ w now. SessionEndsAs (run_from [] session w.files c.args.script.now c.args.keep_going) status.Memory session w session now) (world s k)
              (λ w. (zero, refl, breaks_here (run_from [] session w.files c.args.script.now c.args.keep_going).effects w));
          caused = tt;
          later = same_later s k;
        };
        exact = λ w none. (w, (zero, refl, breaks_here (run_from [] session w.files c.args.script.now c.args.keep_going).effects w));
        lines = runs_nowhere line_step c.args.keep_going None [] status.Done MAX_COMMANDS [] session (map waiting_of c.args.script.now) status.Memory tt;
      },
    )

pub returns-in-Ok-clause-runs : goal.returns-in-Ok-clause-runs
returns-in-Ok-clause-runs g c = rw c.in-Ok.ensures at c.run_lines.ensures.runs
