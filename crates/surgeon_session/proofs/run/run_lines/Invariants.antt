use Rattle.std.specs.Prelude.{◌≤◌, ◌++◌, IfSome, List, Option}
use Rattle.plain_model.specs.declared.limit.TheConstants.{MAX_COMMANDS}
use Rattle.plain_model.specs.declared.status.Status.{Status}
use Rattle.plain_model.specs.declared.status.Status.TheVariants as status
use Rattle.byte_patterns.specs.Judging.{Denial}
use Rattle.history_machine.specs.Machine.{World, SessionEndsAs, run_on}
use Rattle.history_machine.specs.Sessions.{Session}
use Rattle.history_machine.specs.Steps.{line_step}
use Rattle.surgeon_session.specs.Calls.{Later, NoneFailed, world}
use Rattle.surgeon_session.specs.Commands.{ReadNoFile}
use Rattle.surgeon_session.specs.Denials.{UnderAll}
use Rattle.surgeon_session.specs.RunsTo.{RunsTo}
use Rattle.surgeon_session.specs.Waits.{AreWithin}
use Rattle.surgeon_session.proofs.SessionRounds.{IsQuiet}
use Rattle.surgeon_session.proofs.run.run_lines.Given as goal

abbrev pub invariant-loop-next : goal.invariant-loop-next
invariant-loop-next g l =
    let s = g.S.Store.state in
    let k = g.T.Sink.state in
    let n = g.P.Patterns.sizes in
    record {
      later : Later (s l.fn.store) (k l.fn.out) (s l.store) (k l.out);
      well : NoneFailed (s l.fn.store) (k l.fn.out) (s l.store) (k l.out);
      grows : n l.fn.patterns ≤ n l.patterns;
      quiet : IsQuiet l.so_far;
      within : AreWithin MAX_COMMANDS l.left l.lines;
      runs : UnderAll (n l.fn.patterns) (n l.patterns) (λ denials.
          IfSome (world (s l.fn.store) (k l.fn.out)) (λ w0. IfSome (world (s l.store) (k l.out)) (λ w. (more : List (Option Denial)) (r : Status) (after : Session) (now : World)
          → SessionEndsAs (run_on line_step l.keep_going l.left more l.so_far l.session w.files l.lines) r l.session w after now
          → SessionEndsAs (run_on line_step l.keep_going MAX_COMMANDS (denials ++ more) status.Done l.fn.session w0.files l.fn.lines) r l.fn.session w0 after now))
          × ((w0 : World) (more : List (Option Denial)) → ReadNoFile (run_on line_step l.keep_going MAX_COMMANDS (denials ++ more) status.Done l.fn.session w0.files l.fn.lines).ran
          → (w : World) × ReadNoFile (run_on line_step l.keep_going l.left more l.so_far l.session w.files l.lines).ran
          × ((r : Status) (after : Session) (now : World)
          → SessionEndsAs (run_on line_step l.keep_going l.left more l.so_far l.session w.files l.lines) r l.session w after now
          → SessionEndsAs (run_on line_step l.keep_going MAX_COMMANDS (denials ++ more) status.Done l.fn.session w0.files l.fn.lines) r l.fn.session w0 after now))
          × ((more : List (Option Denial)) (r : Status) (after : Session) → RunsTo line_step l.keep_going l.left more l.so_far l.session l.lines r after
          → RunsTo line_step l.keep_going MAX_COMMANDS (denials ++ more) status.Done l.fn.session l.fn.lines r after));
    }

abbrev pub decreases-loop-next : goal.decreases-loop-next
decreases-loop-next g l = l.left
