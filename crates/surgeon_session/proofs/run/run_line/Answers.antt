use Rattle.history_machine.specs.Steps.{line_step}
use Rattle.surgeon_session.specs.Calls.{world}
use Rattle.std.proofs.Common.{inr, refl, subst, sym}
use Rattle.surgeon_session.specs.Commands.{RefusesAs}
use Rattle.surgeon_session.proofs.RunningTo.{told_so}
use Rattle.surgeon_session.proofs.Readying.{broken_turn, refusal_broken, refusal_printed}
use Rattle.surgeon_session.proofs.Rounds.{later_later, none_failed_later, printed_later}
use Rattle.plain_model.proofs.Counts.{rose_before}
use Rattle.surgeon_session.proofs.run.run_line.Goals as goal

pub returns-in-Err-SourceFault-clause-runs : goal.returns-in-Err-SourceFault-clause-runs
returns-in-Err-SourceFault-clause-runs g c =
    let s = g.S.Store.state in
    let k = g.T.Sink.state in
    let ran = rw c.in-Err-SourceFault.field-0-is at c.in-Err-SourceFault.ensures.carries in (
      ran.0,
      ran.1,
      record {
        outcome = record {
          prescribed = broken_turn c.args.session.now c.carry_out.new.session c.args.next.line (λ files. line_step ran.0 c.args.session.now files c.args.next.depth c.args.next.what)
              (world (s c.args.store.now) (k c.args.out.now)) (world (s c.carry_out.new.store) (k c.carry_out.new.out)) ran.2.outcome.prescribed;
          caused = ran.2.outcome.caused;
          later = ran.2.outcome.later;
        };
        told = told_so (s c.args.store.now).files _ _ (λ files specified. ran.2.kept) ran.2.told;
        exact = λ reads files. ran.2.kept;
      },
    )

pub returns-in-Err-SinkFault-clause-runs : goal.returns-in-Err-SinkFault-clause-runs
returns-in-Err-SinkFault-clause-runs g c =
    let s = g.S.Store.state in
    let k = g.T.Sink.state in
    let ran = rw c.in-Err-SinkFault.field-0-is at c.in-Err-SinkFault.ensures.carries in (
      ran.0,
      ran.1,
      record {
        outcome = record {
          prescribed = broken_turn c.args.session.now c.carry_out.new.session c.args.next.line (λ files. line_step ran.0 c.args.session.now files c.args.next.depth c.args.next.what)
              (world (s c.args.store.now) (k c.args.out.now)) (world (s c.carry_out.new.store) (k c.carry_out.new.out)) ran.2.outcome.prescribed;
          caused = ran.2.outcome.caused;
          later = ran.2.outcome.later;
        };
        told = told_so (s c.args.store.now).files _ _ (λ files specified. ran.2.kept) ran.2.told;
        exact = λ reads files. ran.2.kept;
      },
    )

pub returns-in-Ok-print_refusal-clause-runs : goal.returns-in-Ok-print_refusal-clause-runs
returns-in-Ok-print_refusal-clause-runs g c =
    let s = g.S.Store.state in
    let k = g.T.Sink.state in
    let ran = rw c.in-Err-Refused.field-0-is at c.in-Err-Refused.ensures.carries in
    let later = printed_later (s c.carry_out.new.store) (k c.carry_out.new.out) (k c.print_refusal.new.out) _ c.print_refusal.ensures.part c.print_refusal.ensures.later in (
      ran.0,
      ran.1,
      record {
        outcome = record {
          prescribed = refusal_printed c.args.session.now c.carry_out.new.session c.args.next.line c.in-Err-Refused.fault (λ files. line_step ran.0 c.args.session.now files c.args.next.depth c.args.next.what)
              (s c.args.store.now) (s c.carry_out.new.store) (k c.args.out.now) (k c.carry_out.new.out) (k c.print_refusal.new.out) ran.2.outcome.prescribed ran.2.outcome.later.reports
              c.passes_limit.result c.passes_limit.ensures c.in-Ok-print_refusal.ensures.ok;
          caused = none_failed_later (s c.args.store.now) (s c.carry_out.new.store) (s c.carry_out.new.store) (k c.args.out.now) (k c.carry_out.new.out) (k c.print_refusal.new.out) ran.2.outcome.caused
              (record { store = record { read_faults = refl; write_faults = refl }; faults = c.in-Ok-print_refusal.ensures.quiet });
          later = later_later (s c.args.store.now) (s c.carry_out.new.store) (s c.carry_out.new.store) (k c.args.out.now) (k c.carry_out.new.out) (k c.print_refusal.new.out) ran.2.outcome.later later;
        };
        told = told_so (s c.args.store.now).files _ _ (λ files specified. (ran.2.kept, subst (RefusesAs c.passes_limit.result) (sym specified) c.passes_limit.ensures)) ran.2.told;
        exact = λ reads files. (ran.2.kept, subst (RefusesAs c.passes_limit.result) (sym (ran.2.exact reads files)) c.passes_limit.ensures);
      },
    )

pub returns-in-Err-SinkFault-print_refusal-clause-runs : goal.returns-in-Err-SinkFault-print_refusal-clause-runs
returns-in-Err-SinkFault-print_refusal-clause-runs g c =
    let s = g.S.Store.state in
    let k = g.T.Sink.state in
    let ran = rw c.in-Err-Refused.field-0-is at c.in-Err-Refused.ensures.carries in
    let later = printed_later (s c.carry_out.new.store) (k c.carry_out.new.out) (k c.print_refusal.new.out) _ c.print_refusal.ensures.part c.print_refusal.ensures.later in (
      ran.0,
      ran.1,
      record {
        outcome = record {
          prescribed = refusal_broken c.args.session.now c.carry_out.new.session c.args.next.line c.in-Err-Refused.fault (λ files. line_step ran.0 c.args.session.now files c.args.next.depth c.args.next.what)
              (s c.args.store.now) (s c.carry_out.new.store) (k c.args.out.now) (k c.carry_out.new.out) (k c.print_refusal.new.out) ran.2.outcome.prescribed ran.2.outcome.later.reports
              c.print_refusal.ensures.part;
          caused = inr (rose_before (k c.args.out.now).faults (k c.carry_out.new.out).faults (k c.print_refusal.new.out).faults ran.2.outcome.later.faults ((rw c.in-Err-SinkFault-print_refusal.field-0-is at c.in-Err-SinkFault-print_refusal.ensures.failed) refl));
          later = later_later (s c.args.store.now) (s c.carry_out.new.store) (s c.carry_out.new.store) (k c.args.out.now) (k c.carry_out.new.out) (k c.print_refusal.new.out) ran.2.outcome.later later;
        };
        told = told_so (s c.args.store.now).files _ _ (λ files specified. ran.2.kept) ran.2.told;
        exact = λ reads files. ran.2.kept;
      },
    )

pub returns-in-Err-Refused-clause-runs : goal.returns-in-Err-Refused-clause-runs
returns-in-Err-Refused-clause-runs g c =
    let s = g.S.Store.state in
    let k = g.T.Sink.state in
    let ran = rw c.in-Err-Refused.field-0-is at c.in-Err-Refused.ensures.carries in
    let later = printed_later (s c.carry_out.new.store) (k c.carry_out.new.out) (k c.print_refusal.new.out) _ c.print_refusal.ensures.part c.print_refusal.ensures.later in (
      ran.0,
      ran.1,
      record {
        outcome = record {
          prescribed = refusal_broken c.args.session.now c.carry_out.new.session c.args.next.line c.in-Err-Refused.fault (λ files. line_step ran.0 c.args.session.now files c.args.next.depth c.args.next.what)
              (s c.args.store.now) (s c.carry_out.new.store) (k c.args.out.now) (k c.carry_out.new.out) (k c.print_refusal.new.out) ran.2.outcome.prescribed ran.2.outcome.later.reports
              c.print_refusal.ensures.part;
          caused = tt;
          later = later_later (s c.args.store.now) (s c.carry_out.new.store) (s c.carry_out.new.store) (k c.args.out.now) (k c.carry_out.new.out) (k c.print_refusal.new.out) ran.2.outcome.later later;
        };
        told = told_so (s c.args.store.now).files _ _ (λ files specified. ran.2.kept) ran.2.told;
        exact = λ reads files. ran.2.kept;
      },
    )
