use Rattle.std.proofs.Common.{refl, ap, Err, []}
use Rattle.plain_model.specs.declared.fault.Fault.{Fault}
use Rattle.surgeon_store.specs.declared.whole_files.ReadEnd.TheVariants as ended
use Rattle.std.specs.Prelude.{Some}
use Rattle.history_machine.specs.Whole.{run_asked, script_in}
use Rattle.plain_model.specs.declared.status.Status.TheVariants as status
use Rattle.surgeon_session.proofs.Rounds.{caused_later, later_later, read_later}
use Rattle.surgeon_cli.proofs.Prints.{broken_script, ran_script, ran_stops, read_reported, refused_script, refused_stops, unread_caused, unread_reported, unread_worlds}
use Rattle.surgeon_cli.proofs.top.run_file.Goals as goal

pub returns-in-Err-SourceFault-clause-outcome : goal.returns-in-Err-SourceFault-clause-outcome
returns-in-Err-SourceFault-clause-outcome g c =
    let s = g.S.Store.state in
    let k = g.T.Sink.state in (
      [],
      tt,
      record {
        prescribed = unread_worlds (λ w. run_asked [] w.files (Some (record { keep_going = c.args.keep_going; script = c.args.name.now }))) status.SourceFault (s c.args.store.now) (s c.script_in.new.store) (k c.args.out.now) tt c.script_in.ensures.frame;
        caused = (rw c.in-Err-SourceFault.field-0-is at c.in-Err-SourceFault.ensures.failed) refl;
        later = read_later (s c.args.store.now) (s c.script_in.new.store) (k c.args.out.now) c.script_in.ensures.frame;
      },
    )

pub returns-in-Err-Memory-clause-outcome : goal.returns-in-Err-Memory-clause-outcome
returns-in-Err-Memory-clause-outcome g c =
    let s = g.S.Store.state in
    let k = g.T.Sink.state in (
      [],
      tt,
      record {
        prescribed = unread_worlds (λ w. run_asked [] w.files (Some (record { keep_going = c.args.keep_going; script = c.args.name.now }))) status.Memory (s c.args.store.now) (s c.script_in.new.store) (k c.args.out.now) tt c.script_in.ensures.frame;
        caused = tt;
        later = read_later (s c.args.store.now) (s c.script_in.new.store) (k c.args.out.now) c.script_in.ensures.frame;
      },
    )

pub returns-in-Err-Refused-clause-outcome : goal.returns-in-Err-Refused-clause-outcome
returns-in-Err-Refused-clause-outcome g c =
    let s = g.S.Store.state in
    let k = g.T.Sink.state in (
      [],
      tt,
      record {
        prescribed = unread_reported (record { keep_going = c.args.keep_going; script = c.args.name.now }) c.in-Err-Refused.why (λ files. script_in files c.args.name.now) (s c.args.store.now) (s c.script_in.new.store) (k c.args.out.now) (k c.unread_script.new.out) c.unread_script.result
            c.script_in.ensures.frame (rw c.in-Err-Refused.field-0-is at c.in-Err-Refused.ensures.returns) (rw c.as_bytes.ensures.value at (c.unread_script.ensures.prescribed (s c.args.store.now)));
        caused = unread_caused (s c.args.store.now) (s c.script_in.new.store) (k c.args.out.now) (k c.unread_script.new.out) c.in-Err-Refused.why c.unread_script.result (rw c.in-Err-Refused.field-0-is at c.in-Err-Refused.ensures.quiet)
            (λ name is. (rw c.in-Err-Refused.field-0-is at c.in-Err-Refused.ensures.missed) name (ap (λ (f : Fault). Err (ended.Refused f)) is)) c.unread_script.ensures.ends c.unread_script.ensures.caused;
        later = later_later (s c.args.store.now) (s c.script_in.new.store) (s c.script_in.new.store) (k c.args.out.now) (k c.args.out.now) (k c.unread_script.new.out) (read_later (s c.args.store.now) (s c.script_in.new.store) (k c.args.out.now) c.script_in.ensures.frame) (c.unread_script.ensures.later (s c.script_in.new.store));
      },
    )

pub returns-in-Ok-clause-outcome : goal.returns-in-Ok-clause-outcome
returns-in-Ok-clause-outcome g c =
    let s = g.S.Store.state in
    let k = g.T.Sink.state in
    let ran = c.run_script.ensures.outcome in
    let first = read_later (s c.args.store.now) (s c.script_in.new.store) (k c.args.out.now) c.script_in.ensures.frame in (
      ran.0,
      ran.1,
      record {
        prescribed = read_reported ran.0 (record { keep_going = c.args.keep_going; script = c.args.name.now }) c.in-Ok.script (λ files. script_in files c.args.name.now) (s c.args.store.now) (s c.script_in.new.store) (s c.run_script.new.store) (k c.args.out.now) (k c.run_script.new.out) c.run_script.result
            c.script_in.ensures.frame c.in-Ok.ensures.returns ran.2.prescribed;
        caused = caused_later (s c.args.store.now) (s c.script_in.new.store) (s c.run_script.new.store) (k c.args.out.now) (k c.args.out.now) (k c.run_script.new.out) c.run_script.result (record { store = c.in-Ok.ensures.quiet; faults = refl }) first ran.2.caused;
        later = later_later (s c.args.store.now) (s c.script_in.new.store) (s c.run_script.new.store) (k c.args.out.now) (k c.args.out.now) (k c.run_script.new.out) first ran.2.later;
      },
    )

pub returns-in-Ok-clause-script : goal.returns-in-Ok-clause-script
returns-in-Ok-clause-script g c =
    ran_script (g.S.Store.state c.args.store.now).files (λ f. script_in f c.args.name.now) c.in-Ok.script c.run_script.result c.in-Ok.ensures.returns c.run_script.ensures.ends

pub returns-in-Err-Refused-clause-script : goal.returns-in-Err-Refused-clause-script
returns-in-Err-Refused-clause-script g c =
    refused_script (g.S.Store.state c.args.store.now).files (λ f. script_in f c.args.name.now) c.in-Err-Refused.why c.unread_script.result (rw c.in-Err-Refused.field-0-is at c.in-Err-Refused.ensures.returns)
    c.unread_script.ensures.ends

pub returns-in-Err-SourceFault-clause-script : goal.returns-in-Err-SourceFault-clause-script
returns-in-Err-SourceFault-clause-script g c = broken_script (g.S.Store.state c.args.store.now).files (λ f. script_in f c.args.name.now) status.SourceFault tt

pub returns-in-Err-Memory-clause-script : goal.returns-in-Err-Memory-clause-script
returns-in-Err-Memory-clause-script g c = broken_script (g.S.Store.state c.args.store.now).files (λ f. script_in f c.args.name.now) status.Memory tt

pub returns-in-Ok-clause-taken : goal.returns-in-Ok-clause-taken
returns-in-Ok-clause-taken g c = ran_stops _ _ c.run_script.result c.run_script.ensures.ends

pub returns-in-Err-Refused-clause-taken : goal.returns-in-Err-Refused-clause-taken
returns-in-Err-Refused-clause-taken g c =
    refused_stops (g.S.Store.state c.args.store.now).files c.args.name.now _ c.unread_script.result (rw c.in-Err-Refused.field-0-is at c.in-Err-Refused.ensures.taken)
