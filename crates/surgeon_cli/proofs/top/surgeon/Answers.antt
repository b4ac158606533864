use Rattle.std.specs.Prelude.{map, string_bytes}
use Rattle.surgeon_cli.proofs.ShownHistories.{histories_shown, writes_shown}
use Rattle.surgeon_cli.proofs.Unsized.{succeeds}
use Rattle.surgeon_cli.proofs.top.surgeon.Goals as goal

pub returns-clause-prescribed : goal.returns-clause-prescribed
returns-clause-prescribed g c =
    let ran = c.run_words.ensures.outcome in
    (ran.0, ran.1, ran.2.prescribed)

pub returns-clause-complete : goal.returns-clause-complete
returns-clause-complete g c =
    let ran = c.run_words.ensures.outcome in
    succeeds (map string_bytes c.args.words.now) (g.S.Store.state c.args.store.now) (g.S.Store.state c.run_words.new.store) (g.T.Sink.state c.args.out.now) (g.T.Sink.state c.run_words.new.out)
    (g.P.Patterns.sizes c.args.patterns.now) (g.P.Patterns.sizes c.run_words.new.patterns) c.run_words.result ran.2.caused (ran.0, ran.1, ran.2.prescribed)

pub returns-clause-replayed : goal.returns-clause-replayed
returns-clause-replayed g c = λ files.
    histories_shown c.a_step_keeps_it.ensures.line c.what_is_written_shows_the_history.ensures (map string_bytes c.args.words.now) files

pub returns-clause-written : goal.returns-clause-written
returns-clause-written g c = λ files.
    writes_shown c.a_step_keeps_it.ensures.line c.what_is_written_shows_the_history.ensures c.the_chosen_history_is_lawful.ensures c.a_write_sends_the_stream.ensures.sent c.a_write_sends_the_stream.ensures.done
    (map string_bytes c.args.words.now) files

pub returns-clause-read : goal.returns-clause-read
returns-clause-read g c = λ files. c.the_reads_of_a_run_are_spelled.ensures (map string_bytes c.args.words.now) files
