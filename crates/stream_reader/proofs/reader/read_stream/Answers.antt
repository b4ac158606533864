use Rattle.std.proofs.Common.{[]}
use Rattle.stream_grammar.specs.Limits.{stream_within}
use Rattle.line_automaton.specs.Machine.{all, closed}
use Rattle.stream_reader.specs.Reading.{after, at_start}
use Rattle.stream_reader.proofs.Ends.{given_fault, reported_stops, stopped_closed, stopped_given}
use Rattle.stream_reader.proofs.Spelled.{no_stream, of_text}
use Rattle.stream_reader.proofs.reader.read_stream.Goals as goal

pub returns-in-Err-clause-fault : goal.returns-in-Err-clause-fault
returns-in-Err-clause-fault c =
    let now = c.feed.new.self in
    let fault = c.in-Err.fault in
    let end = after at_start c.args.text.now in
    given_fault c.args.text.now fault (stopped_given fault (closed stream_within all end) (stopped_closed fault end
    (reported_stops now.standing now.known now.number now.come now.place fault end c.in-Err.ensures.answer (c.feed.ensures.reads at_start c.new-reader.ensures))))

pub returns-in-Err-clause-refused : goal.returns-in-Err-clause-refused
returns-in-Err-clause-refused c = no_stream c.what_is_given_is_spelled.ensures.refused c.args.text.now c.in-Err.fault (returns-in-Err-clause-fault c)

pub returns-clause-only : goal.returns-clause-only
returns-clause-only c = of_text c.feed.new.self c.args.text.now c.finish.result c.finish.ensures.only (c.feed.ensures.text [] c.new-reader.ensures)
