use Rattle.std.proofs.Common.{◌≡◌, Ok, ap, sym, ◌∙◌}
use Rattle.line_automaton.specs.Machine.{all, closed}
use Rattle.stream_grammar.specs.Limits.{if_known, stream_of, stream_within, unless_spent}
use Rattle.stream_reader.specs.Reading.{Reading, after, at_start}
use Rattle.stream_reader.proofs.Ends.{given_fault, reported_stops, stopped_given}
use Rattle.stream_reader.proofs.Spelled.{no_stream, one_history}
use Rattle.stream_reader.proofs.reader.StreamReader.finish.Goals as goal

pub returns-in-Err-clause-fault : goal.returns-in-Err-clause-fault
returns-in-Err-clause-fault c = λ bytes h.
    let now = c.close.new.self in
    let end = closed stream_within all (after at_start bytes) in
    given_fault bytes c.in-Err.fault (stopped_given c.in-Err.fault end
    (reported_stops now.standing now.known now.number now.come now.place c.in-Err.fault end c.in-Err.ensures.answer (c.close.ensures.reads (after at_start bytes) h)))

pub returns-in-Err-check_end-clause-fault : goal.returns-in-Err-check_end-clause-fault
returns-in-Err-check_end-clause-fault c = λ bytes h.
    given_fault bytes c.in-Err-check_end.fault (c.in-Err-check_end.ensures.fault (closed stream_within all (after at_start bytes)) (c.close.ensures.reads (after at_start bytes) h))

pub returns-in-Err-clause-refused : goal.returns-in-Err-clause-refused
returns-in-Err-clause-refused c = λ bytes h. no_stream c.what_is_given_is_spelled.ensures.refused bytes c.in-Err.fault (returns-in-Err-clause-fault c bytes h)

pub returns-in-Err-check_end-clause-refused : goal.returns-in-Err-check_end-clause-refused
returns-in-Err-check_end-clause-refused c = λ bytes h.
    no_stream c.what_is_given_is_spelled.ensures.refused bytes c.in-Err-check_end.fault (returns-in-Err-check_end-clause-fault c bytes h)

pub returns-in-Ok-clause-only : goal.returns-in-Ok-clause-only
returns-in-Ok-clause-only c = λ bytes h events spelled.
    let end = closed stream_within all (after at_start bytes) in
    let known : c.self.inside.builder ≡ c.close.new.self.known = ap (λ (r : Reading). r.known) c.self.view_is in
    let given : stream_of bytes ≡ Ok c.in-Ok.list =
    ap if_known (c.in_default-check_end.ensures.ok end (c.close.ensures.reads (after at_start bytes) h)) ∙ ap unless_spent (sym known) ∙ c.in-Ok.ensures.list in
    one_history c.what_is_given_is_spelled.ensures.stream bytes c.in-Ok.list events given spelled
