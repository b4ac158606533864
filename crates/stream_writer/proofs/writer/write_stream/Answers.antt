-- One event further, to the end, or broken off.
use Rattle.std.proofs.Common.{◌∷◌, [], ◌∙◌, suc, drop, subst, add-one, arith}
use Rattle.std.specs.Prelude.{◌||◌}
use Rattle.plain_model.specs.Snapshots.{refs_after}
use Rattle.plain_model.specs.Text.{event_text, is_feature_done, text}
use Rattle.stream_writer.specs.Sending.{IsOnItsWay, closing, to_come}
use Rattle.stream_writer.proofs.SendingLemmas.{breaks_off, comes_last, comes_next, ends_broken, goes_on}
use Rattle.stream_writer.proofs.writer.write_stream.Goals as goal

pub returns-in_err-write_event-clause-part : goal.returns-in_err-write_event-clause-part
returns-in_err-write_event-clause-part g c =
    let state = g.W.Sink.state in
    let list = c.args.events.now.list in
    let now = c.loop-place in
    let e = c.nth-event.result.now in
    breaks_off (state c.args.sink.now) (state now.sink) (state c.write_event.new.sink) (text list) now.gathered (event_text list now.tips e)
    (to_come list (refs_after now.tips (e ∷ [])) (now.promised || is_feature_done e) (drop (suc now.place) list))
    (subst (IsOnItsWay (state c.args.sink.now) (text list) (state now.sink) now.gathered) (comes_next list now.tips now.promised now.place e c.nth-event.ensures.event) now.invariant.way)
    c.in_err-write_event.ensures.part

pub loop-place-preserved : goal.loop-place-preserved
loop-place-preserved g c =
    let state = g.W.Sink.state in
    let list = c.args.events.now.list in
    let now = c.loop-place in
    let e = c.nth-event.result.now in
    let wrote = c.in_ok-write_event.ensures in
    let further =
    goes_on (state c.args.sink.now) (state now.sink) (state c.write_event.new.sink) (text list) now.gathered (event_text list now.tips e)
    (to_come list (refs_after now.tips (e ∷ [])) (now.promised || is_feature_done e) (drop (suc now.place) list))
    (subst (IsOnItsWay (state c.args.sink.now) (text list) (state now.sink) now.gathered) (comes_next list now.tips now.promised now.place e c.nth-event.ensures.event) now.invariant.way)
    c.write_event.new.gathered wrote.ok in
    record {
      way = rw (add-one, wrote.tips, c.is_promise-promised.ensures) further;
      later = omega (arith, wrote.later, now.invariant.later);
      quiet = wrote.quiet ∙ now.invariant.quiet;
      around = wrote.around ∙ now.invariant.around;
    }

pub returns-clause-part : goal.returns-clause-part
returns-clause-part g c =
    let state = g.W.Sink.state in
    let list = c.args.events.now.list in
    let now = c.loop-place in
    let last = comes_last list now.tips now.promised now.place (omega (arith, c.loop-place-test.false, c.count-place-end.ensures.count)) in
    ends_broken (state c.args.sink.now) (state now.sink) (state c.write_closing.new.sink) (text list) now.gathered (closing now.promised [])
    (subst (IsOnItsWay (state c.args.sink.now) (text list) (state now.sink) now.gathered) last now.invariant.way)
    c.write_closing.ensures.part

pub returns-in_err-write_event-clause-again : goal.returns-in_err-write_event-clause-again
returns-in_err-write_event-clause-again g c = c.what_is_written_shows_the_history.ensures c.args.events.now.list c.count-place-end.ensures.sound

pub returns-clause-again : goal.returns-clause-again
returns-clause-again g c = c.what_is_written_shows_the_history.ensures c.args.events.now.list c.count-place-end.ensures.sound
