use Rattle.std.proofs.Common.{take, sym, true≢false, add-one}
use Rattle.event_arena.proofs.KeptMarkLemmas.{keep_absent, keep_one}
use Rattle.event_arena.proofs.ListLemmas.{take_all, take_more}
use Rattle.event_arena.proofs.kept_marks.keep_marks.Goals as goal
use Rattle.event_arena.proofs.kept_marks.keep_marks.Goals.{in-Some+in-Some-event+else-not-has_same_marks, in_default}

pub loop-id-init : goal.loop-id-init
loop-id-init c id h = absurd (true≢false (sym h))

pub loop-id-preserved : goal.loop-id-preserved
loop-id-preserved c =
    let seen = take c.loop-id.id-index c.args.ids.now in
    let id = c.id-item.result in
    let more = take_more c.args.ids.now c.loop-id.id-index id c.loop-id-test.true c.id-item.is in
    rw (add-one, more) (elim c.match-event.branch [
      | in-Some+in-Some-event+else-not-has_same_marks w ↦
          keep_one seen id c.args.before.now c.args.after.now c.loop-id.invariant w.in-Some-event.old.now w.in-Some.new.now (sym w.in-Some-event.ensures) (sym w.in-Some.ensures)
          (w.has_same_marks.ensures w.if-not-has_same_marks.false)
      | in_default w ↦ keep_absent seen id c.args.before.now c.args.after.now c.loop-id.invariant (sym w.in_default.ensures)
    ])

pub returns : goal.returns
returns c kept = rw (← take_all c.args.ids.now c.loop-id.id-index c.loop-id-test.false) c.loop-id.invariant
