use Rattle.std.proofs.Common.{arith}
use Rattle.mailbox_reader.proofs.FirstNames.{one_more}
use Rattle.mailbox_reader.proofs.tags.FirstTags.of.Goals as goal

pub loop-place-preserved : goal.loop-place-preserved
loop-place-preserved c =
    one_more c.args.events.now.list c.loop-place.place c.nth.result.now c.loop-place.first c.note.new.self c.nth.ensures.event
    (omega (arith, c.loop-place-test.true)) c.in_ok-note.ensures c.loop-place.invariant
