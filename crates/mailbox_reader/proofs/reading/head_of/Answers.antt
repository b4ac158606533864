use Rattle.std.proofs.Common.{arith, sym, subst}
use Rattle.mailbox_laws.specs.Boxes.{InHeaders, lines_in, rest_from}
use Rattle.mailbox_reader.specs.Reading.{Reads}
use Rattle.mailbox_reader.proofs.HeadLines.{at_last, header_met, none_met, stopped_at}
use Rattle.mailbox_reader.proofs.reading.head_of.Goals.{in-Some-header_in, in-None}
use Rattle.mailbox_reader.proofs.reading.head_of.Goals as goal

pub returns-then-is_empty-clause-says : goal.returns-then-is_empty-clause-says
returns-then-is_empty-clause-says c =
    (stopped_at (lines_in c.loop-line.rest.now) c.in-Some.line.now (lines_in c.in-Some.after.now) c.loop-line.next
    (rest_from InHeaders c.args.first (lines_in c.args.bytes.now)) c.args.first c.loop-line.said c.loop-line.bad c.in-Some.ensures.cut
    (sym c.if-is_empty.ensures) c.loop-line.invariant.reads).0

pub returns-then-is_empty-clause-bad : goal.returns-then-is_empty-clause-bad
returns-then-is_empty-clause-bad c =
    (stopped_at (lines_in c.loop-line.rest.now) c.in-Some.line.now (lines_in c.in-Some.after.now) c.loop-line.next
    (rest_from InHeaders c.args.first (lines_in c.args.bytes.now)) c.args.first c.loop-line.said c.loop-line.bad c.in-Some.ensures.cut
    (sym c.if-is_empty.ensures) c.loop-line.invariant.reads).1

pub returns-then-is_empty-clause-end : goal.returns-then-is_empty-clause-end
returns-then-is_empty-clause-end c =
    (stopped_at (lines_in c.loop-line.rest.now) c.in-Some.line.now (lines_in c.in-Some.after.now) c.loop-line.next
    (rest_from InHeaders c.args.first (lines_in c.args.bytes.now)) c.args.first c.loop-line.said c.loop-line.bad c.in-Some.ensures.cut
    (sym c.if-is_empty.ensures) c.loop-line.invariant.reads).2

pub loop-line-preserved : goal.loop-line-preserved
loop-line-preserved c =
    let all = rest_from InHeaders c.args.first (lines_in c.args.bytes.now) in
    let first = c.args.first in
    let next = c.loop-line.next in
    let said = c.loop-line.said in
    let bad = c.loop-line.bad in
    let kept = c.loop-line.invariant in
    let cut = c.in-Some.ensures.cut in
    let some = sym c.if-is_empty.ensures in
    let less = c.in-Some.ensures.shorter in
    let fits = kept.fits in
    let shorter = kept.shorter in
    record {
      reads = elim c.match-header_in.branch [
        | in-Some-header_in w ↦ header_met (lines_in c.loop-line.rest.now) c.in-Some.line.now (lines_in c.in-Some.after.now) next all first
            said w.noted.result c.match-header_in.said bad c.match-header_in.bad (w.in-Some-header_in.name.now, w.in-Some-header_in.value.now)
            cut some (sym w.in-Some-header_in.ensures) w.noted.ensures w.said-is w.bad-is kept.reads
        | in-None w ↦ none_met (lines_in c.loop-line.rest.now) c.in-Some.line.now (lines_in c.in-Some.after.now) next all first
            said c.match-header_in.said bad w.lower-bad.result c.match-header_in.bad cut some (sym w.in-None.ensures) w.lower-bad.ensures
            w.said-is w.bad-is kept.reads
      ];
      fits = omega arith;
      shorter = omega arith;
    }

pub returns-clause-bad : goal.returns-clause-bad
returns-clause-bad c =
    let all = rest_from InHeaders c.args.first (lines_in c.args.bytes.now) in
    (at_last c.loop-line.next all c.args.first c.loop-line.said c.loop-line.bad
    (subst (λ ls. Reads ls c.loop-line.next all c.args.first c.loop-line.said c.loop-line.bad) c.in_default.ensures.cut
    c.loop-line.invariant.reads)).1
