use Rattle.std.proofs.Common.{◌∙◌, ap, arith}
use Rattle.mailbox_laws.specs.Boxes.{box_in, lines_in}
use Rattle.mailbox_laws.specs.Landing.{unless_fault}
use Rattle.mailbox_edit.specs.Landings.{landed_all}
use Rattle.mailbox_edit.proofs.Messages.{at_end_of, at_front, next_message}
use Rattle.mailbox_edit.proofs.judging.landings_of.Goals as goal

pub loop-after-init : goal.loop-after-init
loop-after-init c =
    let front = c.body_of-front in
    let events = c.args.events.now.list in
    let bytes = c.args.bytes.now in
    let fits = front.ensures.fits in
    let none = c.new-landings.ensures.items in
    record {
      left = rw none (at_front events bytes front.result.count front.result.next front.result.rest.now c.wrong_front-wrong.result front.ensures.count
          front.ensures.body front.ensures.later front.ensures.begun c.wrong_front-wrong.ensures);
      landable = rw none tt;
      fits = fits;
    }

pub loop-after-preserved : goal.loop-after-preserved
loop-after-preserved c =
    let events = c.args.events.now.list in
    let box = box_in c.args.bytes.now in
    let kept = c.loop-after.invariant in
    let done = c.in_ok-found.ensures in
    let shorter = c.in-Some.ensures.shorter in
    let before = kept.fits in
    let after = done.fits in
    record {
      left = done.left box (next_message events box c.loop-after.line (lines_in c.loop-after.rest.now) c.in-Some.field-0-0.now (lines_in c.in-Some.after.now)
          c.loop-after.wrong c.loop-after.landings.items c.in-Some.ensures.cut kept.left);
      landable = done.landable;
      fits = omega (arith, shorter, before, after);
    }

pub returns-in-Some-wrong-clause-landings : goal.returns-in-Some-wrong-clause-landings
returns-in-Some-wrong-clause-landings c =
    at_end_of c.args.events.now.list c.args.bytes.now c.loop-after.line (lines_in c.loop-after.rest.now) c.loop-after.wrong c.loop-after.landings.items
    c.in_default.ensures.cut c.loop-after.invariant.left
    ∙ ap (λ w. unless_fault w (landed_all c.loop-after.landings.items c.args.events.now.list)) c.in-Some-wrong.is

pub returns-clause-landings : goal.returns-clause-landings
returns-clause-landings c =
    at_end_of c.args.events.now.list c.args.bytes.now c.loop-after.line (lines_in c.loop-after.rest.now) c.loop-after.wrong c.loop-after.landings.items
    c.in_default.ensures.cut c.loop-after.invariant.left
    ∙ ap (λ w. unless_fault w (landed_all c.loop-after.landings.items c.args.events.now.list)) c.in-None.is
