use Rattle.std.proofs.Common.{◌∙◌, ◌++◌, ap, arith}
use Rattle.mailbox_laws.specs.Boxes.{lines_in}
use Rattle.mailbox_lines.proofs.Bodies.{fewer, on_with}
use Rattle.mailbox_lines.proofs.comments.push_comment.Goals as goal

pub loop-left-preserved-in_ok-push : goal.loop-left-preserved-in_ok-push
loop-left-preserved-in_ok-push c =
    let lines = lines_in c.loop-left.rest.now in
    let ls = lines_in c.in-Some.after.now in
    let kept = c.loop-left.invariant in
    let put = c.in_ok-push_all.ensures.ok ∙ ap (λ text. c.loop-left.into ++ text) c.unquoted.ensures in
    record {
      within = fewer lines c.in-Some.line.now ls c.loop-left.left c.in-Some.ensures.cut (omega (arith, c.loop-left-test.true)) kept.within;
      put = on_with lines c.in-Some.line.now ls c.loop-left.left _ c.loop-left.into c.push_all.new.self c.push.new.self
          c.in-Some.ensures.cut (omega (arith, c.if-left-gt0.true)) kept.within kept.put put c.in_ok-push.ensures.ok;
    }
