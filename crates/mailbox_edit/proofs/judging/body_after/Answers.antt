use Rattle.std.proofs.Common.{◌+◌, sym}
use Rattle.mailbox_laws.specs.Boxes.{lines_in}
use Rattle.mailbox_edit.proofs.Messages.{always_body}
use Rattle.mailbox_edit.proofs.judging.body_after.Goals as goal

pub returns-in-Some-clause-has : goal.returns-in-Some-clause-has
returns-in-Some-clause-has c = rw c.in-Some.is (sym (always_body (lines_in c.in-Some.body.now) (c.args.end + 1)))
