use Rattle.std.proofs.Common.{◌≡◌, ◌≤◌, ◌++◌, length, take}
use Rattle.mailbox_laws.specs.Boxes.{comment_in, lines_in}
use Rattle.mailbox_lines.proofs.comments.push_comment.Given as goal

abbrev pub invariant-loop-left : goal.invariant-loop-left
invariant-loop-left l = record {
  within : l.left ≤ length (lines_in l.rest);
  put : l.into ++ comment_in (take l.left (lines_in l.rest)) ≡ l.fn.into ++ comment_in (take l.count (lines_in l.body));
}

abbrev pub decreases-loop-left : goal.decreases-loop-left
decreases-loop-left l = l.left
