use Rattle.std.proofs.Common.{◌≡◌, ◌++◌}
use Rattle.std.specs.Prelude.{flat_map}
use Rattle.plain_model.specs.Text.{line}
use Rattle.mailbox_laws.specs.Boxes.{quoted}
use Rattle.mailbox_laws.specs.Written.{body_text}
use Rattle.mailbox_lines.specs.Cutting.{lines_left, weight_left}
use Rattle.mailbox_lines.proofs.comments.push_body.Given as goal

abbrev pub invariant-loop-rest : goal.invariant-loop-rest
invariant-loop-rest l = l.into ++ flat_map (λ x. line (quoted x)) (lines_left l.rest) ≡ l.fn.into ++ body_text l.comment

abbrev pub decreases-loop-rest : goal.decreases-loop-rest
decreases-loop-rest l = weight_left l.rest
