use Rattle.std.proofs.Common.{◌≡◌, ◌∙◌, subst, take}
use Rattle.std.specs.Prelude.{IfSome}
use Rattle.plain_model.specs.Lookups.{find_event}
use Rattle.plain_model.specs.Paths.{Bytes}
use Rattle.event_arena.specs.Changes.{with_comment}
use Rattle.mailbox_laws.specs.Boxes.{comment_in, lines_in}
use Rattle.plan_steps.proofs.Steps.{kept}
use Rattle.mailbox_edit.proofs.giving.give_comment.Goals as goal

pub returns-then-has_comment : goal.returns-then-has_comment
returns-then-has_comment c =
    let after = c.args.plan.now.after in
    let id = c.args.id.now in
    kept c.args.plan.now id (with_comment (comment_in (take c.args.count (lines_in c.args.body.now))))
    (subst (λ (text : Bytes). IfSome (find_event id after) (λ e. with_comment text e ≡ e)) (c.as_slice.ensures ∙ c.in_ok-comment.ensures)
    c.if-has_comment.ensures)
