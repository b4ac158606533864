use Rattle.mailbox_lines.proofs.Results.{on_ok}
use Rattle.mailbox_writer.proofs.Letters.{tag_put}
use Rattle.mailbox_writer.proofs.writing.push_tag.Goals as goal

pub returns : goal.returns
returns c =
    on_ok c.push_comment.result _ _ (λ last.
    tag_put c.args.events.now.list c.args.number c.args.name.now c.args.target c.args.tagger.now c.args.comment.now c.args.into.now
    c.in_ok-push_rule.ensures c.in_ok-push_numbered.ensures c.in_ok-push_header.ensures c.in_ok-push_marked.ensures
    c.in_ok-push_tagger.ensures c.in_ok-push_check.ensures last c.mark_of.ensures) c.push_comment.ensures
