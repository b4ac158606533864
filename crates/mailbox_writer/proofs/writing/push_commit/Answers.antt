use Rattle.mailbox_lines.proofs.Results.{on_ok}
use Rattle.mailbox_writer.proofs.Letters.{commit_put}
use Rattle.mailbox_writer.proofs.writing.push_commit.Goals as goal

pub returns : goal.returns
returns c =
    on_ok c.push_comment.result _ _ (λ last.
    commit_put c.args.events.now.list c.args.number c.args.mark c.args.branch.now c.args.author.now c.args.committer.now
    c.args.encoding.now c.args.comment.now c.args.parents.now c.args.into.now
    c.in_ok-push_rule.ensures c.in_ok-push_numbered.ensures c.in_ok-push_marked.ensures c.in_ok-push_header.ensures
    c.in_ok-push_parents.ensures c.in_ok-push_signed.ensures c.in_ok-push_signed-2.ensures c.in_ok-push_encoding.ensures
    c.in_ok-push_check.ensures last c.number.ensures.value) c.push_comment.ensures
