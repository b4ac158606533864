use Rattle.std.proofs.Common.{sym}
use Rattle.mailbox_lines.proofs.Results.{on_ok}
use Rattle.mailbox_writer.proofs.Letters.{parents_put}
use Rattle.mailbox_writer.proofs.fields.push_parents.Goals as goal

pub returns : goal.returns
returns c =
    on_ok c.push.result _ _ (λ last.
    parents_put c.args.events.now.list c.args.parents.now c.args.into.now (sym c.if-is_empty.ensures) c.in_ok-push_all.ensures.ok
    c.in_ok-push_spaced.ensures last) c.push.ensures.ok
