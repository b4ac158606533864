use Rattle.std.proofs.Common.{◌∙◌, ◌++◌, ap, codes}
use Rattle.mailbox_lines.proofs.Results.{on_ok}
use Rattle.mailbox_writer.proofs.Letters.{one_header}
use Rattle.mailbox_writer.proofs.fields.push_check.Goals as goal

pub returns : goal.returns
returns c =
    on_ok c.push_header.result _ _ (λ put. put ∙ ap (λ text. c.args.into.now ++ text) (one_header (codes "Check-Text") c.check_of.ensures)) c.push_header.ensures
