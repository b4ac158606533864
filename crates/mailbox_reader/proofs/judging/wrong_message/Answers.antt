use Rattle.std.proofs.Common.{◌∙◌, ap, is_some}
use Rattle.plain_model.specs.declared.fault.Fault.TheVariants as fault
use Rattle.mailbox_laws.specs.Landing.{check_faults_of, commit_meant, lowest, tag_meant, value_faults}
use Rattle.mailbox_reader.specs.Lower.{lower}
use Rattle.mailbox_reader.specs.Reading.{value_of}
use Rattle.mailbox_reader.proofs.Together.{both, judged}
use Rattle.mailbox_reader.proofs.judging.wrong_message.Goals as goal

pub returns : goal.returns
returns c = λ m r.
    let events = c.args.events.now.list in
    let said = c.args.said.now in
    let meaning = both (value_faults (λ value. is_some (commit_meant events value)) fault.NoSuchTarget (value_of said.mark))
    (value_faults (λ value. is_some (tag_meant events value)) fault.NoSuchTarget (value_of said.name))
    c.wrong_mark.result c.wrong_name.result c.lower-meaning.result c.wrong_mark.ensures c.wrong_name.ensures c.lower-meaning.ensures in
    let check = c.wrong_check.ensures ∙ ap (λ e. lowest (check_faults_of e (value_of said.check))) c.meant.ensures in
    c.lower.ensures ∙ ap (λ x. lower x c.wrong_check.result)
    (c.lower-found.ensures ∙ ap (λ x. lower x c.lower-meaning.result)
    (c.lower-ended.ensures ∙ ap (λ x. lower x c.wrong_end.result)
    (c.lower-tagger.ensures ∙ ap (λ x. lower x c.wrong_role-3.result)
    (c.lower-committer.ensures ∙ ap (λ x. lower x c.wrong_role-2.result)
    (c.lower-author.ensures ∙ ap (λ x. lower x c.wrong_role.result) c.lower-choice.ensures)))))
    ∙ judged events m c.args.line said c.args.bad c.args.end c.args.has_body c.wrong_choice.result c.wrong_role.result c.wrong_role-2.result
    c.wrong_role-3.result c.wrong_end.result c.lower-meaning.result c.wrong_check.result r c.wrong_choice.ensures c.wrong_role.ensures
    c.wrong_role-2.ensures c.wrong_role-3.ensures c.wrong_end.ensures meaning check
