use Rattle.std.proofs.Common.{◌≡◌, ◌∙◌, ◌++◌, None, Vec, Global, ap, subst, sym}
use Rattle.mailbox_laws.specs.Boxes.{lines_in}
use Rattle.mailbox_reader.specs.Judged.{IsRead}
use Rattle.mailbox_edit.specs.Landings.{id_meant, landings_on}
use Rattle.mailbox_edit.specs.declared.landing.Landing.{Landing}
use Rattle.mailbox_edit.proofs.Messages.{judged_one, some_found}
use Rattle.mailbox_edit.proofs.judging.judge.Goals.{then-is_none+in_ok-note_landing, else-is_none}
use Rattle.mailbox_edit.proofs.judging.judge.Goals as goal

pub returns-clause-left : goal.returns-clause-left
returns-clause-left c = λ whole left.
    let events = c.args.events.now.list in
    let head = c.head_of-bad in
    let said = head.new.said in
    let after = c.body_after-first in
    let extent = c.body_of-extent in
    let found = c.lower-found.result in
    let noted : found ≡ None → c.if-is_none.landings.items ≡ c.args.landings.now.items ++ landings_on (id_meant events said) said after.result.0 extent.result.count =
    elim c.if-is_none.branch [
      | then-is_none+in_ok-note_landing w ↦ λ none.
          ap (λ (v : Vec Landing Global). v.items) w.landings-is ∙ w.in_ok-note_landing.ensures.noted
      | else-is_none w ↦ λ none. absurd (some_found found c.is_none.result c.is_none.ensures w.if-is_none.false none)
    ] in
    judged_one events whole c.args.line (lines_in c.args.after.now) said head.result.0 head.result.1 head.result.2 after.result.1 after.result.0
    extent.result.rest.now extent.result.count extent.result.next c.args.wrong c.wrong_message.result found c.args.landings.now.items
    c.if-is_none.landings.items head.ensures.says head.ensures.bad
    (record {
      ends = head.ensures.end;
      body_is = head.ensures.body;
      later_is = head.ensures.later;
      has = after.ensures.has;
      body_so = after.ensures.body;
      later_so = after.ensures.later;
      counted = extent.ensures.body;
      further = extent.ensures.later;
      begun = extent.ensures.begun;
    })
    (λ m r. c.wrong_message.ensures m (subst (λ b. IsRead m c.args.line said head.result.0 head.result.1 b) (sym c.is_some-has_body.ensures) r))
    c.lower-found.ensures noted left
