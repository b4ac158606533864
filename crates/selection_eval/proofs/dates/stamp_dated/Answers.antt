use Rattle.std.proofs.Common.{refl}
use Rattle.selection_eval.proofs.DayTexts.{stamp_known, stamp_unknown}
use Rattle.selection_eval.proofs.dates.stamp_dated.Goals as goal

pub returns-in_ok-no_name-in-Some-clause-ids : goal.returns-in_ok-no_name-in-Some-clause-ids
returns-in_ok-no_name-in-Some-clause-ids c =
    let is = stamp_known c.args.events.now.list c.args.text.now c.in-Some.moment.now c.in-Some.rest.now c.in-Some.ensures in
    rw (is, ← c.email_in-number.ensures, ← c.in_ok-set-in-Some.ensures.ids, ← c.in_ok-no_name-in-Some.ensures) c.some_or.ensures.ids

pub returns-in_ok-text-in-None-clause-ids : goal.returns-in_ok-text-in-None-clause-ids
returns-in_ok-text-in-None-clause-ids c =
    rw (stamp_unknown c.args.events.now.list c.args.text.now c.in-None.ensures, ← c.in_ok-text-in-None.ensures) refl
