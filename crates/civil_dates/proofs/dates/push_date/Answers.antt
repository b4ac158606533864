use Rattle.std.proofs.Common.{rules, arith}
use Rattle.civil_dates.proofs.Calendar.{text_of}
use Rattle.civil_dates.proofs.dates.push_date.Goals as goal

pub returns : goal.returns
returns c =
    let text = text_of c.shown_at-shown.result c.args.seconds (omega arith) c.shown_at-shown.ensures.whole c.shown_at-shown.ensures.civil in
    search (rules, text)
