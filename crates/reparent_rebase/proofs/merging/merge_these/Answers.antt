use Rattle.std.proofs.Common.{◌∙◌, None, Some, ap, sym}
use Rattle.event_arena.specs.Graphs.{Change}
use Rattle.reparent_rebase.proofs.Answered.{merge_two, two_items}
use Rattle.reparent_rebase.proofs.merging.merge_these.Goals as goal

pub returns-in-Some-clause-answer : goal.returns-in-Some-clause-answer
returns-in-Some-clause-answer c =
    merge_two c.args.events.now.list c.args.commits.now c.low-item.result c.high-item.result c.in_ok-plan.plan.after (Some c.in-Some.fault)
    (two_items c.args.commits.now c.low-item.result c.high-item.result c.in-len2.len_at_least c.in-len2.len_below c.low-item.is c.high-item.is)
    (ap (λ (p : Change). p.after) c.in_ok-plan.ensures) (sym c.limit_passed.ensures ∙ c.in-Some.is)

pub returns-in-None-clause-answer : goal.returns-in-None-clause-answer
returns-in-None-clause-answer c =
    merge_two c.args.events.now.list c.args.commits.now c.low-item.result c.high-item.result c.in_ok-plan.plan.after None
    (two_items c.args.commits.now c.low-item.result c.high-item.result c.in-len2.len_at_least c.in-len2.len_below c.low-item.is c.high-item.is)
    (ap (λ (p : Change). p.after) c.in_ok-plan.ensures) (sym c.limit_passed.ensures ∙ c.in-None.is)
