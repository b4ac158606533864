use Rattle.std.proofs.Common.{◌≡◌, ◌∙◌, sym, ap, subst}
use Rattle.std.specs.Prelude.{IfSome}
use Rattle.plain_model.specs.Lookups.{find_event}
use Rattle.event_arena.specs.Changes.{with_mark}
use Rattle.event_arena.proofs.StepLemmas.{changed_same as changed-same}
use Rattle.renumbering.proofs.numbering.give_mark.Goals as goal

pub returns-then-number-new : goal.returns-then-number-new
returns-then-number-new c =
    let plan = c.args.plan.now in
    let same : c.args.old ≡ c.args.new = sym c.number.ensures.value ∙ c.if-number-new.true in
    ap (λ events. record plan { after = events })
    (sym (changed-same c.args.id (with_mark c.args.new) plan.after (subst (λ n. IfSome (find_event c.args.id plan.after) (λ event. with_mark n event ≡ event)) same c.requires.own)))
