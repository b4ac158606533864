use Rattle.std.proofs.Common.{◌∙◌, sym}
use Rattle.plan_steps.proofs.NearLemmas.{lost_goes}
use Rattle.plan_steps.proofs.leaving.goes.Goals as goal

pub returns-else-has_at : goal.returns-else-has_at
returns-else-has_at c takes event t at =
    c.is_lost.ensures event at
    ∙ lost_goes c.args.removal.now.set takes t.stays event _ (sym (c.has_at.ensures event at) ∙ c.if-has_at.false) (λ d on. t.target c.args.place d event at on)
