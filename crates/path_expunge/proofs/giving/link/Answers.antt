use Rattle.std.proofs.Common.{◌≡◌, ◌∙◌, refl, sym, subst}
use Rattle.std.proofs.lemmas.Option.{same_Some}
use Rattle.plain_model.specs.declared.event.PlainEvent.{PlainEvent}
use Rattle.plain_model.specs.Lookups.{id_of}
use Rattle.event_arena.specs.Changes.{changed, with_parents}
use Rattle.path_expunge.proofs.FateLemmas.{not_linked}
use Rattle.plan_steps.proofs.Steps.{kept_of}
use Rattle.path_expunge.proofs.giving.link.Goals as goal

pub returns-in_default : goal.returns-in_default
returns-in_default c event at =
    let plan = c.args.plan.now in
    let e = c.nth.result.now in
    let ps = c.args.parents.now in
    subst (λ (x : PlainEvent). plan ≡ record plan { after = changed (id_of x) (with_parents ps) plan.after }) (same_Some e event (sym c.nth.ensures.event ∙ at))
    (kept_of plan e e (with_parents ps) refl c.nth.ensures.found (not_linked e c.in_default.not-Commit ps))
