use Rattle.std.proofs.Common.{◌≡◌, ◌∙◌, refl, sym, subst}
use Rattle.std.proofs.lemmas.Option.{same_Some}
use Rattle.plain_model.specs.declared.event.PlainEvent.{PlainEvent}
use Rattle.plain_model.specs.Lookups.{id_of}
use Rattle.event_arena.specs.Changes.{changed, with_target}
use Rattle.squash_delete.proofs.FateLemmas.{not_moved}
use Rattle.plan_steps.proofs.Steps.{kept_of}
use Rattle.squash_delete.proofs.giving.retarget_at.Goals as goal

pub returns-in_default : goal.returns-in_default
returns-in_default c event at =
    let plan = c.args.plan.now in
    let e = c.nth.result.now in
    let t = c.args.target in
    subst (λ (x : PlainEvent). plan ≡ record plan { after = changed (id_of x) (with_target t) plan.after }) (same_Some e event (sym c.nth.ensures.event ∙ at))
    (kept_of plan e e (with_target t) refl c.nth.ensures.found (not_moved t e c.in_default.not-Tag c.in_default.not-Reset))
