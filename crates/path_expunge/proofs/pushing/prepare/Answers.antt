use Rattle.std.proofs.Common.{◌∙◌, List, Option, ℕ, ap, sym, subst, filter, map}
use Rattle.plain_model.specs.declared.id.AnyId.{AnyId}
use Rattle.plain_model.specs.declared.event.PlainEvent.{PlainEvent}
use Rattle.plain_model.specs.Lookups.{id_of}
use Rattle.plan_steps.specs.Leaving.{goes}
use Rattle.plan_steps.specs.Targets.{AreMoves, moving}
use Rattle.plain_model.specs.declared.policy.Lean.TheVariants as lean
use Rattle.path_expunge.specs.Fates.{taken}
use Rattle.path_expunge.proofs.pushing.prepare.Goals as goal

pub returns-clause-ids : goal.returns-clause-ids
returns-clause-ids c =
    let r = c.in_ok-removal.removal in
    c.in_ok-ids.ensures (taken r.set r.events) (subst (λ (l : List (Option ℕ)). AreMoves r.set (moving r.set r.events lean.Forward) r.events l) (sym c.deref.ensures.value) c.in_ok-targets.ensures)
    ∙ ap (λ (s : List AnyId). map id_of (filter (goes s (taken s r.events)) r.events)) c.in_ok-removal.ensures.set
    ∙ ap (λ (es : List PlainEvent). map id_of (filter (goes c.args.set.now (taken c.args.set.now es)) es)) c.in_ok-removal.ensures.events
