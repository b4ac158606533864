use Rattle.std.proofs.Common.{◌∙◌, Ok, Err, ap, sym}
use Rattle.std.specs.Prelude.{Option, Some, None}
use Rattle.plain_model.specs.declared.fault.Fault.{Fault}
use Rattle.event_arena.proofs.Plans.{leaves_sound}
use Rattle.expunge_laws.specs.PushForward.{unless_limit}
use Rattle.expunge_laws.specs.Matching.{matched_by}
use Rattle.path_expunge.proofs.expunging.expunge.Goals as goal

pub returns-clause-plans : goal.returns-clause-plans
returns-clause-plans c =
    let events = c.args.events.now.list in
    let m = matched_by c.args.matchers.now in
    let new = c.in_ok-plan.plan.after in
    let done =
    ap (unless_limit events) c.in_ok-plan.ensures.after
    ∙ ap (λ (o : Option Fault). elim o [ Some why ↦ Err why | None ↦ Ok new ]) (sym c.limit_passed.ensures ∙ c.in_default.is) in
    (done, leaves_sound c.args.events.now new c.in_ok-plan.plan c.in_ok-plan.ensures.made (c.an_expunge_keeps_soundness.ensures m events new c.count-count.ensures.sound done))
