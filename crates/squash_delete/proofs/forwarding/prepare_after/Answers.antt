use Rattle.std.proofs.Common.{◌≡◌, ◌∙◌, List, Some, ap, subst, sym}
use Rattle.plain_model.specs.declared.id.AnyId.{AnyId}
use Rattle.plain_model.specs.declared.event.PlainEvent.{PlainEvent}
use Rattle.plan_steps.specs.Tables.{IsTable}
use Rattle.squash_delete.specs.declared.fates.Fate.{Fate}
use Rattle.squash_delete.specs.declared.fates.Fate.TheVariants.{Same}
use Rattle.squash_delete.specs.Fates.{FateIs, left_events, limit_left}
use Rattle.squash_delete.proofs.forwarding.prepare_after.Goals as goal

pub returns-in-Some-clause-passed : goal.returns-in-Some-clause-passed
returns-in-Some-clause-passed c fault is =
    let r = c.in_ok-removal.removal in
    let comments = c.args.comments in
    let tags = c.args.tags in
    let table = subst (λ (fs : List Fate). IsTable Same (FateIs r.set r.events comments tags) r.events fs) (sym c.deref.ensures.value) c.in_ok-made.ensures.fates in
    let same : c.in-Some.fault ≡ fault = cc in
    ap (λ (s : List AnyId). limit_left (left_events s c.args.plan.now.after comments tags)) (sym c.in_ok-removal.ensures.set)
    ∙ ap (λ (es : List PlainEvent). limit_left (left_events r.set es comments tags)) (sym c.in_ok-removal.ensures.events)
    ∙ sym (c.limit_left.ensures comments tags table) ∙ c.in-Some.is ∙ ap Some same

pub returns-clause-within : goal.returns-clause-within
returns-clause-within c =
    let r = c.in_ok-removal.removal in
    let comments = c.args.comments in
    let tags = c.args.tags in
    let table = subst (λ (fs : List Fate). IsTable Same (FateIs r.set r.events comments tags) r.events fs) (sym c.deref.ensures.value) c.in_ok-made.ensures.fates in
    ap (λ (s : List AnyId). limit_left (left_events s c.args.plan.now.after comments tags)) (sym c.in_ok-removal.ensures.set)
    ∙ ap (λ (es : List PlainEvent). limit_left (left_events r.set es comments tags)) (sym c.in_ok-removal.ensures.events)
    ∙ sym (c.limit_left.ensures comments tags table) ∙ c.in-None.is
