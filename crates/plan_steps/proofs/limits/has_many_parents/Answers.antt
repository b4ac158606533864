use Rattle.std.proofs.Common.{◌∙◌, add-one, ap, length, sym}
use Rattle.std.specs.Prelude.{nat_lt, slice_get}
use Rattle.plain_model.specs.Lookups.{event_parents}
use Rattle.plain_model.specs.declared.limit.TheConstants.{MAX_PARENTS}
use Rattle.plan_steps.proofs.Counting.{any_item, none_item}
use Rattle.plan_steps.proofs.limits.has_many_parents.Goals as goal

pub returns-then-has_too_many : goal.returns-then-has_too_many
returns-then-has_too_many c =
    let place = c.loop-place.place in
    let at = c.parents_at.ensures in
    let here = ap (λ es. slice_get es place) (sym c.after.ensures) ∙ at.1 in
    sym (any_item (λ e. nat_lt MAX_PARENTS (length (event_parents e))) c.args.plan.now.after place at.0 here
    (ap (λ ps. nat_lt MAX_PARENTS (length ps)) (sym at.2) ∙ sym c.has_too_many.ensures ∙ c.if-has_too_many.true))

pub loop-place-preserved : goal.loop-place-preserved
loop-place-preserved c =
    let place = c.loop-place.place in
    let at = c.parents_at.ensures in
    let here = ap (λ es. slice_get es place) (sym c.after.ensures) ∙ at.1 in
    rw add-one (none_item (λ e. nat_lt MAX_PARENTS (length (event_parents e))) c.args.plan.now.after place at.0 here c.loop-place.invariant
    (ap (λ ps. nat_lt MAX_PARENTS (length ps)) (sym at.2) ∙ sym c.has_too_many.ensures ∙ c.if-has_too_many.false))
