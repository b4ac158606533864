use Rattle.std.proofs.Common.{ℕ, suc, List, Option, arith, add-one, sym, subst}
use Rattle.plain_model.specs.declared.policy.Push.TheVariants as push
use Rattle.plan_steps.specs.Targets.{AreMoves}
use Rattle.squash_laws.specs.Takings.{target_after}
use Rattle.plan_steps.specs.Tables.{IsTableTo}
use Rattle.plan_steps.proofs.Tables.{table_all, table_push}
use Rattle.squash_delete.specs.declared.fates.Fate.{Fate}
use Rattle.squash_delete.specs.declared.fates.Fate.TheVariants.{Same}
use Rattle.squash_delete.specs.Fates.{FateIs, taken}
use Rattle.squash_delete.proofs.fates.prepare.Goals as goal

pub returns-clause-ids : goal.returns-clause-ids
returns-clause-ids c =
    let set = c.args.removal.now.set in
    let events = c.args.removal.now.events in
    c.in_ok-ids.ensures (taken set events c.args.comments c.args.tags)
    (subst (λ (l : List (Option ℕ)). AreMoves set (target_after set events push.Forward c.args.tags) events l) (sym c.deref.ensures.value) c.in_ok-targets.ensures)

pub loop-place-preserved : goal.loop-place-preserved
loop-place-preserved c =
    let set = c.args.removal.now.set in
    let events = c.args.removal.now.events in
    let moves = subst (λ (l : List (Option ℕ)). AreMoves set (target_after set events push.Forward c.args.tags) events l) (sym c.deref-in-loop-place-2.ensures.value) c.in_ok-targets.ensures in
    rw add-one (subst (λ (l : List Fate). IsTableTo Same (FateIs set events c.args.comments c.args.tags) events (suc c.loop-place.place) l) (sym c.in_ok-push.ensures.items)
    (table_push Same (FateIs set events c.args.comments c.args.tags) events c.loop-place.place c.loop-place.fates.items c.in_ok-fate_at.field-0 c.loop-place.invariant
    (λ e at. c.in_ok-fate_at.ensures c.args.tags e moves at)))

pub returns-clause-fates : goal.returns-clause-fates
returns-clause-fates c =
    let set = c.args.removal.now.set in
    let events = c.args.removal.now.events in
    let whole = c.count-place-end.ensures.count in
    let most = c.loop-place.auto.place-end in
    let test = c.loop-place-test.false in
    table_all Same (FateIs set events c.args.comments c.args.tags) events c.loop-place.place c.loop-place.fates.items (omega arith) c.loop-place.invariant
