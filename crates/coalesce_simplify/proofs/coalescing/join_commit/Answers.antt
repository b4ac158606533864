use Rattle.std.proofs.Common.{◌≡◌, ◌∙◌, ◌++◌, [], List, ℕ, None, Some, flat_map, ap, sym, subst}
use Rattle.std.specs.Prelude.{IfSome, slice_get}
use Rattle.std.proofs.lemmas.Result.{on_ok_weaker}
use Rattle.plain_model.specs.declared.event.PlainEvent.{PlainEvent}
use Rattle.plain_model.specs.declared.id.AnyId.TheVariants as any
use Rattle.plain_model.specs.declared.operation.FileOp.{FileOp}
use Rattle.plain_model.specs.Histories.{Node}
use Rattle.plain_model.specs.Lookups.{find_event}
use Rattle.history_laws.specs.FirstParents.{ops_along}
use Rattle.event_arena.specs.Changes.{changed, with_ops, with_parents}
use Rattle.manifest_cache.specs.Walks.{ops_at}
use Rattle.squash_laws.specs.Takings.{links}
use Rattle.plan_steps.specs.Depths.{parents_at}
use Rattle.coalesce_laws.specs.Remaining.{parents_of_oldest}
use Rattle.plan_steps.proofs.Steps.{kept}
use Rattle.coalesce_simplify.proofs.Walks.{none_walked, ops_walked, parents_walked}
use Rattle.coalesce_simplify.proofs.coalescing.join_commit.Goals as goal

pub returns-in_default : goal.returns-in_default
returns-in_default c =
    let plan = c.args.plan.now in
    let events = c.args.going.now.events in
    let ps = c.args.parents.now in
    let os = c.args.ops.now in
    let before = links c.args.going.now.set events ps in
    let ws = c.in_ok-commits.commits.items in
    let first : slice_get ws 0 ≡ None = ap (λ (l : List ℕ). slice_get l 0) (sym c.deref.ensures.value) ∙ sym c.in_default.ensures.value in
    let none : before ≡ [] = none_walked c.args.going.now.set events before ws c.in_ok-commits.ensures first in
    kept plan (any.Commit c.args.commit) (λ event. with_parents (parents_of_oldest before ps) (with_ops (ops_along before ++ os) event))
    (subst (λ (ns : List Node). IfSome (find_event (any.Commit c.args.commit) plan.after) (λ event. with_parents (parents_of_oldest ns ps) (with_ops (ops_along ns ++ os) event) ≡ event))
    (sym none) c.requires.own)

pub returns : goal.returns
returns c =
    let plan = c.args.plan.now in
    let events = c.args.going.now.events in
    let set = c.args.going.now.set in
    let ps = c.args.parents.now in
    let os = c.args.ops.now in
    let before = links set events ps in
    let ws = c.in_ok-commits.commits.items in
    let oldest = c.in-Some.oldest.now in
    let first : slice_get ws 0 ≡ Some oldest = ap (λ (l : List ℕ). slice_get l 0) (sym c.deref.ensures.value) ∙ sym c.in-Some.ensures.value in
    let parents : c.in_ok-parents.parents ≡ parents_of_oldest before ps =
    c.in_ok-parents.ensures ∙ c.parents_of.ensures.found ∙ ap (λ (es : List PlainEvent). parents_at es oldest) c.events-2.ensures
    ∙ parents_walked set events before ws oldest ps c.in_ok-commits.ensures first in
    let ops : c.in_ok-ops.ops ≡ ops_along before ++ os =
    c.in_ok-ops.ensures ∙ (λ i. flat_map (ops_at (c.events.ensures i)) (c.deref-2.ensures.value i) ++ os)
    ∙ ap (λ (l : List FileOp). l ++ os) (ops_walked set events before ws c.in_ok-commits.ensures) in
    on_ok_weaker c.set_both.result (λ is.
    is ∙ (λ i. record plan { after = changed (any.Commit c.args.commit) (λ event. with_parents (parents i) (with_ops (ops i) event)) plan.after })) c.set_both.ensures
