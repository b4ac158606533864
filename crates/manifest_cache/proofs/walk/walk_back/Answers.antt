use Rattle.std.proofs.Common.{◌∙◌, List, ℕ, sym, ap, subst, nat_eq}
use Rattle.std.specs.Map.{lookup}
use Rattle.plain_model.specs.Trees.{Tree}
use Rattle.manifest_cache.specs.Listed.{events_of}
use Rattle.manifest_cache.specs.Walks.{Leads}
use Rattle.manifest_cache.proofs.Walking.{HasCome, begins, ends_at_kept, ends_at_root, goes_down, goes_on, unkept}
use Rattle.manifest_cache.proofs.walk.walk_back.Goals as goal

pub returns-in-Some : goal.returns-in-Some
returns-in-Some c =
    let kept = c.args.kept.now.entries in
    let events = (events_of c.args.listed.now) in
    let found = ap (λ n. lookup (nat_eq n) kept) (sym c.number.ensures) ∙ sym c.in-Some.ensures in
    subst (λ (w : List ℕ). Leads kept events c.args.commit w c.in_ok-share.field-0) (sym c.walk.view_is)
    (subst (λ (t : Tree). Leads kept events c.args.commit c.loop-tree.walk t) (sym c.in_ok-share.ensures)
    (ends_at_kept kept events c.count.ensures.once c.args.commit c.loop-tree.at c.loop-tree.walk c.loop-tree.invariant c.requires.there c.in-Some.tree.now c.requires.agrees found))

pub loop-tree-smaller : goal.loop-tree-smaller
loop-tree-smaller c =
    goes_down c.args.kept.now.entries (events_of c.args.listed.now) c.count.ensures.once c.args.commit c.loop-tree.at c.loop-tree.walk c.loop-tree.invariant
    c.in-Some-parent_at.parent c.in-Some-parent_at.ensures

pub loop-tree-preserved : goal.loop-tree-preserved
loop-tree-preserved c =
    let kept = c.args.kept.now.entries in
    goes_on kept (events_of c.args.listed.now) c.count.ensures.once c.args.commit c.loop-tree.at c.loop-tree.walk c.loop-tree.invariant
    c.push.new.self c.in-Some-parent_at.parent c.in_ok-push.ensures.ok (unkept kept c.number.result c.loop-tree.at c.number.ensures c.in_default.ensures) c.in-Some-parent_at.ensures

pub returns-in-None : goal.returns-in-None
returns-in-None c =
    let kept = c.args.kept.now.entries in
    let events = (events_of c.args.listed.now) in
    subst (λ (w : List ℕ). Leads kept events c.args.commit w c.in_ok-new-in-None.field-0) (sym c.walk-in-loop-tree.view_is)
    (ends_at_root kept events c.count.ensures.once c.args.commit c.loop-tree.at c.loop-tree.walk c.loop-tree.invariant
    c.requires.there c.push.new.self c.in_ok-new-in-None.field-0 c.in_ok-new-in-None.ensures c.in_ok-push.ensures.ok
    (unkept kept c.number.result c.loop-tree.at c.number.ensures c.in_default.ensures) c.in-None.ensures)

pub loop-tree-init : goal.loop-tree-init
loop-tree-init c =
    subst (λ (w : List ℕ). HasCome c.args.kept.now.entries (events_of c.args.listed.now) c.args.commit w c.args.commit) (sym c.empty-walk.ensures)
    (begins c.args.kept.now.entries (events_of c.args.listed.now) c.count.ensures.once c.args.commit c.requires.there)
