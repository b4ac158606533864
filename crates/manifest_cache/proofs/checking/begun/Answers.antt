use Rattle.std.proofs.Common.{◌∙◌, sym, ap}
use Rattle.plain_model.specs.Histories.{tree}
use Rattle.manifest_cache.specs.Checking.{begun_of}
use Rattle.manifest_cache.proofs.Lines.{tree_along, tree_line}
use Rattle.manifest_cache.proofs.Prefixes.{found_before, front_same}
use Rattle.manifest_cache.proofs.Sound.{distinct, live_tree}
use Rattle.manifest_cache.proofs.checking.begun.Goals as goal

pub tree_of-requires-2-clause-there : goal.tree_of-requires-2-clause-there
tree_of-requires-2-clause-there c =
    let before = c.args.plan.now.before in
    live_tree before c.in-Some.parent c.old_count.ensures.sound
    (found_before before c.args.plan.now.after (distinct before c.old_count.ensures.sound) c.count.ensures.once c.args.front c.requires.alike c.in-Some.parent (c.is_in_front.ensures c.if-not-is_in_front.false))

pub returns : goal.returns
returns c =
    let before = c.args.plan.now.before in
    let after = c.args.plan.now.after in
    let p = c.in-Some.parent in
    ap (begun_of (tree after)) c.in-Some.is
    ∙ tree_line after p
    ∙ ap tree_along (sym (front_same before after (distinct before c.old_count.ensures.sound) c.count.ensures.once c.args.front c.requires.alike p (c.is_in_front.ensures c.if-not-is_in_front.false)))
    ∙ sym (tree_line before p)
    ∙ c.in_ok-tree.ensures.tree
