use Rattle.std.proofs.Common.{◌≡◌, sym, ap, subst, ◌∙◌, cond}
use Rattle.plain_model.specs.Trees.{Tree, without}
use Rattle.path_tree.specs.PathMaps.{IsInOrder}
use Rattle.path_tree.proofs.Suffixes.{removed_is}
use Rattle.path_tree.proofs.operations.base.Goals as goal

pub returns : goal.returns
returns c =
    let old = c.args.root.now.value in
    let source = c.args.source.now in
    let made = c.in_ok-made.made.value in
    let is : made ≡ old = c.in_ok-made.ensures in
    sym (removed_is source made c.set_shared.new.folder.value
    (subst (λ (t : Tree). IsInOrder t) (sym is) c.requires.order) c.in_ok-set_shared.ensures.order c.in_ok-set_shared.ensures.places)
    ∙ ap (λ (t : Tree). without source t) is
    ∙ ap (λ b. cond b old (without source old)) (sym c.if-keep.false)
