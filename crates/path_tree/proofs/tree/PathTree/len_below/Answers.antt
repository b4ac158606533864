use Rattle.std.proofs.Common.{◌≡◌, ◌∙◌, ap, length, arith}
use Rattle.plain_model.specs.Paths.{is_at_or_below}
use Rattle.plain_model.specs.Trees.{Tree, subtree}
use Rattle.path_tree.specs.Inside.{bounded}
use Rattle.history_laws.proofs.TreeMaps.{length_where}
use Rattle.path_tree.proofs.tree.PathTree.len_below.Goals as goal

pub returns : goal.returns
returns c =
    let p = c.args.path.now in
    let tree = c.args.self.now in
    let fewer = length_where (is_at_or_below p) tree in
    let few = c.self.invariant.few in
    let whole : length c.self.inside.root.value ≡ length tree = ap length c.self.view_is in
    let small : bounded (length (subtree p tree)) ≡ length (subtree p tree) = omega arith in
    c.in_ok-count.ensures ∙ ap (λ (t : Tree). bounded (length (subtree p t))) (c.deref.ensures ∙ c.self.view_is) ∙ small
