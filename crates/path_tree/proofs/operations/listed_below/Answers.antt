use Rattle.std.proofs.Common.{sym, subst, ◌∙◌, option_map}
use Rattle.plain_model.specs.Paths.{Bytes}
use Rattle.plain_model.specs.Trees.{Tree}
use Rattle.path_tree.specs.Inside.{member_of}
use Rattle.path_tree.specs.Setting.{Finds}
use Rattle.history_laws.specs.SoundTrees.{AllPaths}
use Rattle.path_tree.proofs.Looking.{if_ok}
use Rattle.path_tree.proofs.Suffixes.{subtree_is, subtree_paths}
use Rattle.path_tree.proofs.operations.listed_below.Goals as goal

pub node_list-requires : goal.node_list-requires
node_list-requires c =
    let p = c.args.path.now in
    let old = c.args.root.now in
    let m = option_map member_of c.in_ok-node.node in
    let found = subst (λ (x : Bytes). Finds x m old) c.as_bytes.ensures.value c.in_ok-node.ensures.found in
    subst (λ (t : Tree). AllPaths t) (subtree_is p m old c.requires.form.in_order c.in_ok-node.ensures.fits found) (subtree_paths p old c.requires.paths)

pub returns : goal.returns
returns c =
    let p = c.args.path.now in
    let old = c.args.root.now in
    let m = option_map member_of c.in_ok-node.node in
    let found = subst (λ (x : Bytes). Finds x m old) c.as_bytes.ensures.value c.in_ok-node.ensures.found in
    if_ok c.node_list.result c.node_list.ensures (λ l is. is ∙ sym (subtree_is p m old c.requires.form.in_order c.in_ok-node.ensures.fits found))
