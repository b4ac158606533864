use Rattle.std.proofs.Common.{sym, ap, subst, ◌∙◌, length, option_map}
use Rattle.plain_model.specs.Paths.{Bytes}
use Rattle.path_tree.specs.Inside.{bounded, member_of}
use Rattle.path_tree.specs.Setting.{Finds, suffixes}
use Rattle.path_tree.proofs.Measures.{length_prefixed}
use Rattle.path_tree.proofs.Suffixes.{subtree_is}
use Rattle.path_tree.proofs.operations.counted_below.Goals as goal

pub returns : goal.returns
returns c =
    let p = c.args.path.now in
    let old = c.args.root.now in
    let m = option_map member_of c.in_ok-node.node in
    let found = subst (λ (x : Bytes). Finds x m old) c.as_bytes.ensures.value c.in_ok-node.ensures.found in
    c.node_count.ensures
    ∙ ap bounded (sym (length_prefixed p (suffixes m)) ∙ ap length (sym (subtree_is p m old c.requires.in_order c.in_ok-node.ensures.fits found)))
