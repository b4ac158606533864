use Rattle.std.proofs.Common.{◌≡◌, ◌∙◌, false, true, length, sym, ap, arith}
use Rattle.path_move_laws.specs.PathMaps.{image_of, is_torn}
use Rattle.plain_model.specs.Trees.{has}
use Rattle.path_moves.proofs.Known.{delete_along, delete_nothing, delete_there}
use Rattle.path_moves.proofs.shortcuts.is_known_deletion.Goals as goal

pub returns-then-is_some : goal.returns-then-is_some
returns-then-is_some c = λ known.
    let there : has c.args.before.now.tree c.args.path.now ≡ true =
    let a = c.get.ensures in let b = c.is_some.ensures in let d = c.if-is_some.true in grind (arith) in
    delete_there (image_of c.args.map.now) c.args.op.now c.args.before.now.tree c.args.before.now.image c.args.tree.now c.args.tried.now.made c.args.tried.now.op c.requires.paired c.requires.tried c.requires.applied c.args.path.now c.requires.delete there

pub returns-then-len : goal.returns-then-len
returns-then-len c = λ known.
    let same : length c.args.tree.now ≡ length c.args.before.now.tree = let a = c.len.ensures in let b = c.len-2.ensures in let d = c.if-len.true in grind (arith) in
    let same_too : length c.args.tried.now.made ≡ length c.args.before.now.image = let a = c.len-then-len.ensures in let b = c.len-then-len-2.ensures in let d = known in grind (arith) in
    delete_nothing (image_of c.args.map.now) c.args.op.now c.args.before.now.tree c.args.before.now.image c.args.tree.now c.args.tried.now.made c.args.tried.now.op c.requires.paired c.requires.tried c.requires.applied c.args.path.now c.requires.delete same same_too

pub returns : goal.returns
returns c = λ known.
    let whole : is_torn c.args.map.now c.args.path.now ≡ false = sym (c.is_torn.ensures ∙ ap (is_torn c.args.map.now) c.as_bytes.ensures.value) ∙ c.if-is_torn.false in
    delete_along (image_of c.args.map.now) c.args.op.now c.args.before.now.tree c.args.before.now.image c.args.tree.now c.args.tried.now.made c.args.tried.now.op c.requires.paired c.requires.tried c.requires.applied c.args.path.now c.requires.delete
    (c.what_is_below_goes_along.ensures c.args.map.now c.args.path.now whole) (c.has_lost_as_many.ensures known)
