use Rattle.std.proofs.Common.{◌≡◌, ◌∙◌, sym, subst}
use Rattle.plain_model.specs.Trees.{Tree, apply}
use Rattle.path_move_laws.specs.Images.{image}
use Rattle.path_move_laws.specs.MovedOps.{mapped_op, names_paths}
use Rattle.path_move_laws.specs.PathMaps.{image_of}
use Rattle.path_move_laws.specs.Steady.{IsRight}
use Rattle.path_moves.proofs.Known.{found_op, is_ok, leads, same_ok, there_applies, there_right}
use Rattle.path_moves.proofs.moving.change_there.Goals as goal

pub apply_sure-requires-2 : goal.apply_sure-requires-2
apply_sure-requires-2 c =
    let f = image_of c.args.map.now in
    let op = c.args.op.now in
    let found = found_op c.in_ok-mapped.field-0 (names_paths (mapped_op f op)) (mapped_op f op) c.in-Some.mapped c.in_ok-mapped.ensures c.in-Some.is in
    let right = there_right f op c.args.path.now c.args.pair.tree c.args.pair.image c.apply_sure.new.tree c.requires.at c.requires.paired c.in_ok-apply_sure.ensures c.requires.there found.0 in
    is_ok (apply c.in-Some.mapped c.args.pair.image) (image f c.apply_sure.new.tree)
    (there_applies f op c.args.pair.tree c.args.pair.image c.apply_sure.new.tree c.in-Some.mapped c.requires.paired.image found.1 right)

pub returns : goal.returns
returns c =
    let f = image_of c.args.map.now in
    let op = c.args.op.now in
    let found = found_op c.in_ok-mapped.field-0 (names_paths (mapped_op f op)) (mapped_op f op) c.in-Some.mapped c.in_ok-mapped.ensures c.in-Some.is in
    let right = there_right f op c.args.path.now c.args.pair.tree c.args.pair.image c.apply_sure.new.tree c.requires.at c.requires.paired c.in_ok-apply_sure.ensures c.requires.there found.0 in
    let made : c.apply_sure-2.new.tree ≡ image f c.apply_sure.new.tree =
    same_ok c.apply_sure-2.new.tree (image f c.apply_sure.new.tree) (sym c.in_ok-apply_sure-2.ensures
    ∙ there_applies f op c.args.pair.tree c.args.pair.image c.apply_sure.new.tree c.in-Some.mapped c.requires.paired.image found.1 right) in
    leads f op c.args.pair.tree c.apply_sure.new.tree c.apply_sure-2.new.tree c.args.made.now c.push.new.self c.in-Some.mapped c.in_ok-apply_sure.ensures
    (subst (λ (t : Tree). IsRight f op c.args.pair.tree c.apply_sure.new.tree t) (sym made) right) found.1 c.in_ok-push.ensures.ok
