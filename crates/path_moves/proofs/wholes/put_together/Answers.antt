use Rattle.std.proofs.Common.{◌≡◌, ◌∙◌, suc, ◌+◌, [], ◌∷◌, ◌++◌, length, drop, take, le_trans, sym, ap, subst, arith}
use Rattle.path_move_laws.specs.Apart.{AreApart, MayMove}
use Rattle.path_move_laws.specs.Images.{image}
use Rattle.path_move_laws.proofs.Imaged.{image_length}
use Rattle.path_move_laws.specs.MovedOps.{is_path}
use Rattle.path_move_laws.specs.PathMaps.{image_of}
use Rattle.plain_model.specs.Trees.{IsTree, Tree}
use Rattle.path_moves.proofs.Parts.{few_at, long_at, must_be, none_found, one_found, parts_at, there_at, was_put}
use Rattle.path_moves.proofs.wholes.put_together.Goals as goal

pub returns-in_default : goal.returns-in_default
returns-in_default c =
    let f = image_of c.args.map.now in
    let es = c.args.entries.now in
    let e = c.index-entries-place.result in
    c.what_is_no_path_is_too_long.ensures c.args.map.now es e.0 c.has_paths.ensures c.image_path.ensures.form
    (there_at c.loop-place.place es e (omega arith) c.index-entries-place.is)
    (none_found c.in_ok-path.field-0 (is_path (f e.0)) (f e.0) c.in_ok-path.ensures.found c.in_default.not-Some)

pub returns-then-len-place : goal.returns-then-len-place
returns-then-len-place c = λ apart.
    let f = image_of c.args.map.now in
    let es = c.args.entries.now in
    let e = c.index-entries-place.result in
    let k = c.loop-place.place in
    let parts = parts_at k es e (omega arith) c.index-entries-place.is in
    let found = one_found c.in_ok-path.field-0 (is_path (f e.0)) (f e.0) c.in-Some.path c.in_ok-path.ensures.found c.in-Some.is in
    let must = c.an_image_is_put_together.ensures.must f (take k es) e (drop (suc k) es) (subst (λ (t : Tree). IsTree t) parts.0 c.requires.tree)
    (le_trans (few_at k es e (omega arith) c.index-entries-place.is) c.requires.few) c.loop-place.invariant.moves found.0 (subst (λ (t : Tree). AreApart f t) parts.0 apart) in
    let made = must_be f (take k es) e c.loop-place.tree c.apply.new.tree c.in-Some.path found.1 c.loop-place.invariant.image c.in_ok-apply.field-0 c.in_ok-apply.ensures.applied c.in_ok-apply.ensures.refused (image f (take k es ++ e ∷ [])) must.0 in
    let long : length c.apply.new.tree ≡ k + 1 = ap length made ∙ must.1 ∙ ap (λ n. n + 1) (long_at k es (omega arith)) in
    let a = c.len.ensures in let b = c.if-len-place.true in absurd (grind (arith))

pub loop-place-preserved : goal.loop-place-preserved
loop-place-preserved c =
    let f = image_of c.args.map.now in
    let es = c.args.entries.now in
    let e = c.index-entries-place.result in
    let k = c.loop-place.place in
    let parts = parts_at k es e (omega arith) c.index-entries-place.is in
    let found = one_found c.in_ok-path.field-0 (is_path (f e.0)) (f e.0) c.in-Some.path c.in_ok-path.ensures.found c.in-Some.is in
    let front = long_at k es (omega arith) in
    let long : length c.apply.new.tree ≡ length (take k es) + 1 = (let a = c.len.ensures in let b = c.if-len-place.false in grind (arith)) in
    let few = le_trans (few_at k es e (omega arith) c.index-entries-place.is) c.requires.few in
    let m = c.loop-place.invariant.moves in
    let old : length c.loop-place.tree ≡ length (take k es) = ap length c.loop-place.invariant.image ∙ image_length f (take k es) m.form.in_order m.apart in
    let put = was_put f (take k es) e c.loop-place.tree c.apply.new.tree c.in-Some.path found.1 c.loop-place.invariant.image c.in_ok-apply.field-0 c.in_ok-apply.ensures.applied c.in_ok-apply.ensures.same (λ same. absurd (omega arith)) in
    let next = c.an_image_is_put_together.ensures.grows f (take k es) e (drop (suc k) es) c.apply.new.tree (subst (λ (t : Tree). IsTree t) parts.0 c.requires.tree) few m found.0 put long in
    record {
      moves = subst (λ (t : Tree). MayMove f t) (sym parts.1) next.0;
      image = next.1 ∙ ap (image f) (sym parts.1);
    }
