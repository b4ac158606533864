use Rattle.std.proofs.Common.{◌≡◌, ◌∙◌, ◌+◌, true, cond, ◌++◌, length, drop, sym, ap, arith, Result, Ok, Err}
use Rattle.std.specs.Prelude.{OnOk}
use Rattle.std.proofs.lemmas.Slice.{between_to_end}
use Rattle.path_move_laws.specs.PathMaps.{image_of}
use Rattle.path_move_laws.specs.declared.path_map.PathMap.{PathMap}
use Rattle.plain_model.specs.Paths.{Bytes, is_below}
use Rattle.path_moves.proofs.Below.{drop_one_more, longer_below}
use Rattle.path_moves.proofs.images.push_image.Goals as goal

on_ok : {A E : Type 0} (r : Result A E) (P Q : Type 0) → (P → Q) → OnOk r P → OnOk r Q
on_ok (Ok x) P Q f h = f h
on_ok (Err e) P Q f h = tt

pub returns-then-is_below : goal.returns-then-is_below
returns-then-is_below c =
    let p = c.args.path.now in
    let d = c.as_bytes-folder.result.now in
    let below : is_below d p ≡ true = sym c.is_below.ensures ∙ c.if-is_below.true in
    let long = longer_below d p below in
    let image : drop 1 (drop (length d) p) ≡ image_of c.args.map.now p =
    sym (ap (λ (m : PathMap). image_of m p) c.in-Sup.is
    ∙ ap (λ (z : Bytes). cond (is_below z p) (drop 1 (drop (length z) p)) p) (sym c.as_bytes-folder.ensures.value)
    ∙ ap (λ b. cond b (drop 1 (drop (length d) p)) p) below) in
    on_ok c.push_all-then-is_below.result _ _
    (λ is. is ∙ ap (λ (b : Bytes). c.args.text.now ++ b) (between_to_end p (length d + 1) (length p) (omega arith) ∙ drop_one_more (length d) p ∙ image))
    c.push_all-then-is_below.ensures.ok
