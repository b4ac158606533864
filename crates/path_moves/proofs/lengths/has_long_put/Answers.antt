use Rattle.std.proofs.Common.{◌≡◌, ◌∙◌, ◌+◌, false, true, ◌∷◌, add-one, ap, drop, sym}
use Rattle.std.specs.Prelude.{◌||◌}
use Rattle.std.specs.List.{list_any}
use Rattle.event_arena.proofs.ListLemmas.{drop_item}
use Rattle.path_move_laws.specs.LongPuts.{has_long_put, is_long_put}
use Rattle.path_move_laws.specs.PathMaps.{image_of}
use Rattle.path_move_laws.specs.declared.path_map.PathMap.TheVariants.{Sub}
use Rattle.path_moves.proofs.lengths.has_long_put.Goals as goal

pub returns-then-have_long_put : goal.returns-then-have_long_put
returns-then-have_long_put c =
    let events = c.args.events.now.list in
    let f = image_of (Sub c.args.folder.now) in
    let k = c.loop-place.place in
    let e = c.nth.result.now in
    let own : has_long_put f e ≡ true = sym (c.have_long_put.ensures ∙ ap (list_any (is_long_put f)) c.ops.ensures) ∙ c.if-have_long_put.true in
    let here = drop_item events k e c.nth.ensures.event ∙ ap (λ n. e ∷ drop n events) (sym (add-one k)) in
    sym (sym c.loop-place.invariant ∙ ap (list_any (has_long_put f)) here
    ∙ ap (λ b. b || list_any (has_long_put f) (drop (k + 1) events)) own)

pub loop-place-preserved : goal.loop-place-preserved
loop-place-preserved c =
    let events = c.args.events.now.list in
    let f = image_of (Sub c.args.folder.now) in
    let k = c.loop-place.place in
    let e = c.nth.result.now in
    let none : has_long_put f e ≡ false = sym (c.have_long_put.ensures ∙ ap (list_any (is_long_put f)) c.ops.ensures) ∙ c.if-have_long_put.false in
    let here = drop_item events k e c.nth.ensures.event ∙ ap (λ n. e ∷ drop n events) (sym (add-one k)) in
    sym (ap (λ b. b || list_any (has_long_put f) (drop (k + 1) events)) none) ∙ ap (list_any (has_long_put f)) (sym here) ∙ c.loop-place.invariant
