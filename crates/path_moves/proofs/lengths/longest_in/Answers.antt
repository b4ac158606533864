use Rattle.std.proofs.Common.{◌∙◌, ◌+◌, ◌∷◌, add-one, ap, drop, sym}
use Rattle.event_arena.proofs.ListLemmas.{drop_item}
use Rattle.path_move_laws.specs.Lengths.{longest_after_all, longest_in}
use Rattle.path_moves.proofs.lengths.longest_in.Goals as goal

pub loop-place-preserved : goal.loop-place-preserved
loop-place-preserved c =
    let events = c.args.events.now.list in
    let k = c.loop-place.place in
    let e = c.nth.result.now in
    let here = drop_item events k e c.nth.ensures.event ∙ ap (λ n. e ∷ drop n events) (sym (add-one k)) in
    ap (λ n. longest_in n (drop (k + 1) events)) (c.in_ok-most.ensures ∙ ap (longest_after_all c.loop-place.most) c.ops.ensures)
    ∙ ap (longest_in c.loop-place.most) (sym here)
    ∙ c.loop-place.invariant
