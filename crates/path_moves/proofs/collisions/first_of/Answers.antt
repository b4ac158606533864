use Rattle.std.proofs.Common.{◌∙◌, List, add-one, ap, subst, sym, take}
use Rattle.plain_model.specs.Paths.{Bytes}
use Rattle.event_arena.proofs.ListLemmas.{take_more}
use Rattle.path_moves.specs.Collisions.{IsLeast}
use Rattle.path_moves.proofs.collisions.first_of.Goals as goal

pub loop-image-preserved : goal.loop-image-preserved
loop-image-preserved c =
    let xs = c.args.images.now in
    let k = c.loop-image.image-index in
    subst (λ (ps : List Bytes). IsLeast xs ps c.in_ok-first.first)
    (sym (ap (λ n. take n xs) (add-one k) ∙ take_more xs k c.image-item.result c.loop-image-test.true c.image-item.is))
    (c.in_ok-first.ensures (take k xs) c.loop-image.invariant)
