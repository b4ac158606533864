use Rattle.std.proofs.Common.{◌∙◌, ◌++◌, ◌∷◌, [], Some, sym, ap, subst}
use Rattle.plain_model.specs.Paths.{Bytes}
use Rattle.path_moves.specs.Collisions.{IsLeast, collides_in, is_before}
use Rattle.path_moves.proofs.Meeting.{least_next, least_passes, least_stays}
use Rattle.path_moves.proofs.collisions.first_with.Goals as goal
use Rattle.path_moves.proofs.collisions.first_with.Goals.{else-is_before-via-then-is_before+else-collides, else-is_before-via-else-is_before}

pub returns-then-collides : goal.returns-then-collides
returns-then-collides c = λ looked least.
    let images = c.args.images.now in
    let image = c.args.image.now in
    subst (λ (p : Bytes). IsLeast images (looked ++ image ∷ []) (Some p)) (sym c.in_ok-copy.ensures)
    (least_next images looked image c.args.first
    (sym (c.is_before.ensures ∙ ap (λ p. is_before p c.args.first) c.as_slice.ensures) ∙ c.if-is_before.true)
    (sym (c.collides.ensures ∙ ap (collides_in images) c.as_slice-then-is_before.ensures) ∙ c.if-collides.true) least)

pub returns : goal.returns
returns c = λ looked least. elim c.else-is_before.branch [
  | else-is_before-via-then-is_before+else-collides w ↦
      least_passes c.args.images.now looked c.args.image.now c.args.first
      (sym (w.collides.ensures ∙ ap (collides_in c.args.images.now) w.as_slice-then-is_before.ensures) ∙ w.if-collides.false) least
  | else-is_before-via-else-is_before w ↦
      least_stays c.args.images.now looked c.args.image.now c.args.first
      (sym (c.is_before.ensures ∙ ap (λ p. is_before p c.args.first) c.as_slice.ensures) ∙ w.if-is_before.false) least
]
