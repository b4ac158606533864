use Rattle.std.proofs.Common.{◌∙◌, List, subst}
use Rattle.plain_model.specs.Paths.{Bytes}
use Rattle.path_move_laws.specs.PathMaps.{image_of}
use Rattle.std.proofs.lemmas.Result.{IfOk-weaker}
use Rattle.path_moves.specs.Collisions.{IsLeast}
use Rattle.path_moves.proofs.Meeting.{least_is}
use Rattle.path_moves.proofs.collisions.collision.Goals as goal

pub returns : goal.returns
returns c =
    IfOk-weaker c.first_of.result _ _ (λ found least.
    least_is (image_of c.args.map.now) c.args.entries.now found
    (subst (λ (ps : List Bytes). IsLeast ps ps found) (c.as_slice.ensures.value ∙ c.in_ok-images.ensures) least)) c.first_of.ensures
