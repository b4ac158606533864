use Rattle.edit_laws.proofs.Edits.{edit_without}
use Rattle.path_move_laws.specs.Moves.{paths_moved}
use Rattle.path_move_laws.specs.PathMaps.{image_of}
use Rattle.path_move_laws.proofs.MapLaws.{keeps_paths}
use Rattle.path_move_laws.proofs.Whole.{moved_limits, new_sound, still_below}
use Rattle.path_move_laws.proofs.laws.a_move_is_an_edit.Goals as goal

pub returns : goal.returns
returns c how p = edit_without (λ set events. paths_moved (image_of how) events) (λ set events new h selection d. (
  record {
    sound = new_sound (image_of how) events new d (keeps_paths how p) h.sound;
    within = moved_limits (image_of how) events new d;
  },
  λ next below. still_below (image_of how) events new d next below,
))
