use Rattle.edit_laws.proofs.Edits.{edit_without}
use Rattle.simplify_laws.specs.Simplify.{simplify_of}
use Rattle.simplify_laws.proofs.Kept.{result_below, result_sound, result_within}
use Rattle.simplify_laws.proofs.laws.a_simplify_is_an_edit.Goals as goal

pub returns : goal.returns
returns c = edit_without (λ set events. simplify_of set events) (λ set events new h selection d. (
  record {
    sound = result_sound set events new d h.sound;
    within = result_within set events new d h.within;
  },
  λ next below. result_below set events new d next below,
))
