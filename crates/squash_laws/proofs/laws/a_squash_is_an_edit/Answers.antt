use Rattle.edit_laws.proofs.Edits.{edit_without}
use Rattle.squash_laws.specs.Squash.{squash_of}
use Rattle.squash_laws.proofs.Added.{still_below}
use Rattle.squash_laws.proofs.Done.{done_limits, done_sound}
use Rattle.squash_laws.proofs.laws.a_squash_is_an_edit.Goals as goal

pub returns : goal.returns
returns c how = edit_without (λ set events. squash_of how set events) (λ set events new h selection d. (
  record {
    sound = done_sound how set events new h.sound d;
    within = done_limits how set events new h.sound d;
  },
  λ next below. still_below how set events new h.sound d next below,
))
