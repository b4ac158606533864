use Rattle.edit_laws.proofs.Edits.{edit_without}
use Rattle.expunge_laws.specs.Expunged.{expunge_of}
use Rattle.expunge_laws.proofs.Whole.{expunge_below, expunge_limits, expunge_sound}
use Rattle.expunge_laws.proofs.laws.an_expunge_is_an_edit.Goals as goal

pub returns : goal.returns
returns c matched = edit_without (λ set events. expunge_of matched events) (λ set events new h selection d. (
  record { sound = expunge_sound matched events h.sound new d; within = expunge_limits matched events h.sound new d },
  λ next below. expunge_below matched events h.sound new d next below,
))
