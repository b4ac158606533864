use Rattle.history_machine.proofs.Several.{divides, unites}
use Rattle.history_machine.proofs.laws.several_become_lawful.Goals as goal

pub returns-clause-grafts : goal.returns-clause-grafts
returns-clause-grafts c = λ prune part h. c.a_graft_is_an_edit.ensures prune part.name part.history h.history h.name

pub returns-clause-unites : goal.returns-clause-unites
returns-clause-unites c = λ prune. unites prune (c.a_unite_is_lawful.ensures.lawful prune) (c.a_unite_is_lawful.ensures.several prune)

pub returns-clause-divides : goal.returns-clause-divides
returns-clause-divides c = λ ids.
    divides ids (λ events halves h is. (
      record { sound = c.halves_are_sound.ensures.early ids events halves h.sound is; within = c.halves_keep_the_limits.ensures.early ids events halves h.sound h.within is },
      record { sound = c.halves_are_sound.ensures.late ids events halves h.sound is; within = c.halves_keep_the_limits.ensures.late ids events halves h.sound h.within is },
    ))
