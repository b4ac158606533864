use Rattle.plain_model.specs.Lookups.{event_at, is_listed}
use Rattle.history_laws.proofs.SoundOnce.{sound_once}
use Rattle.event_sets.specs.Sets.{is_live}
use Rattle.event_sets.proofs.OnceLemmas.{once_called, once_near, once_part, once_passing, once_some, once_union}
use Rattle.event_sets.proofs.laws.sets_are_without_repeats.Goals as goal

pub returns-clause-union : goal.returns-clause-union
returns-clause-union c = once_union

pub returns-clause-common : goal.returns-clause-common
returns-clause-common c = λ left right once. once_part (λ id. is_listed id right) left once

pub returns-clause-live : goal.returns-clause-live
returns-clause-live c = λ es ids once. once_part (is_live es) ids once

pub returns-clause-numbered : goal.returns-clause-numbered
returns-clause-numbered c = λ es n. once_some (event_at n es)

pub returns-clause-passing : goal.returns-clause-passing
returns-clause-passing c = λ es sound test. once_passing test es (sound_once es sound).ids

pub returns-clause-near : goal.returns-clause-near
returns-clause-near c = λ es sound n ids once. once_near es n ids (sound_once es sound).ids once

pub returns-clause-called : goal.returns-clause-called
returns-clause-called c = λ es sound function ids. once_called es function ids (sound_once es sound).ids
