use Rattle.plain_model.specs.Lookups.{is_listed}
use Rattle.event_sets.proofs.LiveLemmas.{live_called, live_marked, live_near, live_numbered, live_passing}
use Rattle.event_sets.proofs.SetLemmas.{live_live, live_part, live_union}
use Rattle.event_sets.proofs.laws.sets_are_live.Goals as goal

pub returns-clause-union : goal.returns-clause-union
returns-clause-union c = live_union

pub returns-clause-common : goal.returns-clause-common
returns-clause-common c = λ es left right live. live_part es (λ id. is_listed id right) left live

pub returns-clause-live : goal.returns-clause-live
returns-clause-live c = live_live

pub returns-clause-numbered : goal.returns-clause-numbered
returns-clause-numbered c = live_numbered

pub returns-clause-marked : goal.returns-clause-marked
returns-clause-marked c = live_marked

pub returns-clause-passing : goal.returns-clause-passing
returns-clause-passing c = λ es test. live_passing test es

pub returns-clause-near : goal.returns-clause-near
returns-clause-near c = live_near

pub returns-clause-called : goal.returns-clause-called
returns-clause-called c = live_called
