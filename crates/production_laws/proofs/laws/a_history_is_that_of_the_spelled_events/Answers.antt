use Rattle.production_laws.proofs.Given.{exactly}
use Rattle.production_laws.proofs.UniqueEvents.{one_list_of_events}
use Rattle.production_laws.proofs.laws.a_history_is_that_of_the_spelled_events.Goals as goal

pub returns-clause-exactly : goal.returns-clause-exactly
returns-clause-exactly c = exactly

pub returns-clause-once : goal.returns-clause-once
returns-clause-once c = one_list_of_events
