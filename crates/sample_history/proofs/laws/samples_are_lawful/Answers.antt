use Rattle.sample_history.proofs.Fronts.{sample_aliases_few, sample_events_few, sample_ops_few, sample_sound}
use Rattle.sample_history.proofs.laws.samples_are_lawful.Goals as goal

pub returns-clause-sound : goal.returns-clause-sound
returns-clause-sound c = sample_sound

pub returns-clause-few_events : goal.returns-clause-few_events
returns-clause-few_events c = sample_events_few

pub returns-clause-few_operations : goal.returns-clause-few_operations
returns-clause-few_operations c = sample_ops_few

pub returns-clause-few_aliases : goal.returns-clause-few_aliases
returns-clause-few_aliases c = sample_aliases_few
