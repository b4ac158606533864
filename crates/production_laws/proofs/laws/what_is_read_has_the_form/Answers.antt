use Rattle.production_laws.proofs.Spelled.{read_is_spelled, history_is_spelled, clean_is_spelled}
use Rattle.production_laws.proofs.laws.what_is_read_has_the_form.Goals as goal

pub returns-clause-form : goal.returns-clause-form
returns-clause-form c = read_is_spelled

pub returns-clause-history : goal.returns-clause-history
returns-clause-history c = history_is_spelled

pub returns-clause-clean : goal.returns-clause-clean
returns-clause-clean c = clean_is_spelled
