use Rattle.production_laws.proofs.Either as either
use Rattle.production_laws.proofs.laws.a_text_is_a_stream_or_has_a_defect.Goals as goal

pub returns-clause-either : goal.returns-clause-either
returns-clause-either c = either.stream_or_defect c.what_is_no_history_has_a_first_defect.ensures.either

pub returns-clause-not_both : goal.returns-clause-not_both
returns-clause-not_both c = either.not_both c.what_is_no_history_has_a_first_defect.ensures.either

pub returns-clause-history : goal.returns-clause-history
returns-clause-history c = either.one_history

pub returns-clause-defect : goal.returns-clause-defect
returns-clause-defect c = either.one_defect
