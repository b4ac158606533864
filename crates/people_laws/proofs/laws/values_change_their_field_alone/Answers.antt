use Rattle.people_laws.proofs.Valued.{valued_field, valued_other, valued_others}
use Rattle.people_laws.proofs.laws.values_change_their_field_alone.Goals as goal

pub returns-clause-field : goal.returns-clause-field
returns-clause-field c = λ value text set events. valued_field value set events text

pub returns-clause-others : goal.returns-clause-others
returns-clause-others c = valued_others

pub returns-clause-alike : goal.returns-clause-alike
returns-clause-alike c = valued_other
