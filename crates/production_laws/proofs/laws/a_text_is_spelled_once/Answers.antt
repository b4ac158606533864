use Rattle.production_laws.proofs.Unique.{one_list_of_parts, one_list_of_forms}
use Rattle.production_laws.proofs.laws.a_text_is_spelled_once.Goals as goal

pub returns-clause-parts : goal.returns-clause-parts
returns-clause-parts c = λ bytes parts others h g. one_list_of_parts parts others bytes h g

pub returns-clause-forms : goal.returns-clause-forms
returns-clause-forms c = one_list_of_forms
