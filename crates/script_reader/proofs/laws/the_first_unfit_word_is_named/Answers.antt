use Rattle.script_reader.proofs.UnfitOptions.{reparent_refused, squash_refused}
use Rattle.script_reader.proofs.UnfitWords.{add_refused}
use Rattle.script_reader.proofs.laws.the_first_unfit_word_is_named.Goals as goal

pub returns-clause-add : goal.returns-clause-add
returns-clause-add c = add_refused

pub returns-clause-squash : goal.returns-clause-squash
returns-clause-squash c = squash_refused

pub returns-clause-reparent : goal.returns-clause-reparent
returns-clause-reparent c = reparent_refused
