use Rattle.plain_model.specs.Lookups.{is_listed}
use Rattle.event_sets.proofs.BitLemmas.{picks_passing}
use Rattle.event_sets.proofs.SetLemmas.{listed_part, listed_rest, listed_union}
use Rattle.event_sets.proofs.laws.bits_stand_for_lists.Goals as goal

pub returns-clause-test : goal.returns-clause-test
returns-clause-test c = picks_passing

pub returns-clause-either : goal.returns-clause-either
returns-clause-either c = listed_union

pub returns-clause-both : goal.returns-clause-both
returns-clause-both c = λ id left right. listed_part id (λ x. is_listed x right) left

pub returns-clause-others : goal.returns-clause-others
returns-clause-others c = listed_rest
