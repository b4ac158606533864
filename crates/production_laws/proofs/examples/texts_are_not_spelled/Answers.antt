use Rattle.std.proofs.Common.{refl}
use Rattle.plain_model.specs.Fields.{data_text, extent_in}
use Rattle.plain_model.specs.Parts.{number_of}
use Rattle.production_laws.proofs.Spelled.{refused_is_not_spelled, missed_is_not_spelled}
use Rattle.production_laws.proofs.examples.texts_are_not_spelled.Goals as goal

pub returns-clause-no_data : goal.returns-clause-no_data
unfolding extent_in data_text number_of
returns-clause-no_data c = missed_is_not_spelled _ _ refl

pub returns-clause-late_mark : goal.returns-clause-late_mark
unfolding extent_in data_text number_of
returns-clause-late_mark c = refused_is_not_spelled _ _ _ refl

pub returns-clause-two_authors : goal.returns-clause-two_authors
unfolding extent_in data_text number_of
returns-clause-two_authors c = refused_is_not_spelled _ _ _ refl

pub returns-clause-from_after_merge : goal.returns-clause-from_after_merge
unfolding extent_in data_text number_of
returns-clause-from_after_merge c = refused_is_not_spelled _ _ _ refl

pub returns-clause-late_tagger : goal.returns-clause-late_tagger
unfolding extent_in data_text number_of
returns-clause-late_tagger c = refused_is_not_spelled _ _ _ refl

pub returns-clause-two_targets : goal.returns-clause-two_targets
unfolding extent_in data_text number_of
returns-clause-two_targets c = refused_is_not_spelled _ _ _ refl

pub returns-clause-no_done : goal.returns-clause-no_done
unfolding extent_in data_text number_of
returns-clause-no_done c = missed_is_not_spelled _ _ refl

pub returns-clause-cut_block : goal.returns-clause-cut_block
unfolding extent_in data_text number_of
returns-clause-cut_block c = missed_is_not_spelled _ _ refl
