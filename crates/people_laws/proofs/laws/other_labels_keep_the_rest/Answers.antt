use Rattle.mailbox_laws.proofs.Bare.{same_trees}
use Rattle.mailbox_laws.proofs.SoundBare.{below_kept, sound_kept, within_kept}
use Rattle.people_laws.proofs.Labels.{labels_alike, the_rest}
use Rattle.people_laws.proofs.laws.other_labels_keep_the_rest.Goals as goal

pub returns-clause-rest : goal.returns-clause-rest
returns-clause-rest c = λ old new labels. the_rest old new (labels_alike old new labels)

pub returns-clause-trees : goal.returns-clause-trees
returns-clause-trees c = λ old new labels. same_trees old new (labels_alike old new labels)

pub returns-clause-limits : goal.returns-clause-limits
returns-clause-limits c = λ old new labels. within_kept old new (labels_alike old new labels)

pub returns-clause-below : goal.returns-clause-below
returns-clause-below c = λ old new next labels. below_kept old new next (labels_alike old new labels)

pub returns-clause-sound : goal.returns-clause-sound
returns-clause-sound c = λ old new sound labels. sound_kept old new sound (labels_alike old new labels)
