use Rattle.mailbox_laws.proofs.Bare.{same_trees}
use Rattle.mailbox_laws.proofs.SoundBare.{below_kept, sound_kept, within_kept}
use Rattle.mailbox_laws.proofs.Wordless.{all_else, words_alike}
use Rattle.mailbox_laws.proofs.laws.other_words_keep_all_else.Goals as goal

pub returns-clause-all_else : goal.returns-clause-all_else
returns-clause-all_else c = all_else

pub returns-clause-trees : goal.returns-clause-trees
returns-clause-trees c = λ old new words. same_trees old new (words_alike old new words)

pub returns-clause-limits : goal.returns-clause-limits
returns-clause-limits c = λ old new words. within_kept old new (words_alike old new words)

pub returns-clause-below : goal.returns-clause-below
returns-clause-below c = λ old new next words. below_kept old new next (words_alike old new words)

pub returns-clause-sound : goal.returns-clause-sound
returns-clause-sound c = λ old new sound words. sound_kept old new sound (words_alike old new words)
