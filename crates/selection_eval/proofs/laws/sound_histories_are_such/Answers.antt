use Rattle.selection_eval.proofs.SoundLaws.{sound_ids, sound_tips}
use Rattle.selection_eval.proofs.laws.sound_histories_are_such.Goals as goal

pub returns-clause-ids : goal.returns-clause-ids
returns-clause-ids c = sound_ids

pub returns-clause-tips : goal.returns-clause-tips
returns-clause-tips c = sound_tips
