use Rattle.people_laws.proofs.Put.{put_sound}
use Rattle.people_laws.proofs.laws.authors_keep_soundness.Goals as goal

pub returns : goal.returns
returns c = λ bytes events new sound done. put_sound bytes events new done sound
