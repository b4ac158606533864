use Rattle.replay_laws.proofs.Replays.{shows_history}
use Rattle.replay_laws.proofs.laws.replay_shows_the_history.Goals as goal

pub returns : goal.returns
returns c = shows_history
