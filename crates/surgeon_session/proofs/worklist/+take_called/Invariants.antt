use Rattle.std.proofs.Common.{length}
use Rattle.surgeon_session.proofs.worklist.+take_called.Given as goal

abbrev pub decreases-take_called : goal.decreases-take_called
decreases-take_called l = length l.around.now.items
