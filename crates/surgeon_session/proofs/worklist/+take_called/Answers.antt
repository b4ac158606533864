use Rattle.std.proofs.Common.{List, subst, sym}
use Rattle.history_machine.specs.declared.waiting.Waiting.{Waiting}
use Rattle.surgeon_session.specs.Stacks.{from_last}
use Rattle.surgeon_session.specs.Waits.{IsNext}
use Rattle.surgeon_session.proofs.Waiting.{popped_first}
use Rattle.surgeon_session.proofs.worklist.+take_called.Goals as goal

pub returns-in-Some-pop : goal.returns-in-Some-pop
returns-in-Some-pop t c =
    rw (popped_first c.args.current.now c.in-Some-pop.frame c.pop.new.self.items c.args.around.now.items c.in_default.ensures.0 c.in-Some-pop.ensures.items) c.take_called.ensures
