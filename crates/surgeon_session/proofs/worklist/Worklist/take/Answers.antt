use Rattle.surgeon_session.proofs.Waiting.{next_of_script}
use Rattle.surgeon_session.proofs.worklist.Worklist.take.Goals as goal

pub returns-in-None : goal.returns-in-None
returns-in-None c =
    rw (← c.self.view_is) (next_of_script c.take_written.result c.self.inside.script.items c.take_written.new.script.items c.self.inside.current c.take_called.new.current
    c.self.inside.around.items c.take_called.new.around.items c.in-None.ensures c.take_written.ensures)
