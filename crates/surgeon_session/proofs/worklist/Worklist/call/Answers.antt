use Rattle.surgeon_session.proofs.Waiting.{called_first}
use Rattle.surgeon_session.proofs.worklist.Worklist.call.Goals as goal

pub returns : goal.returns
returns c =
    let inside = c.self.inside in
    rw (← c.self.view_is, ← c.new.ensures, ← c.replace-around.ensures.after)
    (called_first c.replace-around.new.dest inside.current c.replace-around.result inside.around.items c.push.new.self.items inside.script.items c.replace-around.ensures.value c.in_ok-push.ensures.items)
