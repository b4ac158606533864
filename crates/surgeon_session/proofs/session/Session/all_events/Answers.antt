use Rattle.history_machine.specs.Sessions.{chosen}
use Rattle.history_machine.proofs.Selections.{all_live}
use Rattle.surgeon_session.proofs.session.Session.all_events.Goals as goal

pub returns-clause-live : goal.returns-clause-live
unfolding chosen
returns-clause-live c =
    rw (← c.self.view_is, c.in_ok-repository.ensures, c.of_events.ensures, c.in_ok-ids.ensures, c.events-2.ensures) (all_live c.in_ok-repository.repository.now.history)
