use Rattle.history_machine.proofs.Selections.{live_once}
use Rattle.load_list.proofs.repository.Repository.carry_out.Goals as goal

pub invariant_of-self-2 : goal.invariant_of-self-2
invariant_of-self-2 c = (
  rw c.carry_out.ensures.list c.follow.ensures.agrees,
  rw c.keep_live.ensures (live_once c.carry_out.new.self.list c.self.inside.names c.self.invariant.1),
)
