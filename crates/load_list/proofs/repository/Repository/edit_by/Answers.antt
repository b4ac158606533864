use Rattle.history_machine.specs.Sessions.{said_by}
use Rattle.load_list.specs.Entries.{made_by}
use Rattle.load_list.proofs.Changing.{carried}
use Rattle.load_list.proofs.repository.Repository.edit_by.Goals as goal
use Rattle.std.proofs.Common.{refl}

pub returns-clause-returns : goal.returns-clause-returns
returns-clause-returns c = λ name.
    carried name c.args.self.now c.args.self.now c.carry_out.new.self (said_by c.args.what c.args.bytes.now) (made_by c.in_ok-plan.plan) refl c.in_ok-plan.ensures.plans
    (c.in_ok-carry_out.ensures.ok name)
