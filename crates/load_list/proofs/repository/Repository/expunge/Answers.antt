use Rattle.history_machine.specs.Sessions.{without_paths}
use Rattle.load_list.specs.Entries.{made_by}
use Rattle.load_list.proofs.Changing.{carried}
use Rattle.load_list.proofs.repository.Repository.expunge.Goals as goal

pub returns-clause-returns : goal.returns-clause-returns
returns-clause-returns c = λ name.
    carried name c.args.self.now c.plan_without.new.self c.carry_out.new.self (without_paths c.args.matchers.now) (made_by c.in_ok-plan.plan) c.plan_without.ensures.same c.in_ok-plan.ensures.plans
    (c.in_ok-carry_out.ensures.ok name)
