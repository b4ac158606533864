use Rattle.history_machine.proofs.Selections.{selection_of}
use Rattle.history_machine.specs.Sessions.{remade}
use Rattle.load_list.specs.Entries.{made_by}
use Rattle.load_list.proofs.Changing.{carried}
use Rattle.load_list.proofs.repository.Repository.edit.Goals as goal

pub plan_of-requires : goal.plan_of-requires
plan_of-requires c = record { selection = selection_of c.args.self.now.history c.args.ids.now c.requires.once c.requires.live }

pub returns-clause-returns : goal.returns-clause-returns
returns-clause-returns c = λ name.
    carried name c.args.self.now c.plan_of.new.self c.carry_out.new.self (remade c.args.what.now c.args.ids.now) (made_by c.in_ok-plan.plan) c.plan_of.ensures.same c.in_ok-plan.ensures.plans
    (c.in_ok-carry_out.ensures.ok name)
