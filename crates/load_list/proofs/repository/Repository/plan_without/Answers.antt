use Rattle.load_list.proofs.Changing.{planned}
use Rattle.load_list.proofs.repository.Repository.plan_without.Goals as goal

pub returns-clause-plans : goal.returns-clause-plans
returns-clause-plans c = rw (← c.self.view_is) (planned c.self.inside.events _ c.expunge.result _ c.expunge.ensures.plans)
