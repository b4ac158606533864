use Rattle.std.proofs.Common.{subst, sym}
use Rattle.std.proofs.lemmas.Result.{IfOk-weaker}
use Rattle.history_machine.proofs.Selections.{live_once}
use Rattle.selection_eval.specs.Given.{AreNamesOnce}
use Rattle.load_list.proofs.repository.Repository.live_names.Goals as goal

pub returns-clause-once : goal.returns-clause-once
returns-clause-once c =
    IfOk-weaker c.live_copy.result _ AreNamesOnce (λ names is. subst AreNamesOnce (sym is) (live_once c.self.inside.events.list c.self.inside.names c.self.invariant.1)) c.live_copy.ensures
