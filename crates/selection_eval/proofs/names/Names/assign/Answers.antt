use Rattle.selection_eval.proofs.NameSteps.{added}
use Rattle.selection_eval.proofs.names.Names.assign.Goals as goal

pub returns-clause-ok : goal.returns-clause-ok
returns-clause-ok c =
    rw (c.in_ok-insert.ensures.entries, ← c.self.view_is, ← c.into_items.ensures, ← c.into_items-2.ensures)
    (added c.into_items.result c.into_items-2.result c.self.inside.by_name.entries
    (rw (c.into_items.ensures, c.self.view_is) c.requires))
