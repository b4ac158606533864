use Rattle.macro_lines.proofs.MacroSteps.{defined}
use Rattle.macro_lines.proofs.macros.Macros.define.Goals as goal

pub returns-clause-ok : goal.returns-clause-ok
returns-clause-ok c =
    rw (c.in_ok-insert.ensures.entries, ← c.self.view_is, ← c.into_items.ensures, ← c.in_ok-body.ensures)
    (defined c.into_items.result c.in_ok-body.body c.self.inside.by_name.entries)
