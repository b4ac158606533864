use Rattle.std.proofs.Common.{◌∙◌, ap, sym}
use Rattle.plain_model.specs.Trees.{apply}
use Rattle.path_expunge.proofs.replacing.push_replaced.Goals as goal

pub push_way_clear-requires-clause-put : goal.push_way_clear-requires-clause-put
push_way_clear-requires-clause-put c = (
  record { mode = c.in-Modify.mode; content = c.in-Modify.content },
  ap (λ op. apply op c.args.old.now) (sym c.in-Modify.is) ∙ c.requires.applied,
)
