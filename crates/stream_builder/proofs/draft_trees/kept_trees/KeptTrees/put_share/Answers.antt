use Rattle.std.proofs.Common.{Some, ap, sym, ◌∙◌}
use Rattle.stream_builder.proofs.draft_trees.kept_trees.KeptTrees.put_share.Goals as goal

pub returns-in-Ok : goal.returns-in-Ok
returns-in-Ok c = λ events earlier own. c.put.ensures events earlier (own.0 ∙ c.in-Some.is ∙ ap Some (sym c.in-Ok.ensures), own.1)
