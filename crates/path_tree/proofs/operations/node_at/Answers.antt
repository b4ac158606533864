use Rattle.std.proofs.Common.{sym, ◌∙◌}
use Rattle.path_tree.proofs.Suffixes.{finds_file}
use Rattle.path_tree.proofs.operations.node_at.Goals as goal

pub returns-in-Some-clause-found : goal.returns-in-Some-clause-found
returns-in-Some-clause-found c = finds_file c.args.path.now c.in-Some.entry c.args.root.now c.requires (sym c.get.ensures ∙ c.in-Some.is)
