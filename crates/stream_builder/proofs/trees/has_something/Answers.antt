use Rattle.std.proofs.Common.{ap, sym, ◌∙◌, is_some}
use Rattle.stream_builder.proofs.Sources.{file_there}
use Rattle.stream_builder.proofs.trees.has_something.Goals as goal

pub returns-then-is_some : goal.returns-then-is_some
returns-then-is_some c = file_there c.args.path.now c.args.tree.now (ap is_some (sym c.get.ensures) ∙ sym c.is_some.ensures ∙ c.if-is_some.true)
