use Rattle.stream_builder.proofs.Pushed.{on_folded, on_none}
use Rattle.stream_builder.proofs.known.Trees.apply.Goals as goal

pub returns-in_ok-paths-in-Folded : goal.returns-in_ok-paths-in-Folded
returns-in_ok-paths-in-Folded c = λ events parents ops m can.
    on_folded c.args.self.now events parents ops c.args.op.now m c.in-Folded.tree c.apply_to.new.tree c.in_ok-paths-in-Folded.paths c.max-self.result c.in-Folded.is c.in_ok-paths-in-Folded.ensures c.max-self.ensures

pub returns-in-NotFolded : goal.returns-in-NotFolded
returns-in-NotFolded c = λ events parents ops m can.
    on_none c.args.self.now events parents ops c.args.op.now m c.most_after-self.result c.in-NotFolded.is can c.most_after-self.ensures
