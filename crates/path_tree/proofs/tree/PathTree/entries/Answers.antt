use Rattle.std.proofs.Common.{◌++◌, [], sym, ap, subst, ◌∙◌}
use Rattle.plain_model.specs.Trees.{Tree}
use Rattle.path_tree.specs.Folders.{prefixed}
use Rattle.history_laws.specs.SoundTrees.{AllPaths}
use Rattle.path_tree.proofs.PathEnds.{prefixed_nothing}
use Rattle.path_tree.proofs.tree.PathTree.entries.Goals as goal

pub list-requires : goal.list-requires
list-requires c =
    subst (λ (t : Tree). AllPaths t) (sym (prefixed_nothing c.deref.result.now)) (subst (λ (t : Tree). AllPaths t) (sym c.deref.ensures) c.self.invariant.paths)

pub returns-clause-all : goal.returns-clause-all
returns-clause-all c =
    c.in_ok-list.ensures ∙ ap (λ (l : Tree). l ++ prefixed [] c.deref.result.now) c.empty-list.ensures
    ∙ prefixed_nothing c.deref.result.now ∙ c.deref.ensures ∙ c.self.view_is
