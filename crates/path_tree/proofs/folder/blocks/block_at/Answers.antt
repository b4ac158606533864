use Rattle.std.proofs.Common.{ap, ◌∙◌}
use Rattle.path_tree.proofs.Blocks.{around_at, Block}
use Rattle.path_tree.proofs.folder.blocks.block_at.Goals as goal

pub returns-in-Some : goal.returns-in-Some
returns-in-Some c =
    around_at c.args.key.now c.args.children.now c.in-Some.index c.index.result.now c.as_slice-in-Some.result.now c.in-Some.ensures
    (c.as_slice-in-Some.ensures.value ∙ ap (λ (v : _). v.items) c.deref.ensures ∙ ap (λ (b : Block). b.value.items) c.index.ensures)
