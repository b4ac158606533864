use Rattle.std.proofs.Common.{rules, ◌≡◌, ◌∷◌, ◌++◌, [], ◌+◌, List, take, refl, sym, ap, ◌∙◌}
use Rattle.std.proofs.lemmas.List.{take_more, take_all}
use Rattle.plain_model.specs.Trees.{TreeOf}
use Rattle.path_tree.specs.Folders.{Member}
use Rattle.path_tree.specs.Inside.{blocks_of}
use Rattle.path_tree.proofs.Blocks.{blocks_append, rows_at}
use Rattle.path_tree.proofs.folder.blocks.shared_blocks.Goals as goal

pub loop-block-init : goal.loop-block-init
loop-block-init c = rw c.in_ok-shared.ensures.items refl

pub loop-block-preserved : goal.loop-block-preserved
loop-block-preserved c =
    let items = c.args.blocks.now in
    let before = take c.loop-block.block-index items in
    let block = c.block-item.result in
    let copy = c.in_ok-block.block in
    let front : take (c.loop-block.block-index + 1) items ≡ before ++ block ∷ [] = search (rules, take_more) in
    let same : rows_at copy ≡ rows_at block = search rules in
    ap blocks_of c.in_ok-push.ensures.items
    ∙ blocks_append c.loop-block.shared.items (copy ∷ [])
    ∙ ap (λ (l : List (TreeOf Member)). l ++ rows_at copy ∷ []) c.loop-block.invariant
    ∙ ap (λ (r : TreeOf Member). blocks_of before ++ r ∷ []) same
    ∙ sym (blocks_append before (block ∷ []))
    ∙ ap blocks_of (sym front)

pub returns : goal.returns
returns c = c.loop-block.invariant ∙ ap blocks_of (take_all c.loop-block.block-index c.args.blocks.now c.loop-block-test.false)
