use Rattle.std.proofs.Common.{◌≡◌, sym, ap, subst, ◌∙◌, List}
use Rattle.std.specs.Prelude.{slice_index_or}
use Rattle.path_tree.specs.Inside.{rows_of, rows_in, blocks_of, AreFilled}
use Rattle.path_tree.proofs.Blocks.{removed_rows, removed_filled, filled_whole, empty_rows, some_rows, Block}
use Rattle.path_tree.proofs.folder.blocks.drop_empty.Goals as goal

pub returns-then-is_empty-clause-rows : goal.returns-then-is_empty-clause-rows
returns-then-is_empty-clause-rows c =
    let bs = c.args.blocks.now.items in
    let i = c.args.index in
    let d = c.index.result.now in
    let block : c.as_slice.result.now ≡ (slice_index_or bs i d).value.items = c.as_slice.ensures.value ∙ ap (λ (v : _). v.items) c.deref.ensures ∙ ap (λ (b : Block). b.value.items) c.index.ensures in
    ap rows_in c.remove.ensures.items
    ∙ removed_rows bs i d c.requires.within (ap rows_of (sym block) ∙ empty_rows c.as_slice.result.now c.if-is_empty.ensures)

pub returns-then-is_empty-clause-filled : goal.returns-then-is_empty-clause-filled
returns-then-is_empty-clause-filled c =
    subst (λ (l : List Block). AreFilled (blocks_of l)) (sym c.remove.ensures.items) (removed_filled c.args.blocks.now.items c.args.index c.requires.filled c.requires.filled_after)

pub returns-else-is_empty-clause-filled : goal.returns-else-is_empty-clause-filled
returns-else-is_empty-clause-filled c =
    let bs = c.args.blocks.now.items in
    let i = c.args.index in
    let d = c.index.result.now in
    let block : c.as_slice.result.now ≡ (slice_index_or bs i d).value.items = c.as_slice.ensures.value ∙ ap (λ (v : _). v.items) c.deref.ensures ∙ ap (λ (b : Block). b.value.items) c.index.ensures in
    filled_whole bs i d (rw block at (some_rows c.as_slice.result.now c.if-is_empty.ensures)) c.requires.filled c.requires.filled_after
