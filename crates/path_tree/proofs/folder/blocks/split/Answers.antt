use Rattle.std.proofs.Common.{◌≡◌, ◌+◌, ◌++◌, ◌<◌, take, drop, length, sym, ap, subst, ◌∙◌, List, arith}
use Rattle.std.specs.Prelude.{slice_index_or, slice_set}
use Rattle.plain_model.specs.Trees.{TreeOf}
use Rattle.path_tree.specs.declared.folder.Child.{Child}
use Rattle.path_tree.specs.Folders.{Member}
use Rattle.path_tree.specs.Inside.{rows_of, rows_in, blocks_of, AreFilled}
use Rattle.path_tree.proofs.Searching.{place_rows}
use Rattle.path_tree.proofs.Blocks.{split_rows, split_filled, long_rows, long_front, block_at, rows_at, Block}
use Rattle.path_tree.proofs.folder.blocks.split.Goals as goal

pub returns-clause-rows : goal.returns-clause-rows
returns-clause-rows c =
    let bs = c.args.blocks.now.items in
    let i = c.args.index in
    let d = c.index.result.now in
    let first = c.in_ok-first.first in
    let last = c.in_ok-last.last in
    let block : c.as_slice-block.result.now ≡ (slice_index_or bs i d).value.items =
    c.as_slice-block.ensures.value ∙ ap (λ (v : _). v.items) c.deref.ensures ∙ ap (λ (b : Block). b.value.items) c.index.ensures in
    let front : rows_at first ≡ rows_of (take 16 (slice_index_or bs i d).value.items) =
    ap (λ (v : _). rows_of v.items) c.in_ok-first.ensures.ok ∙ c.in_ok-shared.ensures ∙ ap rows_of c.split_at.ensures.front ∙ ap (λ (l : List Child). rows_of (take 16 l)) block in
    let back : rows_at last ≡ rows_of (drop 16 (slice_index_or bs i d).value.items) =
    ap (λ (v : _). rows_of v.items) c.in_ok-last.ensures.ok ∙ c.in_ok-shared-2.ensures ∙ ap rows_of c.split_at.ensures.back ∙ ap (λ (l : List Child). rows_of (drop 16 l)) block in
    let both : rows_at first ++ rows_at last ≡ rows_at (slice_index_or bs i d) =
    ap (λ (l : TreeOf Member). l ++ rows_at last) front ∙ ap (λ (l : TreeOf Member). rows_of (take 16 (slice_index_or bs i d).value.items) ++ l) back
    ∙ sym (place_rows (slice_index_or bs i d).value.items 16) in
    ap (λ (l : List Block). rows_in (slice_set l i first)) c.in_ok-insert.ensures.items
    ∙ split_rows bs i first last c.requires.within
    ∙ ap (λ (l : TreeOf Member). rows_in (take i bs) ++ (l ++ rows_in (drop (i + 1) bs))) both
    ∙ sym (block_at bs i d c.requires.within)

pub returns-clause-filled : goal.returns-clause-filled
returns-clause-filled c =
    let bs = c.args.blocks.now.items in
    let i = c.args.index in
    let d = c.index.result.now in
    let first = c.in_ok-first.first in
    let last = c.in_ok-last.last in
    let whole = c.as_slice-block.result.now in
    let front : rows_at first ≡ rows_of (take 16 whole) = ap (λ (v : _). rows_of v.items) c.in_ok-first.ensures.ok ∙ c.in_ok-shared.ensures ∙ ap rows_of c.split_at.ensures.front in
    let back : rows_at last ≡ rows_of (drop 16 whole) = ap (λ (v : _). rows_of v.items) c.in_ok-last.ensures.ok ∙ c.in_ok-shared-2.ensures ∙ ap rows_of c.split_at.ensures.back in
    let long : 16 < length whole = omega arith in
    subst (λ (l : List Block). AreFilled (blocks_of (slice_set l i first))) (sym c.in_ok-insert.ensures.items)
    (split_filled bs i first last c.requires.within c.requires.filled (long_front whole 16 (rows_at first) long (omega arith) front) (long_rows whole 16 (rows_at last) long back))
