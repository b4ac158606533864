use Rattle.std.proofs.Common.{rules, ◌≡◌, ◌∷◌, ◌++◌, [], ◌+◌, take, drop, refl, sym, ap, subst, ◌∙◌, List}
use Rattle.std.proofs.lemmas.List.{take_more, drop_more, take_all}
use Rattle.path_tree.specs.declared.folder.Child.{Child}
use Rattle.path_tree.specs.Falls.{append_fit}
use Rattle.path_tree.specs.Folders.{flat, AllFit}
use Rattle.path_tree.specs.Inside.{rows_of, rows_in, extent_of}
use Rattle.path_tree.proofs.Blocks.{blocks_push, rows_at, Block}
use Rattle.path_tree.proofs.folder.extent.counted_blocks.Goals as goal

pub loop-block-init : goal.loop-block-init
loop-block-init c = record { extent = refl; fit = c.requires }

pub counted-requires : goal.counted-requires
counted-requires c =
    let items = c.args.blocks.now in
    let rest = drop (c.loop-block.block-index + 1) items in
    let block = c.block-item.result in
    let more : drop c.loop-block.block-index items ≡ block ∷ rest = search (rules, drop_more) in
    let slice : c.as_slice.result.now ≡ block.value.items = c.as_slice.ensures.value ∙ ap (λ (v : _). v.items) c.deref.ensures in
    subst (λ (l : List Child). AllFit (rows_of l)) (sym slice)
    (append_fit (rows_at block) (rows_in rest) (subst (λ (l : List Block). AllFit (rows_in l)) more c.loop-block.invariant.fit)).0

pub loop-block-preserved : goal.loop-block-preserved
loop-block-preserved c =
    let items = c.args.blocks.now in
    let before = take c.loop-block.block-index items in
    let rest = drop (c.loop-block.block-index + 1) items in
    let block = c.block-item.result in
    let front : take (c.loop-block.block-index + 1) items ≡ before ++ block ∷ [] = search (rules, take_more) in
    let more : drop c.loop-block.block-index items ≡ block ∷ rest = search (rules, drop_more) in
    let slice : c.as_slice.result.now ≡ block.value.items = c.as_slice.ensures.value ∙ ap (λ (v : _). v.items) c.deref.ensures in
    record {
      extent =
          c.joined-extent.ensures (flat (rows_in before)) (flat (rows_at block)) c.loop-block.invariant.extent
          (c.counted.ensures ∙ ap (λ (l : List Child). extent_of (flat (rows_of l))) slice)
          ∙ ap extent_of (sym (blocks_push before block) ∙ ap (λ (l : List Block). flat (rows_in l)) (sym front));
      fit = (append_fit (rows_at block) (rows_in rest) (subst (λ (l : List Block). AllFit (rows_in l)) more c.loop-block.invariant.fit)).1;
    }

pub returns : goal.returns
returns c =
    c.loop-block.invariant.extent
    ∙ ap (λ (l : List Block). extent_of (flat (rows_in l))) (take_all c.loop-block.block-index c.args.blocks.now c.loop-block-test.false)
