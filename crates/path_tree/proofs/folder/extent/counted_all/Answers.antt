use Rattle.std.proofs.Common.{sym, ap, subst, ◌∙◌, List}
use Rattle.path_tree.specs.declared.folder.Child.{Child}
use Rattle.path_tree.specs.Falls.{append_fit}
use Rattle.path_tree.specs.Folders.{flat, AllFit}
use Rattle.path_tree.specs.Inside.{rows_of, rows_in, extent_of}
use Rattle.path_tree.proofs.Blocks.{Block}
use Rattle.path_tree.proofs.Measures.{flat_append}
use Rattle.path_tree.proofs.folder.extent.counted_all.Goals as goal

pub counted-requires : goal.counted-requires
counted-requires c =
    let cs = c.args.children.now in
    subst (λ (l : List Child). AllFit (rows_of l)) (sym c.as_slice.ensures.value) (append_fit (rows_of cs.first.items) (rows_in cs.rest.items) c.requires).0

pub counted_blocks-requires : goal.counted_blocks-requires
counted_blocks-requires c =
    let cs = c.args.children.now in
    subst (λ (l : List Block). AllFit (rows_in l)) (sym c.as_slice-2.ensures.value) (append_fit (rows_of cs.first.items) (rows_in cs.rest.items) c.requires).1

pub returns : goal.returns
returns c =
    let cs = c.args.children.now in
    c.joined.ensures (flat (rows_of cs.first.items)) (flat (rows_in cs.rest.items))
    (c.counted.ensures ∙ ap (λ (l : List Child). extent_of (flat (rows_of l))) c.as_slice.ensures.value)
    (c.counted_blocks.ensures ∙ ap (λ (l : List Block). extent_of (flat (rows_in l))) c.as_slice-2.ensures.value)
    ∙ ap extent_of (sym (flat_append (rows_of cs.first.items) (rows_in cs.rest.items)))
