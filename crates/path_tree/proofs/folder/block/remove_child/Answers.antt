use Rattle.std.proofs.Common.{refl, ap, subst, ◌∙◌, List, None}
use Rattle.path_tree.specs.declared.folder.Child.{Child}
use Rattle.path_tree.specs.Inside.{rows_of, row_tree, extent_of}
use Rattle.path_tree.specs.Rows.{IsFound, IsPlace}
use Rattle.path_tree.proofs.Searching.{place_rows}
use Rattle.path_tree.proofs.Exchanges.{found_exchange, place_exchange, rows_removed, fits_index}
use Rattle.path_tree.proofs.folder.block.remove_child.Goals as goal

pub child_extent-gone-requires : goal.child_extent-gone-requires
child_extent-gone-requires c =
    let found = subst (λ (l : List Child). IsFound c.args.key.now l c.in-Ok.index) c.as_slice.ensures.value c.in-Ok.ensures.found in
    rw c.index.ensures (fits_index c.args.children.now.items c.in-Ok.index c.index.result.now found.within c.requires.all_fit)

pub returns-in-Ok : goal.returns-in-Ok
returns-in-Ok c =
    let cs = c.args.children.now.items in
    let found = subst (λ (l : List Child). IsFound c.args.key.now l c.in-Ok.index) c.as_slice.ensures.value c.in-Ok.ensures.found in
    found_exchange c.args.key.now cs c.in-Ok.index c.index.result.now None _ _ c.requires.in_order found
    (c.child_extent-gone.ensures ∙ ap (λ (x : Child). extent_of (row_tree x)) c.index.ensures)
    refl
    (ap rows_of c.remove.ensures.items ∙ rows_removed cs c.in-Ok.index)

pub returns-in-Err : goal.returns-in-Err
returns-in-Err c =
    let cs = c.args.children.now.items in
    let place = subst (λ (l : List Child). IsPlace c.args.key.now l c.in-Err.field-0) c.as_slice.ensures.value c.in-Err.ensures.absent in
    place_exchange c.args.key.now cs c.in-Err.field-0 None _ _ place refl refl (place_rows cs c.in-Err.field-0)
