use Rattle.std.proofs.Common.{rules, ◌≡◌, ◌∷◌, ◌++◌, ◌+◌, take, drop, refl, sym, ap, subst, ◌∙◌, List, Some}
use Rattle.plain_model.specs.Paths.{Bytes}
use Rattle.path_tree.specs.declared.folder.Child.{Child}
use Rattle.path_tree.specs.Inside.{rows_of, member_of, row_tree, extent_of}
use Rattle.path_tree.specs.Rows.{IsFound, IsPlace}
use Rattle.path_tree.proofs.Exchanges.{found_exchange, place_exchange, rows_set, rows_inserted, one_row, fits_index}
use Rattle.path_tree.proofs.folder.block.put_child.Goals as goal

pub child_extent-gone-requires : goal.child_extent-gone-requires
child_extent-gone-requires c =
    let found = subst (λ (l : List Child). IsFound c.args.key.now l c.in-Ok.index) c.as_slice.ensures.value c.in-Ok.ensures.found in
    rw c.index.ensures (fits_index c.args.children.now.items c.in-Ok.index c.index.result.now found.within c.requires.sound.all_fit)

pub returns-in-Ok-clause-exchanged : goal.returns-in-Ok-clause-exchanged
returns-in-Ok-clause-exchanged c =
    let cs = c.args.children.now.items in
    let i = c.in-Ok.index in
    let key = c.args.key.now in
    let new : Child = record { key = c.index_mut.result.now.key; node = c.args.node } in
    let found = subst (λ (l : List Child). IsFound key l i) c.as_slice.ensures.value c.in-Ok.ensures.found in
    let same_key : new.key.value.items ≡ key = ap (λ (x : Child). x.key.value.items) c.index_mut.ensures.value ∙ found.key_is c.index_mut.result.now in
    found_exchange key cs i c.index.result.now (Some (member_of c.args.node)) _ _ c.requires.sound.in_order found
    (c.child_extent-gone.ensures ∙ ap (λ (x : Child). extent_of (row_tree x)) c.index.ensures)
    (c.extent_under-come.ensures ∙ ap extent_of (sym (one_row key (member_of c.args.node))))
    (rows_set cs i new found.within ∙ ap (λ (k : Bytes). rows_of (take i cs) ++ ((k, member_of c.args.node) ∷ rows_of (drop (i + 1) cs))) same_key)

pub returns-in_ok-insert-in-Err-clause-exchanged : goal.returns-in_ok-insert-in-Err-clause-exchanged
returns-in_ok-insert-in-Err-clause-exchanged c =
    let cs = c.args.children.now.items in
    let i = c.in-Err.index in
    let key = c.args.key.now in
    let new : Child = record { key = c.in_ok-key-in-Err.key; node = c.args.node } in
    let place = subst (λ (l : List Child). IsPlace key l i) c.as_slice.ensures.value c.in-Err.ensures.absent in
    let same_key : new.key.value.items ≡ key = search rules in
    place_exchange key cs i (Some (member_of c.args.node)) _ _ place refl
    (c.extent_under-come.ensures ∙ ap extent_of (sym (one_row key (member_of c.args.node))))
    (ap rows_of c.in_ok-insert-in-Err.ensures.items ∙ rows_inserted cs i new
    ∙ ap (λ (k : Bytes). rows_of (take i cs) ++ ((k, member_of c.args.node) ∷ rows_of (drop i cs))) same_key)
