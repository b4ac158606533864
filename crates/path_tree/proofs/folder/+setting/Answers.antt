use Rattle.std.proofs.Common.{◌≡◌, ◌<◌, ◌+◌, ◌++◌, length, refl, sym, ap, subst, ◌∙◌, List, Option, None, true, false, cond, option_map, arith}
use Rattle.std.proofs.lemmas.List.{get_or-set_same, take-set, drop-set-lt}
use Rattle.std.proofs.lemmas.Result.{MatchResult-from_err}
use Rattle.std.specs.Prelude.{◌&&◌, slice_index_or, bytes_eq}
use Rattle.plain_model.specs.Paths.{Bytes, is_empty}
use Rattle.plain_model.specs.Trees.{Tree, TreeOf, at}
use Rattle.path_tree.specs.declared.folder.Child.{Child}
use Rattle.path_tree.specs.declared.folder.extent.Change.{Change}
use Rattle.path_tree.specs.Folders.{Member, key_of, rest_of, flat, filled, AreSound, Fits}
use Rattle.path_tree.specs.Inside.{all_rows, blocks_of, rows_of, member_of, row_tree, extent_of, AreFilled}
use Rattle.path_tree.specs.PathMaps.{IsInOrder}
use Rattle.path_tree.specs.Rows.{is_folder, IsFound, IsPlace, IsSetNode, IsSetUnder}
use Rattle.path_tree.specs.Setting.{name_of, HasNone, PlacesBelow}
use Rattle.path_tree.specs.Falls.{key_long}
use Rattle.path_tree.proofs.Keys.{flat_in_order}
use Rattle.path_tree.proofs.Looking.{rest_shorter, empty_of, if_ok}
use Rattle.path_tree.proofs.Setting.{long_is_folder, slash_of_rest, name_is}
use Rattle.path_tree.proofs.Searching.{absent_at}
use Rattle.path_tree.proofs.Placing.{places_way, way_kept, none_below}
use Rattle.path_tree.proofs.Blocks.{sound_first, sound_at, filled_same, filled_take, filled_drop, same_block, set_first, set_at, on_ok, rows_at, Block}
use Rattle.path_tree.proofs.Exchanges.{fits_index, index_alike, rows_removed_set}
use Rattle.path_tree.proofs.Editing.{folder_fits, same_set, set_some, set_none, below_sound, below_places}
use Rattle.path_tree.proofs.folder.+setting.Goals as goal

-- ---- a new folder

pub Folder::put_new-set-requires : goal.Folder::put_new-set-requires
Folder::put_new-set-requires t c = (omega (arith, c.decreases), (c.requires.is_file, c.requires.fits))

-- ---- a path

pub Folder::set-set_here-requires-clause-is_name :
    goal.Folder::set-set_here-requires-clause-is_name
Folder::set-set_here-requires-clause-is_name t c =
    let path = c.args.path.now in
    let is_rest = c.split_at.ensures.back ∙ c.key_len.ensures.rest in
    name_is path (rw is_rest at (empty_of c.split_at.result.1.now true c.if-is_empty.ensures)) c.requires.is_file

pub Folder::set-set_below-requires : goal.Folder::set-set_below-requires
Folder::set-set_below-requires t c =
    let path = c.args.path.now in
    let is_key = c.split_at.ensures.front ∙ c.key_len.ensures.key in
    let is_rest = c.split_at.ensures.back ∙ c.key_len.ensures.rest in
    let more : is_empty (rest_of path) ≡ false = rw is_rest at (empty_of c.split_at.result.1.now false c.if-is_empty.ensures) in
    let less : length c.split_at.result.1.now < length path = rw is_rest (rest_shorter path (key_long (key_of path) (long_is_folder path more))) in (
      omega (arith, less, c.decreases),
      (rw is_key (long_is_folder path more), (rw is_rest (sym (slash_of_rest path more) ∙ c.requires.is_file), c.requires.fits)),
    )

pub Folder::set-set_below-requires-2 : goal.Folder::set-set_below-requires-2
Folder::set-set_below-requires-2 t c =
    let path = c.args.path.now in
    let is_key = c.split_at.ensures.front ∙ c.key_len.ensures.key in
    let is_rest = c.split_at.ensures.back ∙ c.key_len.ensures.rest in
    let more : is_empty (rest_of path) ≡ false = rw is_rest at (empty_of c.split_at.result.1.now false c.if-is_empty.ensures) in
    let less : length c.split_at.result.1.now < length path = rw is_rest (rest_shorter path (key_long (key_of path) (long_is_folder path more))) in (
      omega (arith, less, c.decreases),
      (rw is_key (long_is_folder path more), (rw is_rest (sym (slash_of_rest path more) ∙ c.requires.is_file), c.requires.fits)),
    )

pub Folder::set-returns-then-is_blocked-clause-places :
    goal.Folder::set-returns-then-is_blocked-clause-places
Folder::set-returns-then-is_blocked-clause-places t c =
    let path = c.args.path.now in
    let m = option_map member_of c.args.node.now in
    let old = c.args.self.now in
    let mid = c.set_below.new.self in
    let new = c.remove.new.self in
    let is_key = c.split_at.ensures.front ∙ c.key_len.ensures.key in
    let is_rest = c.split_at.ensures.back ∙ c.key_len.ensures.rest in
    let more : is_empty (rest_of path) ≡ false = rw is_rest at (empty_of c.split_at.result.1.now false c.if-is_empty.ensures) in
    let own = subst (λ (was : Tree). PlacesBelow c.split_at.result.0.now c.split_at.result.1.now m c.args.clear was mid) c.in_ok-copy.ensures c.in_ok-set_below.ensures.places in
    let below =
    subst (λ (k : Bytes). PlacesBelow k (rest_of path) m c.args.clear old mid) is_key
    (subst (λ (r : Bytes). PlacesBelow c.split_at.result.0.now r m c.args.clear old mid) is_rest own) in
    places_way path m c.args.clear old mid new more below
    (λ q. c.in_ok-remove.ensures.removed q
    ∙ ap (λ (k : Bytes). cond (bytes_eq k (key_of q)) None (at mid q)) c.name_of.ensures
    ∙ ap (λ b. cond (b && bytes_eq (name_of path) (key_of q)) None (at mid q)) (sym (c.is_blocked.ensures.cleared c.if-is_blocked.true)))

pub Folder::set-returns-clause-places : goal.Folder::set-returns-clause-places
Folder::set-returns-clause-places t c =
    let path = c.args.path.now in
    let m = option_map member_of c.args.node.now in
    let old = c.args.self.now in
    let new = c.set_below-2.new.self in
    let is_key = c.split_at.ensures.front ∙ c.key_len.ensures.key in
    let is_rest = c.split_at.ensures.back ∙ c.key_len.ensures.rest in
    let more : is_empty (rest_of path) ≡ false = rw is_rest at (empty_of c.split_at.result.1.now false c.if-is_empty.ensures) in
    on_ok c.set_below-2.result c.set_below-2.ensures.places
    (λ own.
    let below =
    subst (λ (k : Bytes). PlacesBelow k (rest_of path) m c.args.clear old new) is_key
    (subst (λ (r : Bytes). PlacesBelow c.split_at.result.0.now r m c.args.clear old new) is_rest own) in
    places_way path m c.args.clear old new new more below
    (way_kept path m c.args.clear old new more below (λ asked. c.is_blocked.ensures.free c.if-is_blocked.false asked)))

-- ---- the folder under a key

pub Folder::set_below-put_new-requires : goal.Folder::set_below-put_new-requires
Folder::set_below-put_new-requires t c =
    let old = all_rows c.self.inside.children in
    let new = all_rows c.set_under.new.children in
    let none =
    subst (λ (o : Option Change). IsSetUnder c.args.key.now c.args.path.now (option_map member_of c.args.node.now) c.args.clear o old new) c.in-None.is
    c.in_ok-set_under.ensures.set in (
      omega (arith, c.decreases),
      (
        subst (λ (l : TreeOf Member). HasNone c.args.key.now (flat l)) (sym none.1) (none_below c.args.key.now old c.self.invariant.rows none.0),
        (
          subst (λ (l : TreeOf Member). IsInOrder (flat l)) (sym none.1) (flat_in_order old c.self.invariant.rows),
          (c.requires.is_key, (c.requires.is_file, c.requires.fits)),
        ),
      ),
    )

pub Folder::set_below-recounted-self-inside-requires :
    goal.Folder::set_below-recounted-self-inside-requires
Folder::set_below-recounted-self-inside-requires t c =
    let old = all_rows c.self.inside.children in
    let new = all_rows c.set_under.new.children in
    let set =
    subst (λ (o : Option Change). IsSetUnder c.args.key.now c.args.path.now (option_map member_of c.args.node.now) c.args.clear o old new) c.in-Some.is
    c.in_ok-set_under.ensures.set in
    (below_sound set c.requires.is_key c.self.invariant.rows).all_fit

pub Folder::set_below-invariant_of-self-in-Some : goal.Folder::set_below-invariant_of-self-in-Some
Folder::set_below-invariant_of-self-in-Some t c =
    let old = all_rows c.self.inside.children in
    let new = all_rows c.set_under.new.children in
    let set =
    subst (λ (o : Option Change). IsSetUnder c.args.key.now c.args.path.now (option_map member_of c.args.node.now) c.args.clear o old new) c.in-Some.is
    c.in_ok-set_under.ensures.set in
    record {
      rows = below_sound set c.requires.is_key c.self.invariant.rows;
      filled = c.in_ok-set_under.ensures.filled;
      extent = c.recounted-self-inside.ensures c.args.key.now (filled set.tree) old c.self.invariant.extent set.exchange;
    }

pub Folder::set_below-returns-in-Some-clause-places :
    goal.Folder::set_below-returns-in-Some-clause-places
Folder::set_below-returns-in-Some-clause-places t c =
    let old = all_rows c.self.inside.children in
    let new = all_rows c.set_under.new.children in
    let set =
    subst (λ (o : Option Change). IsSetUnder c.args.key.now c.args.path.now (option_map member_of c.args.node.now) c.args.clear o old new) c.in-Some.is
    c.in_ok-set_under.ensures.set in
    subst (λ (was : Tree). PlacesBelow c.args.key.now c.args.path.now (option_map member_of c.args.node.now) c.args.clear was
    (flat new)) c.self.view_is
    (below_places set c.requires.is_key c.self.invariant.rows)

pub Folder::set_below-returns-in-Some-clause-order :
    goal.Folder::set_below-returns-in-Some-clause-order
Folder::set_below-returns-in-Some-clause-order t c =
    let old = all_rows c.self.inside.children in
    let new = all_rows c.set_under.new.children in
    let set =
    subst (λ (o : Option Change). IsSetUnder c.args.key.now c.args.path.now (option_map member_of c.args.node.now) c.args.clear o old new) c.in-Some.is
    c.in_ok-set_under.ensures.set in
    flat_in_order new (below_sound set c.requires.is_key c.self.invariant.rows)

-- ---- the child under a key

pub setting::set_child-child_extent-gone-requires :
    goal.setting::set_child-child_extent-gone-requires
setting::set_child-child_extent-gone-requires t c =
    let found = subst (λ (l : List Child). IsFound c.args.key.now l c.in-Ok.index) c.as_slice.ensures.value c.in-Ok.ensures.found in
    rw c.index.ensures (fits_index c.args.children.now.items c.in-Ok.index c.index.result.now found.within c.requires.sound.all_fit)

pub setting::set_child-set_node-requires : goal.setting::set_child-set_node-requires
setting::set_child-set_node-requires t c =
    let cs = c.args.children.now.items in
    let i = c.in-Ok.index in
    let d = c.index_mut.result.now in
    let found = subst (λ (l : List Child). IsFound c.args.key.now l i) c.as_slice.ensures.value c.in-Ok.ensures.found in
    let fits = subst (λ (k : Bytes). Fits k (member_of (slice_index_or cs i d).node)) (found.key_is d)
    (fits_index cs i d found.within c.requires.sound.all_fit) in
    let is_one = folder_fits c.args.key.now (member_of (slice_index_or cs i d).node) fits c.requires.is_key in
    (omega (arith, c.decreases), (c.requires.is_file, (c.requires.fits, ap (λ (x : Child). is_folder (member_of x.node)) c.index_mut.ensures.value ∙ is_one)))

pub setting::set_child-returns-in_err-set_node-in-Ok-clause-unchanged :
    goal.setting::set_child-returns-in_err-set_node-in-Ok-clause-unchanged
setting::set_child-returns-in_err-set_node-in-Ok-clause-unchanged t c =
    let cs = c.args.children.now.items in
    let i = c.in-Ok.index in
    let d = c.index_mut.result.now in
    let new : Child = record { key = d.key; node = c.set_node.new.folder } in
    let found = subst (λ (l : List Child). IsFound c.args.key.now l i) c.as_slice.ensures.value c.in-Ok.ensures.found in
    let is_key : d.key.value.items ≡ c.args.key.now = ap (λ (x : Child). x.key.value.items) c.index_mut.ensures.value ∙ found.key_is d in
    MatchResult-from_err c.from_residual.result _ _ c.from_residual.ensures.0
    (λ _. same_set c.args.key.now cs i d new found is_key
    (c.in_err-set_node-in-Ok.ensures.unchanged ∙ ap (λ (x : Child). member_of x.node) c.index_mut.ensures.value))

pub setting::set_child-returns-in-Err-clause-set :
    goal.setting::set_child-returns-in-Err-clause-set
setting::set_child-returns-in-Err-clause-set t c =
    let place = subst (λ (l : List Child). IsPlace c.args.key.now l c.in-Err.field-0) c.as_slice.ensures.value c.in-Err.ensures.absent in
    (sym (absent_at c.args.key.now c.args.children.now.items c.in-Err.field-0 place), refl)

pub setting::set_child-returns-then-branch-clause-set :
    goal.setting::set_child-returns-then-branch-clause-set
setting::set_child-returns-then-branch-clause-set t c =
    let cs = c.args.children.now.items in
    let i = c.in-Ok.index in
    let d = c.index_mut.result.now in
    let m = option_map member_of c.args.node.now in
    let new : Child = record { key = d.key; node = c.set_node.new.folder } in
    let found = subst (λ (l : List Child). IsFound c.args.key.now l i) c.as_slice.ensures.value c.in-Ok.ensures.found in
    let is_key : d.key.value.items ≡ c.args.key.now = ap (λ (x : Child). x.key.value.items) c.index_mut.ensures.value ∙ found.key_is d in
    let set = subst
    (λ (x : Child). IsSetNode c.args.path.now m c.args.clear (member_of x.node)
    (member_of new.node) c.in_ok-set_node-in-Ok.field-0) c.index_mut.ensures.value c.in_ok-set_node-in-Ok.ensures.set in
    let was : c.index.result.now ≡ slice_index_or cs i d = c.index.ensures ∙ index_alike cs i c.index.result.now d found.within in
    let now : c.index-then-branch.result.now ≡ new = c.index-then-branch.ensures ∙ get_or-set_same cs i new c.index-then-branch.result.now found.within in
    set_some c.args.key.now c.args.path.now m c.args.clear cs i d new _ c.in_ok-set_node-in-Ok.field-0 c.requires.sound found is_key set c.if-branch.true
    (c.child_extent-gone.ensures ∙ ap (λ (x : Child). extent_of (row_tree x)) was)
    (c.child_extent-come.ensures ∙ ap (λ (x : Child). extent_of (row_tree x)) now)

pub setting::set_child-returns-else-branch-clause-set :
    goal.setting::set_child-returns-else-branch-clause-set
setting::set_child-returns-else-branch-clause-set t c =
    let cs = c.args.children.now.items in
    let i = c.in-Ok.index in
    let d = c.index_mut.result.now in
    let m = option_map member_of c.args.node.now in
    let new : Child = record { key = d.key; node = c.set_node.new.folder } in
    let found = subst (λ (l : List Child). IsFound c.args.key.now l i) c.as_slice.ensures.value c.in-Ok.ensures.found in
    let set = subst
    (λ (x : Child). IsSetNode c.args.path.now m c.args.clear (member_of x.node)
    (member_of new.node) c.in_ok-set_node-in-Ok.field-0) c.index_mut.ensures.value c.in_ok-set_node-in-Ok.ensures.set in
    let was : c.index.result.now ≡ slice_index_or cs i d = c.index.ensures ∙ index_alike cs i c.index.result.now d found.within in
    set_none c.args.key.now c.args.path.now m c.args.clear cs i d
    (member_of new.node) _ _ c.in_ok-set_node-in-Ok.field-0 c.requires.sound found set c.if-branch.false
    (c.child_extent-gone.ensures ∙ ap (λ (x : Child). extent_of (row_tree x)) was)
    refl
    (ap rows_of c.remove.ensures.items ∙ rows_removed_set cs i new)

-- ---- the block of a key

pub setting::set_under-set_child-requires : goal.setting::set_under-set_child-requires
setting::set_under-set_child-requires t c =
    (omega (arith, c.decreases), (sound_first c.args.key.now c.args.children.now c.requires.sound, (c.requires.is_key, (c.requires.is_file, c.requires.fits))))

pub setting::set_under-set_in-requires : goal.setting::set_under-set_in-requires
setting::set_under-set_in-requires t c = (
  omega (arith, c.decreases),
  (
    subst (λ (b : Block). AreSound (rows_at b)) (sym c.index_mut.ensures.value)
        (sound_at c.args.key.now c.args.children.now c.in-Some.index c.index_mut.result.now c.in-Some.ensures.within c.requires.sound),
    (c.requires.is_key, (c.requires.is_file, c.requires.fits)),
  ),
)

pub setting::set_under-returns-in_err-change-in-Some-clause-filled :
    goal.setting::set_under-returns-in_err-change-in-Some-clause-filled
setting::set_under-returns-in_err-change-in-Some-clause-filled t c =
    filled_same c.args.children.now.rest.items c.in-Some.index c.index_mut.result.now c.set_in.new.block c.in-Some.ensures.within c.requires.filled
    (c.in_err-change-in-Some.ensures.unchanged ∙ ap rows_at c.index_mut.ensures.value)

pub setting::set_under-returns-in_err-change-in-Some-clause-unchanged :
    goal.setting::set_under-returns-in_err-change-in-Some-clause-unchanged
setting::set_under-returns-in_err-change-in-Some-clause-unchanged t c =
    MatchResult-from_err c.from_residual.result _ _ c.from_residual.ensures.0
    (λ _. same_block c.args.key.now c.args.children.now c.in-Some.index c.index_mut.result.now c.set_in.new.block c.in-Some.ensures.within
    (c.in_err-change-in-Some.ensures.unchanged ∙ ap rows_at c.index_mut.ensures.value))

pub setting::set_under-drop_empty-requires-clause-filled :
    goal.setting::set_under-drop_empty-requires-clause-filled
setting::set_under-drop_empty-requires-clause-filled t c =
    let bs = c.args.children.now.rest.items in
    let i = c.in-Some.index in
    subst (λ (l : List Block). AreFilled (blocks_of l)) (sym (take-set bs i c.set_in.new.block)) (filled_take bs i c.requires.filled)

pub setting::set_under-drop_empty-requires-clause-filled_after :
    goal.setting::set_under-drop_empty-requires-clause-filled_after
setting::set_under-drop_empty-requires-clause-filled_after t c =
    let bs = c.args.children.now.rest.items in
    let i = c.in-Some.index in
    subst (λ (l : List Block). AreFilled (blocks_of l)) (sym (drop-set-lt (i + 1) bs i c.set_in.new.block (omega arith))) (filled_drop bs (i + 1) c.requires.filled)

pub setting::set_under-returns-in-None-clause-set :
    goal.setting::set_under-returns-in-None-clause-set
setting::set_under-returns-in-None-clause-set t c =
    if_ok c.set_child.result c.set_child.ensures.set
    (λ change x. set_first c.args.key.now c.args.children.now c.args.path.now (option_map member_of c.args.node.now) c.args.clear change
    c.set_child.new.children.items c.in-None.ensures x)

pub setting::set_under-returns-in_ok-change-in-Some-clause-set :
    goal.setting::set_under-returns-in_ok-change-in-Some-clause-set
setting::set_under-returns-in_ok-change-in-Some-clause-set t c =
    let key = c.args.key.now in
    let path = c.args.path.now in
    let m = option_map member_of c.args.node.now in
    let cs = c.args.children.now in
    let change = c.in_ok-change-in-Some.change in
    subst (λ (l : TreeOf Member). IsSetUnder key path m c.args.clear change (all_rows cs) (rows_of cs.first.items ++ l)) (sym c.drop_empty.ensures.rows)
    (set_at key cs path m c.args.clear change c.in-Some.index c.index_mut.result.now c.set_in.new.block c.in-Some.ensures
    (subst (λ (b : Block). IsSetUnder key path m c.args.clear change (rows_at b) (rows_at c.set_in.new.block)) c.index_mut.ensures.value c.in_ok-change-in-Some.ensures.set))
