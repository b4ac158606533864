-- A folder under a key is set in place.
use Rattle.std.proofs.Common.{◌≡◌, ℕ, ◌+◌, Bool, true, false, List, [], ◌∷◌, ◌++◌, take, drop, refl, sym, ap, subst, ◌∙◌, Option, Some, None, is_some, true≢false, arith}
use Rattle.std.specs.Prelude.{slice_index_or, slice_set}
use Rattle.plain_model.specs.Paths.{Bytes}
use Rattle.plain_model.specs.Trees.{TreeOf, Tree}
use Rattle.path_tree.specs.declared.folder.Child.{Child}
use Rattle.path_tree.specs.declared.folder.extent.Change.{Change}
use Rattle.path_tree.specs.Folders.{Member, is_folder_key, flat, filled, tree_under, member_tree, prefixed, Fits, AreSound}
use Rattle.path_tree.specs.Folders.Member.{file, folder}
use Rattle.path_tree.specs.Inside.{member_of, row_tree, rows_of, extent_of}
use Rattle.path_tree.specs.PathMaps.{IsInOrder}
use Rattle.path_tree.specs.Rows.{row_if, is_folder, IsFound, IsSetBelow, IsSetNode}
use Rattle.path_tree.specs.Setting.{FitsIf, Places, PlacesBelow}
use Rattle.path_tree.proofs.Looking.{not_both}
use Rattle.path_tree.proofs.Searching.{found_at, found_rows}
use Rattle.path_tree.proofs.Exchanges.{exchange_sound, exchange_puts, found_exchange, rows_set, one_row}
use Rattle.path_tree.proofs.Placing.{below_set}

-- ---- filled or not

pub fits_filled : (key : Bytes) (t : Tree) → is_folder_key key ≡ true → IsInOrder t → FitsIf key (filled t)
fits_filled key [] k o = tt
fits_filled key (e ∷ t) k o = (k, omega arith, o)

filled_some : (t : Tree) → true ≡ is_some (filled t) → filled t ≡ Some (folder t)
filled_some [] h = absurd (true≢false h)
filled_some (e ∷ t) h = refl

filled_none : (t : Tree) → false ≡ is_some (filled t) → filled t ≡ None
filled_none [] h = refl
filled_none (e ∷ t) h = absurd (true≢false (sym h))

pub folder_fits : (key : Bytes) (m : Member) → Fits key m → is_folder_key key ≡ true → is_folder m ≡ true
folder_fits key (file entry) f k = absurd (not_both key f k)
folder_fits key (folder tree) f k = refl

-- ---- the rows

-- the same member again
pub same_set : (key : Bytes) (cs : List Child) (i : ℕ) (d : Child) (c : Child) → IsFound key cs i → c.key.value.items ≡ key
    → member_of c.node ≡ member_of (slice_index_or cs i d).node
    → rows_of (slice_set cs i c) ≡ rows_of cs
same_set key cs i d c f is_key is_node =
    rows_set cs i c f.within
    ∙ ap (λ (k : Bytes). rows_of (take i cs) ++ ((k, member_of c.node) ∷ rows_of (drop (i + 1) cs))) is_key
    ∙ ap (λ (m : Member). rows_of (take i cs) ++ ((key, m) ∷ rows_of (drop (i + 1) cs))) is_node
    ∙ sym (found_rows key cs i d f)

module _ (key p : Bytes) (m : Option Member) (clear : Bool) (cs : List Child) (i : ℕ) (d : Child) where
  -- a folder that has paths then
  pub set_some : (c : Child) (change : Change) (some : Bool) → AreSound (rows_of cs) → IsFound key cs i → c.key.value.items ≡ key
      → IsSetNode p m clear (member_of (slice_index_or cs i d).node) (member_of c.node) some → some ≡ true
      → change.gone ≡ extent_of (row_tree (slice_index_or cs i d)) → change.come ≡ extent_of (row_tree c)
      → IsSetBelow key p m clear change (rows_of cs) (rows_of (slice_set cs i c))
  set_some c change some s f is_key set full_is gone come =
      let full : filled set.tree ≡ Some (folder set.tree) = filled_some set.tree (sym full_is ∙ set.some_is) in
      let node : member_of c.node ≡ folder set.tree = set.is_folder in
      record {
        tree = set.tree;
        in_order = set.in_order;
        places = subst (λ (o : Option Member). Places p m clear (tree_under o) set.tree) (found_at key cs i d s.in_order f) set.places;
        exchange =
            found_exchange key cs i d (filled set.tree) change (rows_of (slice_set cs i c)) s.in_order f gone
            (come
            ∙ ap (λ (k : Bytes). extent_of (prefixed k (member_tree (member_of c.node)))) is_key
            ∙ ap (λ (x : Member). extent_of (prefixed key (member_tree x))) node
            ∙ ap extent_of (sym (one_row key (folder set.tree)))
            ∙ ap (λ (o : Option Member). extent_of (flat (row_if key o))) (sym full))
            (rows_set cs i c f.within
            ∙ ap (λ (k : Bytes). rows_of (take i cs) ++ ((k, member_of c.node) ∷ rows_of (drop (i + 1) cs))) is_key
            ∙ ap (λ (x : Member). rows_of (take i cs) ++ ((key, x) ∷ rows_of (drop (i + 1) cs))) node
            ∙ ap (λ (o : Option Member). rows_of (take i cs) ++ (row_if key o ++ rows_of (drop (i + 1) cs))) (sym full));
      }

  -- and one that has none
  pub set_none : (node : Member) (change : Change) (new : TreeOf Member) (some : Bool) → AreSound (rows_of cs) → IsFound key cs i
      → IsSetNode p m clear (member_of (slice_index_or cs i d).node) node some → some ≡ false
      → change.gone ≡ extent_of (row_tree (slice_index_or cs i d)) → change.come ≡ extent_of []
      → new ≡ rows_of (take i cs) ++ rows_of (drop (i + 1) cs)
      → IsSetBelow key p m clear change (rows_of cs) new
  set_none node change new some s f set none_is gone come is =
      let empty : filled set.tree ≡ None = filled_none set.tree (sym none_is ∙ set.some_is) in
      record {
        tree = set.tree;
        in_order = set.in_order;
        places = subst (λ (o : Option Member). Places p m clear (tree_under o) set.tree) (found_at key cs i d s.in_order f) set.places;
        exchange =
            found_exchange key cs i d (filled set.tree) change new s.in_order f gone
            (come ∙ ap (λ (o : Option Member). extent_of (flat (row_if key o))) (sym empty))
            (is ∙ ap (λ (o : Option Member). rows_of (take i cs) ++ (row_if key o ++ rows_of (drop (i + 1) cs))) (sym empty));
      }

-- ---- the folder then

module _ {key p : Bytes} {m : Option Member} {clear : Bool} {change : Change} {old new : TreeOf Member} where
  pub below_sound : IsSetBelow key p m clear change old new → is_folder_key key ≡ true → AreSound old → AreSound new
  below_sound x k s = exchange_sound x.exchange (fits_filled key x.tree k x.in_order) s

  pub below_places : IsSetBelow key p m clear change old new → is_folder_key key ≡ true → AreSound old → PlacesBelow key p m clear (flat old) (flat new)
  below_places x k s = below_set key p m clear old x.tree (flat new) s k x.places (exchange_puts x.exchange (fits_filled key x.tree k x.in_order) s)
