-- The children of a folder as rows: each key with what is under it.
use Rattle.std.specs.Prelude.{Bool, not, MatchOption, ◌+◌, true, false, is_some, ◌≡◌, ℕ, ◌≤◌, ◌<◌, T, List, [], ◌∷◌, ◌++◌, length, take, drop, slice_index_or, Option, None, Some}
use Rattle.std.specs.Ordering.{nat_cmp, is_lt}
use Rattle.std.specs.declared.cmp.Ordering.TheVariants.{Less}
use Rattle.std.specs.Cmp.Lexicographic.{slice_cmp}
use Rattle.std.specs.FinMap.Entries as entries
use Rattle.plain_model.specs.Paths.{Bytes}
use Rattle.plain_model.specs.Trees.{Tree, TreeOf, at}
use Rattle.path_tree.specs.declared.folder.Child.{Child}
use Rattle.path_tree.specs.declared.folder.Children.{Children}
use Rattle.path_tree.specs.declared.folder.extent.Change.{Change}
use Rattle.path_tree.specs.Folders.{Member, flat, filled, tree_under}
use Rattle.path_tree.specs.Folders.Member.{file, folder}
use Rattle.path_tree.specs.Inside.{extent_of, rows_of, rows_in}
use Rattle.path_tree.specs.PathMaps.{IsInOrder}
use Rattle.path_tree.specs.Setting.{Places}

module _ {X : Type 0} where
  -- all rows come before the key
  abbrev pub AllBefore : Bytes → TreeOf X → Type 0
  AllBefore key [] = Unit {0}
  AllBefore key (r ∷ rs) = (slice_cmp nat_cmp r.0 key ≡ Less) × AllBefore key rs

  -- and all come after it
  abbrev pub AllAfter : Bytes → TreeOf X → Type 0
  AllAfter key rows = T (entries.below_all (slice_cmp nat_cmp) key rows)

  -- the row of the key, if it has one
  abbrev pub row_if : Bytes → Option X → TreeOf X
  row_if key None = []
  row_if key (Some x) = (key, x) ∷ []

-- the child at the index has the key
pub record IsFound (key : Bytes) (children : List Child) (i : ℕ) : Type 0 where
  pub within : i < length children
  pub key_is : (d : Child) → (slice_index_or children i d).key.value.items ≡ key

-- no child has the key, and one that has it belongs at the index
pub record IsPlace (key : Bytes) (children : List Child) (i : ℕ) : Type 0 where
  pub within : i ≤ length children
  pub before : AllBefore key (rows_of (take i children))
  pub after : AllAfter key (rows_of (drop i children))

-- ---- blocks

-- the block's first key isn't after the key
abbrev pub begins_by : Bytes → TreeOf Member → Bool
begins_by key [] = true
begins_by key (r ∷ rs) = not (is_lt (slice_cmp nat_cmp key r.0))

-- all rows with the key are in the block at the index
pub record IsBlockAt (key : Bytes) (children : Children) (i : ℕ) : Type 0 where
  pub within : i < length children.rest.items
  pub before : AllBefore key (rows_of children.first.items ++ rows_in (take i children.rest.items))
  pub after : AllAfter key (rows_in (drop (i + 1) children.rest.items))

-- or in the first block
abbrev pub IsBlock : Bytes → Children → Option ℕ → Type 0
IsBlock key children place = MatchOption place (AllAfter key (rows_in children.rest.items)) (IsBlockAt key children)

-- the block has all rows with the key
pub record IsAround (key : Bytes) (rows block : TreeOf Member) : Type 0 where
  pub before : TreeOf Member
  pub after : TreeOf Member
  pub all_before : AllBefore key before
  pub all_after : AllAfter key after
  pub is : rows ≡ before ++ (block ++ after)

-- ---- changes

-- the key has another member than it had, or none, and the rows around it stay
pub record IsExchange (key : Bytes) (new : Option Member) (change : Change) (old_rows new_rows : TreeOf Member) : Type 0 where
  pub old : Option Member
  pub before : TreeOf Member
  pub after : TreeOf Member
  pub all_before : AllBefore key before
  pub all_after : AllAfter key after
  pub old_is : old_rows ≡ before ++ (row_if key old ++ after)
  pub new_is : new_rows ≡ before ++ (row_if key new ++ after)
  pub gone_is : change.gone ≡ extent_of (flat (row_if key old))
  pub come_is : change.come ≡ extent_of (flat (row_if key new))

-- the folder under the key has the member at the path, or nothing there, and goes where it has no paths then
pub record IsSetBelow (key path : Bytes) (member : Option Member) (clear : Bool) (change : Change) (old_rows new_rows : TreeOf Member) : Type 0 where
  pub tree : Tree
  pub in_order : IsInOrder tree
  pub places : Places path member clear (tree_under (at old_rows key)) tree
  pub exchange : IsExchange key (filled tree) change old_rows new_rows

-- and nothing changes where no folder is under the key
abbrev pub IsSetUnder : Bytes → Bytes → Option Member → Bool → Option Change → TreeOf Member → TreeOf Member → Type 0
IsSetUnder key path member clear change old_rows new_rows =
    MatchOption change ((at old_rows key ≡ None) × (new_rows ≡ old_rows)) (λ change. IsSetBelow key path member clear change old_rows new_rows)

abbrev pub is_folder : Member → Bool
is_folder (file entry) = false
is_folder (folder tree) = true

-- a folder has the member at the path, or nothing there; whether it has paths then
pub record IsSetNode (path : Bytes) (member : Option Member) (clear : Bool) (old new : Member) (some : Bool) : Type 0 where
  pub tree : Tree
  pub is_folder : new ≡ folder tree
  pub in_order : IsInOrder tree
  pub places : Places path member clear (tree_under (Some old)) tree
  pub some_is : some ≡ is_some (filled tree)
