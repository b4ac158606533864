-- A folder as the tree that it is.
use Rattle.std.specs.Prelude.{◌≡◌, ℕ, ◌-◌, ◌^◌, ◌<◌, ◌++◌, min, List, [], ◌∷◌, length, Vec}
use Rattle.std.specs.declared.rc.Rc.{Rc}
use Rattle.plain_model.specs.Trees.{Tree, TreeOf}
use Rattle.path_tree.specs.declared.folder.Folder.TheInside.{Inside}
use Rattle.path_tree.specs.declared.folder.Node.{Node}
use Rattle.path_tree.specs.declared.folder.Node.TheVariants.{File, Subfolder}
use Rattle.path_tree.specs.declared.folder.Child.{Child}
use Rattle.path_tree.specs.declared.folder.Children.{Children}
use Rattle.path_tree.specs.declared.folder.extent.Extent.{Extent}
use Rattle.path_tree.specs.Folders.{Member, flat, longest, member_tree, prefixed, AreSound}
use Rattle.path_tree.specs.Folders.Member.{file, folder}

abbrev pub member_of : Node → Member
member_of (File entry) = file entry
member_of (Subfolder below) = folder below.value

-- each key with what is under it
abbrev pub rows_of : List Child → TreeOf Member
rows_of [] = []
rows_of (c ∷ cs) = (c.key.value.items, member_of c.node) ∷ rows_of cs

-- the rows of each block that may be shared
abbrev pub blocks_of : {A B : Type 0} → List (Rc (Vec Child A) B) → List (TreeOf Member)
blocks_of [] = []
blocks_of (b ∷ bs) = rows_of b.value.items ∷ blocks_of bs

-- one block after the other
abbrev pub joined : List (TreeOf Member) → TreeOf Member
joined [] = []
joined (b ∷ bs) = b ++ joined bs

abbrev pub rows_in : {A B : Type 0} → List (Rc (Vec Child A) B) → TreeOf Member
rows_in bs = joined (blocks_of bs)

-- no block is empty
abbrev pub AreFilled : List (TreeOf Member) → Type 0
AreFilled [] = Unit {0}
AreFilled (b ∷ bs) = (0 < length b) × AreFilled bs

-- the rows of all children
abbrev pub all_rows : Children → TreeOf Member
all_rows c = rows_of c.first.items ++ rows_in c.rest.items

abbrev pub tree_of : Inside → Tree
tree_of f = flat (all_rows f.children)

-- a count that stays at the greatest number
abbrev pub bounded : ℕ → ℕ
bounded n = min n (2 ^ 64 - 1)

-- how many paths there are, and how long the longest is
abbrev pub extent_of : Tree → Extent
extent_of tree = record { count = bounded (length tree); longest = bounded (longest tree) }

pub record IsSoundFolder (f : Inside) : Type 0 where
  pub rows : AreSound (all_rows f.children)
  pub filled : AreFilled (blocks_of f.children.rest.items)
  pub extent : f.extent ≡ extent_of (tree_of f)

-- what a child adds to the folder's tree
abbrev pub row_tree : Child → Tree
row_tree c = prefixed c.key.value.items (member_tree (member_of c.node))
