-- A tree by the members of its folders: what is under each key, where the key of a file is its name, and
-- that of a folder its name with a slash after it.
use Rattle.std.specs.Prelude.{◌≡◌, ℕ, ◌+◌, ◌<◌, Bool, true, false, not, ◌==◌, ◌&&◌, [], ◌∷◌, ◌++◌, length, max, Option, None, Some, if◌then◌else◌}
use Rattle.plain_model.specs.declared.operation.Entry.{Entry}
use Rattle.plain_model.specs.Paths.{Bytes, is_empty}
use Rattle.plain_model.specs.Trees.{Tree, TreeOf, at}
use Rattle.path_tree.specs.PathMaps.{IsInOrder}

pub data Member : Type 0 where
  file : Entry → Member
  folder : Tree → Member

-- ---- a path by its first key

-- up to the first slash, and the slash
abbrev pub key_of : Bytes → Bytes
key_of [] = []
key_of (b ∷ q) = if b == 47 then 47 ∷ [] else b ∷ key_of q

-- what is after that
abbrev pub rest_of : Bytes → Bytes
rest_of [] = []
rest_of (b ∷ q) = if b == 47 then q else rest_of q

-- no slash
abbrev pub is_file_key : Bytes → Bool
is_file_key [] = true
is_file_key (b ∷ k) = not (b == 47) && is_file_key k

-- one slash, at the end
abbrev pub is_folder_key : Bytes → Bool
is_folder_key [] = false
is_folder_key (b ∷ k) = if b == 47 then is_empty k else is_folder_key k

-- ---- the tree

-- each path after a key
abbrev pub prefixed : Bytes → Tree → Tree
prefixed key [] = []
prefixed key (e ∷ es) = (key ++ e.0, e.1) ∷ prefixed key es

-- what a member adds after its key
abbrev pub member_tree : Member → Tree
member_tree (file entry) = ([], entry) ∷ []
member_tree (folder tree) = tree

abbrev pub flat : TreeOf Member → Tree
flat [] = []
flat (r ∷ rs) = prefixed r.0 (member_tree r.1) ++ flat rs

-- what a member, if there is one, has at a path
abbrev pub at_member : Option Member → Bytes → Option Entry
at_member None q = None
at_member (Some member) q = at (member_tree member) q

-- ---- what always holds

-- how many bytes all paths have
abbrev pub total : Tree → ℕ
total [] = 0
total (e ∷ es) = length e.0 + total es

-- how many bytes the longest path has
abbrev pub longest : Tree → ℕ
longest [] = 0
longest (e ∷ es) = max (length e.0) (longest es)

-- a file is under a name, and a folder under a name with a slash; it has paths, in order
abbrev pub Fits : Bytes → Member → Type 0
Fits key (file entry) = is_file_key key ≡ true
Fits key (folder tree) = (is_folder_key key ≡ true) × (0 < length tree) × IsInOrder tree

abbrev pub AllFit : TreeOf Member → Type 0
AllFit [] = Unit {0}
AllFit (r ∷ rs) = Fits r.0 r.1 × AllFit rs

-- the keys are in byte order, and each member fits
pub record AreSound (rows : TreeOf Member) : Type 0 where
  pub in_order : IsInOrder rows
  pub all_fit : AllFit rows

-- ---- folders as members

-- the tree of the folder that is a member, if it is one
abbrev pub tree_under : Option Member → Tree
tree_under None = []
tree_under (Some (file entry)) = []
tree_under (Some (folder tree)) = tree

-- the folder as a member, unless it is empty
abbrev pub filled : Tree → Option Member
filled [] = None
filled (e ∷ es) = Some (folder (e ∷ es))
