-- A folder has fewer bytes in its paths than the folder that holds it.
use Rattle.std.specs.Prelude.{ℕ, Vec, ◌≡◌, ◌+◌, ◌≤◌, ◌<◌, true, List, [], ◌∷◌, ◌++◌, length}
use Rattle.std.specs.declared.rc.Rc.{Rc}
use Rattle.std.proofs.Common.{Global, arith, sym, true≢false}
use denote.Param.Weighed.{most}
use Rattle.plain_model.specs.Paths.{Bytes}
use Rattle.plain_model.specs.Trees.{Tree, TreeOf}
use Rattle.path_tree.specs.declared.folder.Folder.TheInside.{Inside}
use Rattle.path_tree.specs.declared.folder.Folder.TheDeep.{deep-Folder, deep-Child, deep-Node}
use Rattle.path_tree.specs.declared.folder.Folder.TheShapes.{weighed-Children-rest-at-2}
use Rattle.path_tree.specs.declared.folder.Child.{Child}
use Rattle.path_tree.specs.declared.folder.Node.{Node}
use Rattle.path_tree.specs.declared.folder.Node.TheVariants.{File, Subfolder}
use Rattle.path_tree.specs.Folders.{Member, prefixed, flat, member_tree, total, is_folder_key, Fits, AllFit}
use Rattle.path_tree.specs.Inside.{member_of, rows_in, rows_of, tree_of, IsSoundFolder}

pub total_append : (a b : Tree) → total (a ++ b) ≡ total a + total b
total_append [] b = omega arith
total_append (e ∷ a) b = omega (arith, total_append a b)

length-append : (a b : Bytes) → length (a ++ b) ≡ length a + length b
length-append [] b = omega arith
length-append (e ∷ a) b = omega (arith, length-append a b)

pub key_long : (key : Bytes) → is_folder_key key ≡ true → 0 < length key
key_long [] h = absurd (true≢false (sym h))
key_long (b ∷ key) h = omega arith

pub total_prefixed : (key : Bytes) (a : Tree) → 0 < length key → total a + length a ≤ total (prefixed key a)
total_prefixed key [] h = omega arith
total_prefixed key (e ∷ a) h = omega (arith, h, length-append key e.0, total_prefixed key a h)

node_falls : (key : Bytes) (n : Node) → Fits key (member_of n) → deep-Node n ≤ total (prefixed key (member_tree (member_of n)))
node_falls key (File entry) h = omega arith
node_falls key (Subfolder below) h = omega (arith, h.1, total_prefixed key below.value (key_long key h.0))

children_fall : (cs : List Child) → AllFit (rows_of cs) → most deep-Child cs ≤ total (flat (rows_of cs))
children_fall [] h = omega arith
children_fall (c ∷ cs) h =
    omega (
      arith,
      node_falls c.key.value.items c.node h.0,
      children_fall cs h.1,
      total_append (prefixed c.key.value.items (member_tree (member_of c.node))) (flat (rows_of cs)),
    )

-- how deep the blocks are
abbrev deep_blocks : List (Rc (Vec Child Global) Global) → ℕ
deep_blocks bs = most (λ x. weighed-Children-rest-at-2.weight Child deep-Child x) bs

pub append_fit : (a b : TreeOf Member) → AllFit (a ++ b) → AllFit a × AllFit b
append_fit [] b h = (tt, h)
append_fit (r ∷ a) b h = let both = append_fit a b h.1 in ((h.0, both.0), both.1)

pub flat_total : (a b : TreeOf Member) → total (flat (a ++ b)) ≡ total (flat a) + total (flat b)
flat_total [] b = omega arith
flat_total (r ∷ a) b =
    omega (
      arith,
      flat_total a b,
      total_append (prefixed r.0 (member_tree r.1)) (flat (a ++ b)),
      total_append (prefixed r.0 (member_tree r.1)) (flat a),
    )

blocks_fall : (bs : List (Rc (Vec Child Global) Global)) → AllFit (rows_in bs) → deep_blocks bs ≤ total (flat (rows_in bs))
blocks_fall [] h = omega arith
blocks_fall (b ∷ bs) h =
    let both = append_fit (rows_of b.value.items) (rows_in bs) h in
    let one = children_fall b.value.items both.0 in
    let others = blocks_fall bs both.1 in
    omega (arith, one, others, flat_total (rows_of b.value.items) (rows_in bs))

pub falls : (a : Inside) → IsSoundFolder a → deep-Folder a ≤ total (tree_of a)
falls a h =
    let both = append_fit (rows_of a.children.first.items) (rows_in a.children.rest.items) h.rows.all_fit in
    let one = children_fall a.children.first.items both.0 in
    let others = blocks_fall a.children.rest.items both.1 in
    omega (arith, one, others, flat_total (rows_of a.children.first.items) (rows_in a.children.rest.items))
