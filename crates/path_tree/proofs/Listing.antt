-- The paths of a folder, one child after another.
use Rattle.std.proofs.Common.{◌≡◌, ℕ, true, cond, List, [], ◌∷◌, ◌++◌, refl, sym, ap, subst, ◌∙◌, Option, Some, None, is_some, true≢false, append-nil, append_assoc, ◌≤◌, ◌<◌, ◌+◌, arith}
use Rattle.std.specs.Option.{option_or}
use Rattle.plain_model.specs.declared.operation.Entry.{Entry}
use Rattle.plain_model.specs.Paths.{Bytes, IsPath}
use Rattle.plain_model.specs.Trees.{Tree, TreeOf, at}
use Rattle.path_tree.specs.declared.folder.Child.{Child}
use Rattle.path_tree.specs.Folders.{Member, prefixed, member_tree, flat, total, Fits, AllFit}
use Rattle.path_tree.specs.Folders.Member.{file, folder}
use Rattle.path_tree.specs.Inside.{rows_of, row_tree, member_of}
use Rattle.history_laws.specs.SoundTrees.{AllPaths}
use Rattle.history_laws.proofs.TreeMaps.{some_second}
use Rattle.path_tree.proofs.Keys.{at_append, tied}
use Rattle.path_tree.specs.Falls.{total_append, total_prefixed, key_long}
use Rattle.path_tree.proofs.Measures.{flat_append, flat_push}

pub prefixed_append : (k : Bytes) (a b : Tree) → prefixed k (a ++ b) ≡ prefixed k a ++ prefixed k b
prefixed_append k [] b = refl
prefixed_append k (e ∷ a) b = ap (λ (t : Tree). (k ++ e.0, e.1) ∷ t) (prefixed_append k a b)

pub prefixed_prefixed : (k l : Bytes) (t : Tree) → prefixed k (prefixed l t) ≡ prefixed (k ++ l) t
prefixed_prefixed k l [] = refl
prefixed_prefixed k l (e ∷ t) =
    ap (λ (x : Bytes). (x, e.1) ∷ prefixed k (prefixed l t)) (sym (append_assoc k l e.0))
    ∙ ap (λ (s : Tree). ((k ++ l) ++ e.0, e.1) ∷ s) (prefixed_prefixed k l t)

some_first : (o p : Option Entry) → is_some o ≡ true → is_some (option_or o p) ≡ true
some_first None p h = absurd (true≢false (sym h))
some_first (Some x) p h = refl

pub first_paths : (a b : Tree) → AllPaths (a ++ b) → AllPaths a
first_paths a b all q h = all q (ap is_some (at_append a b q) ∙ some_first (at a q) (at b q) h)

pub second_paths : (a b : Tree) → AllPaths (a ++ b) → AllPaths b
second_paths a b all q h = all q (ap is_some (at_append a b q) ∙ some_second (at a q) (at b q) h)

-- what is left begins with a child
pub left_is : (before : Bytes) (child : Child) (rest : List Child)
    → prefixed before (flat (rows_of (child ∷ rest))) ≡ prefixed (before ++ child.key.value.items) (member_tree (member_of child.node)) ++ prefixed before
    (flat (rows_of rest))
left_is before child rest =
    prefixed_append before (row_tree child) (flat (rows_of rest))
    ∙ ap (λ (t : Tree). t ++ prefixed before (flat (rows_of rest))) (prefixed_prefixed before child.key.value.items (member_tree (member_of child.node)))

-- and what was put so far ends with it
pub so_far_is : (before : Bytes) (cs : List Child) (child : Child)
    → prefixed before (flat (rows_of (cs ++ child ∷ []))) ≡ prefixed before (flat (rows_of cs)) ++ prefixed (before ++ child.key.value.items)
    (member_tree (member_of child.node))
so_far_is before cs child =
    ap (prefixed before) (flat_push cs child)
    ∙ prefixed_append before (flat (rows_of cs)) (row_tree child)
    ∙ ap (λ (t : Tree). prefixed before (flat (rows_of cs)) ++ t) (prefixed_prefixed before child.key.value.items (member_tree (member_of child.node)))

-- the path of a file
pub file_path : (k : Bytes) (x : Entry) → AllPaths (prefixed k (member_tree (file x))) → IsPath k
file_path k x all = subst (λ (q : Bytes). IsPath q) (append-nil k) (all (k ++ []) (ap (λ b. is_some (cond b (Some x) None)) (tied (k ++ []) (k ++ []) refl)))

-- a folder below is smaller
pub smaller : (child : Child) (rest : List Child) (t : Tree) (n : ℕ) → member_of child.node ≡ folder t → AllFit (rows_of (child ∷ rest))
    → total (flat (rows_of (child ∷ rest))) ≤ n → total t < n
smaller child rest t n is fit h =
    let key = child.key.value.items in
    let fits : Fits key (folder t) = subst (λ (p : Member). Fits key p) is fit.0 in
    let whole : total (flat (rows_of (child ∷ rest))) ≡ total (row_tree child) + total (flat (rows_of rest)) =
    total_append (row_tree child) (flat (rows_of rest)) in
    let row : total (row_tree child) ≡ total (prefixed key t) = ap (λ (p : Member). total (prefixed key (member_tree p))) is in
    omega (arith, h, whole, row, fits.1, total_prefixed key t (key_long key fits.0))

pub less_left : (child : Child) (rest : List Child) (n : ℕ) → total (flat (rows_of (child ∷ rest))) ≤ n → total (flat (rows_of rest)) ≤ n
less_left child rest n h = omega (arith, h, total_append (row_tree child) (flat (rows_of rest)))

-- the paths of one part of the rows, and then those of the other
pub parts_are : (before : Bytes) (a b : TreeOf Member) → prefixed before (flat (a ++ b)) ≡ prefixed before (flat a) ++ prefixed before (flat b)
parts_are before a b = ap (prefixed before) (flat_append a b) ∙ prefixed_append before (flat a) (flat b)
