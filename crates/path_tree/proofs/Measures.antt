-- How many paths there are, and how long the longest is.
use Rattle.std.proofs.Common.{◌≡◌, ℕ, ◌<◌, ◌+◌, List, [], ◌∷◌, ◌++◌, length, max, refl, sym, ap, ◌∙◌, arith, append-nil, append_assoc}
use Rattle.plain_model.specs.Paths.{Bytes}
use Rattle.plain_model.specs.Trees.{Tree, TreeOf}
use Rattle.path_tree.specs.declared.folder.Child.{Child}
use Rattle.path_tree.specs.Folders.{Member, prefixed, member_tree, flat, longest}
use Rattle.path_tree.specs.declared.folder.extent.Extent.{Extent}
use Rattle.path_tree.specs.Inside.{rows_of, row_tree, bounded, extent_of}

length_both : (a b : Bytes) → length (a ++ b) ≡ length a + length b
length_both [] b = omega arith
length_both (x ∷ a) b = omega (arith, length_both a b)

pub length_prefixed : (k : Bytes) (t : Tree) → length (prefixed k t) ≡ length t
length_prefixed k [] = refl
length_prefixed k (e ∷ t) = omega (arith, length_prefixed k t)

pub longest_prefixed : (k : Bytes) (t : Tree) → 0 < length t → longest (prefixed k t) ≡ length k + longest t
longest_prefixed k [] h = absurd (omega arith)
longest_prefixed k (e ∷ []) h = omega (arith, length_both k e.0)
longest_prefixed k (e ∷ f ∷ t) h = omega (arith, length_both k e.0, longest_prefixed k (f ∷ t) (omega arith))

pub trees_append : (a b : Tree) → length (a ++ b) ≡ length a + length b
trees_append [] b = omega arith
trees_append (e ∷ a) b = omega (arith, trees_append a b)

pub longest_append : (a b : Tree) → longest (a ++ b) ≡ max (longest a) (longest b)
longest_append [] b = omega arith
longest_append (e ∷ a) b = omega (arith, longest_append a b)

pub flat_push : (cs : List Child) (c : Child) → flat (rows_of (cs ++ c ∷ [])) ≡ flat (rows_of cs) ++ row_tree c
flat_push [] c = append-nil (row_tree c)
flat_push (b ∷ cs) c = ap (λ (t : Tree). row_tree b ++ t) (flat_push cs c) ∙ sym (append_assoc (row_tree b) (flat (rows_of cs)) (row_tree c))

pub extent_by : (s t : Tree) → length s ≡ length t → longest s ≡ longest t → extent_of s ≡ extent_of t
extent_by s t n l = ap (λ x. extent_from x (longest s)) n ∙ ap (λ x. extent_from (length t) x) l
  where
    extent_from : ℕ → ℕ → Extent
    extent_from n l = record { count = bounded n; longest = bounded l }

-- the order of the parts doesn't count
pub extent_turned : (a r b : Tree) → extent_of (a ++ (r ++ b)) ≡ extent_of ((a ++ b) ++ r)
extent_turned a r b =
    extent_by (a ++ (r ++ b)) ((a ++ b) ++ r)
    (omega (arith, trees_append a (r ++ b), trees_append r b, trees_append (a ++ b) r, trees_append a b))
    (omega (arith, longest_append a (r ++ b), longest_append r b, longest_append (a ++ b) r, longest_append a b))

pub flat_append : (a b : TreeOf Member) → flat (a ++ b) ≡ flat a ++ flat b
flat_append [] b = refl
flat_append (r ∷ a) b =
    ap (λ (t : Tree). prefixed r.0 (member_tree r.1) ++ t) (flat_append a b) ∙ sym (append_assoc (prefixed r.0 (member_tree r.1)) (flat a) (flat b))

-- the paths of one row, and those of the rows around it
pub extent_spliced : (a r b : TreeOf Member) → extent_of (flat (a ++ (r ++ b))) ≡ extent_of ((flat a ++ flat b) ++ flat r)
extent_spliced a r b =
    ap extent_of (flat_append a (r ++ b) ∙ ap (λ (t : Tree). flat a ++ t) (flat_append r b)) ∙ extent_turned (flat a) (flat r) (flat b)

-- the parts of an extent
pub count_is : (e : Extent) (t : Tree) → e ≡ extent_of t → e.count ≡ bounded (length t)
count_is e t h = ap (λ (x : Extent). x.count) h

pub longest_is : (e : Extent) (t : Tree) → e ≡ extent_of t → e.longest ≡ bounded (longest t)
longest_is e t h = ap (λ (x : Extent). x.longest) h

pub extent_is : (e : Extent) (t : Tree) → e.count ≡ bounded (length t) → e.longest ≡ bounded (longest t) → e ≡ extent_of t
extent_is e t n l = ap (λ x. extent_with x e.longest) n ∙ ap (λ x. extent_with (bounded (length t)) x) l
  where
    extent_with : ℕ → ℕ → Extent
    extent_with n l = record { count = n; longest = l }
