-- A folder that is found below another.
use Rattle.std.proofs.Common.{◌≡◌, Bool, true, false, [], ◌∷◌, ◌++◌, refl, sym, ap, ◌∙◌, Option, Some, None, true≢false, append_assoc}
use Rattle.plain_model.specs.Paths.{Bytes, is_empty}
use Rattle.plain_model.specs.Trees.{TreeOf, Tree, at}
use Rattle.path_tree.specs.Folders.{Member, key_of, rest_of, is_folder_key, flat, at_member, AreSound, tree_under}
use Rattle.path_tree.specs.Setting.{ends_with_slash, FitsIf}
use Rattle.path_tree.proofs.Keys.{whole, at_flat, folder_splits, Splits}
use Rattle.path_tree.proofs.Looking.{fits_at, at_tree_under}
use Rattle.path_tree.proofs.Setting.{long_is_folder, slash_of_key}

pub slashed_key : (p : Bytes) → ends_with_slash p ≡ true → is_folder_key (key_of p) ≡ true
slashed_key p h = by (is_empty (rest_of p)) refl
  where
    by : (t : Bool) → is_empty (rest_of p) ≡ t → is_folder_key (key_of p) ≡ true
    by true e = sym (slash_of_key p e) ∙ h
    by false e = long_is_folder p e

-- what is after a folder's path is in the folder of its first key
pub at_longer : (v : Tree) (rows : TreeOf Member) (p r : Bytes) → flat rows ≡ v → AreSound rows → ends_with_slash p ≡ true
    → at v (p ++ r) ≡ at (tree_under (at rows (key_of p))) (rest_of p ++ r)
at_longer v rows p r is s h =
    ap (λ (t : Tree). at t (p ++ r)) (sym is)
    ∙ at_flat rows (p ++ r) s
    ∙ ap (λ (x : Bytes). at_member (at rows (key_of x)) (rest_of x)) long
    ∙ ap (λ (k : Bytes). at_member (at rows k) (rest_of (key_of p ++ (rest_of p ++ r)))) splits.key
    ∙ ap (λ (x : Bytes). at_member (at rows (key_of p)) x) splits.rest
    ∙ at_tree_under (key_of p) (at rows (key_of p)) (fit (at rows (key_of p)) refl) (slashed_key p h) (rest_of p ++ r)
  where
    long : p ++ r ≡ key_of p ++ (rest_of p ++ r)
    long = ap (λ (x : Bytes). x ++ r) (sym (whole p)) ∙ append_assoc (key_of p) (rest_of p) r

    splits : Splits (key_of p) (rest_of p ++ r)
    splits = folder_splits (key_of p) (rest_of p ++ r) (slashed_key p h)

    fit : (o : Option Member) → at rows (key_of p) ≡ o → FitsIf (key_of p) o
    fit None e = tt
    fit (Some q) e = fits_at (key_of p) q rows s.all_fit e

pub in_found : (t : Tree) (rest r : Bytes) → is_empty rest ≡ true → at t (rest ++ r) ≡ at t r
in_found t [] r h = refl
in_found t (b ∷ rest) r h = absurd (true≢false (sym h))
