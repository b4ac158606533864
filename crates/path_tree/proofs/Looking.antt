-- What is found in a folder.
use Rattle.std.proofs.Common.{◌≡◌, ◌==◌, ◌<◌, ◌+◌, Bool, true, false, cond, not, [], ◌∷◌, ◌++◌, length, refl, sym, ap, subst, ◌∙◌, Option, Some, None, true≢false, arith}
use Rattle.std.specs.Ordering.{eq_by_cmp}
use Rattle.std.proofs.lemmas.Bool.Decides.{nat_tests}
use Rattle.plain_model.specs.declared.operation.Entry.{Entry}
use Rattle.std.specs.Prelude.{◌&&◌, Result, Ok, Err, IfOk}
use Rattle.plain_model.specs.Paths.{Bytes, is_empty}
use Rattle.plain_model.specs.Trees.{TreeOf, Tree, at}
use Rattle.history_laws.proofs.TreeLaws.{by_bytes, same_path}
use Rattle.path_tree.specs.Folders.{Member, key_of, rest_of, is_file_key, is_folder_key, flat, tree_under, filled, at_member, Fits, AllFit, AreSound}
use Rattle.path_tree.specs.Folders.Member.{file, folder}
use Rattle.path_tree.specs.Setting.{FitsIf}
use Rattle.path_tree.proofs.Keys.{whole, at_flat}

pub length_both : (a b : Bytes) → length (a ++ b) ≡ length a + length b
length_both [] b = omega arith
length_both (x ∷ a) b = omega (arith, length_both a b)

pub rest_shorter : (q : Bytes) → 0 < length (key_of q) → length (rest_of q) < length q
rest_shorter q h = omega (arith, h, length_both (key_of q) (rest_of q), ap (λ (x : Bytes). length x) (whole q))

-- what is under a key fits it
pub fits_at : (k : Bytes) (p : Member) (rows : TreeOf Member) → AllFit rows → at rows k ≡ Some p → Fits k p
fits_at k p [] h e = absurd cc
fits_at k p (r ∷ rs) h e = by (fits_at k p rs) (eq_by_cmp by_bytes k r.0) refl e
  where
    by : (AllFit rs → at rs k ≡ Some p → Fits k p) → (t : Bool) → eq_by_cmp by_bytes k r.0 ≡ t → cond t (Some r.1) (at rs k) ≡ Some p → Fits k p
    by again true same e =
        let is : r.1 ≡ p = cc in
        subst (λ (x : Bytes). Fits x p) (sym (same_path k r.0 same)) (subst (λ (x : Member). Fits r.0 x) is h.0)
    by again false other e = again h.1 e

pub looked : (v : Tree) (rows : TreeOf Member) (path key rest : Bytes) (o : Option Member) → flat rows ≡ v → AreSound rows → key ≡ key_of path
    → rest ≡ rest_of path
    → o ≡ at rows key → at_member o rest ≡ at v path
looked v rows path key rest o is sound is_key is_rest found =
    ap (λ o. at_member o rest) found ∙ ap (λ k. at_member (at rows k) rest) is_key ∙ ap (λ r. at_member (at rows (key_of path)) r) is_rest
    ∙ sym (at_flat rows path sound) ∙ ap (λ (t : Tree). at t path) is

pub at_file_end : (rest : Bytes) (entry : Entry) → true ≡ (length rest == 0) → Some entry ≡ at_member (Some (file entry)) rest
at_file_end [] entry h = refl
at_file_end (r ∷ rest) entry h = absurd (grind (arith, nat_tests))

pub at_file_more : (rest : Bytes) (entry : Entry) → false ≡ (length rest == 0) → None ≡ at_member (Some (file entry)) rest
at_file_more [] entry h = absurd (grind (arith, nat_tests))
at_file_more (r ∷ rest) entry h = refl

-- ---- under a folder's key there is a folder or nothing

pub not_both : (k : Bytes) → is_file_key k ≡ true → is_folder_key k ≡ true → ⊥
not_both [] f h = absurd (true≢false (sym h))
not_both (b ∷ k) f h = by (b == 47) f h (not_both k)
  where
    by : (t : Bool) → (not t && is_file_key k) ≡ true → cond t (is_empty k) (is_folder_key k) ≡ true → (is_file_key k ≡ true → is_folder_key k ≡ true → ⊥) → ⊥
    by true f h again = absurd (true≢false (sym f))
    by false f h again = again f h

pub at_tree_under : (k : Bytes) (o : Option Member) → FitsIf k o → is_folder_key k ≡ true → (r : Bytes) → at_member o r ≡ at (tree_under o) r
at_tree_under k None f h r = refl
at_tree_under k (Some (file entry)) f h r = absurd (not_both k f h)
at_tree_under k (Some (folder tree)) f h r = refl

pub empty_of : (r : Bytes) (b : Bool) → b ≡ (length r == 0) → is_empty r ≡ b
empty_of [] b h = sym h
empty_of (x ∷ r) true h = absurd (grind (arith, nat_tests))
empty_of (x ∷ r) false h = refl

pub at_filled : (t : Tree) (r : Bytes) → at_member (filled t) r ≡ at t r
at_filled [] r = refl
at_filled (e ∷ es) r = refl

-- under an Ok
pub if_ok : {V E : Type 0} {P Q : V → Type 0} (r : Result V E) → IfOk r P → ((v : V) → P v → Q v) → IfOk r Q
if_ok (Ok v) h f = f v h
if_ok (Err e) h f = tt
