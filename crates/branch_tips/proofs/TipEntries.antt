-- The entries of an ordered map against the plain list of tips.
use Rattle.std.proofs.Common.{◌≡◌, ℕ, Bool, true, false, cond, not, List, [], ◌∷◌, refl, sym, ap, subst, ◌∙◌, Some, None, is_some, bytes_eq, true≢false, Vec}
use Rattle.std.proofs.lemmas.Cmp.{nat_list_cmp_total}
use Rattle.std.specs.Ordering.{nat_cmp, is_eq, match_ordering}
use Rattle.std.specs.declared.cmp.Ordering.{Ordering}
use Rattle.std.specs.declared.cmp.Ordering.TheVariants.{Less, Equal, Greater}
use Rattle.std.specs.List.{AllByRecursion}
use Rattle.std.specs.List.Sorted.{IsStrictlySortedBy}
use Rattle.std.specs.Map.{keys_of, lookup, remove_entry, set_value}
use Rattle.std.specs.BTreeMap.{insert_entry, is_at}
use Rattle.std.specs.Cmp.Lexicographic.{slice_cmp, texts_ties}
use Rattle.std.specs.FinMap.{slice_cmp-IsAntisymmetric, nat_cmp-IsAntisymmetric}
use Rattle.plain_model.specs.Paths.{Bytes}
use Rattle.plain_model.specs.Trees.{TreeOf, at, put, where_path}
use Rattle.history_laws.proofs.Lists.{all_imply}
use Rattle.history_laws.proofs.TreeLaws.{tied}
use Rattle.branch_tips.specs.Entries.{tips_in, AreInOrder}

abbrev by_bytes : Bytes → Bytes → Ordering
by_bytes = slice_cmp nat_cmp

less_is_no_tie : (o : Ordering) → o ≡ Less → is_eq o ≡ false
less_is_no_tie Less h = refl
less_is_no_tie Equal h = ap is_eq h
less_is_no_tie Greater h = refl

module _ {A : Type 0} where
  -- what is looked up
  pub at_tips : (b : Bytes) (es : List (Vec ℕ A × ℕ)) → lookup (is_at (λ k. by_bytes b k.items)) es ≡ at (tips_in es) b
  at_tips b [] = refl
  at_tips b (e ∷ es) = ap (cond (is_eq (by_bytes b e.0.items)) (Some e.1)) (at_tips b es)

  -- what is put in
  pub put_tips : (k : Vec ℕ A) (x : ℕ) (es : List (Vec ℕ A × ℕ)) → tips_in (insert_entry (λ x y. by_bytes x.items y.items) es k x) ≡ put k.items x (tips_in es)
  put_tips k x [] = refl
  put_tips k x (e ∷ es) = go (by_bytes k.items e.0.items) (put_tips k x es)
    where
      go : (o : Ordering) → tips_in (insert_entry (λ x y. by_bytes x.items y.items) es k x) ≡ put k.items x (tips_in es)
          → tips_in (match_ordering o ((k, x) ∷ e ∷ es) ((e.0, x) ∷ es) (e ∷ insert_entry (λ x y. by_bytes x.items y.items) es k x))
          ≡ match_ordering o ((k.items, x) ∷ (e.0.items, e.1) ∷ tips_in es) ((e.0.items, x) ∷ tips_in es) ((e.0.items, e.1) ∷ put k.items x (tips_in es))
      go Less h = refl
      go Equal h = refl
      go Greater h = ap (λ (l : TreeOf ℕ). (e.0.items, e.1) ∷ l) h

  -- a branch that is less than all is none of them
  pub none_there : (b : Bytes) (es : List (Vec ℕ A × ℕ)) → AllByRecursion (λ (k : Vec ℕ A). by_bytes b k.items ≡ Less) (keys_of es) → lookup (is_at (λ k. by_bytes b k.items)) es ≡ None
  none_there b [] h = refl
  none_there b (e ∷ es) h = ap (λ t. cond t (Some e.1) (lookup (is_at (λ k. by_bytes b k.items)) es)) (less_is_no_tie (by_bytes b e.0.items) h.0) ∙ none_there b es h.1

  pub less_than_all : (b : Bytes) (e : Vec ℕ A) (ks : List (Vec ℕ A)) → by_bytes b e.items ≡ Less → AllByRecursion (λ (k : Vec ℕ A). by_bytes e.items k.items ≡ Less) ks → AllByRecursion (λ (k : Vec ℕ A). by_bytes b k.items ≡ Less) ks
  less_than_all b e ks less h = all_imply (λ (k : Vec ℕ A). by_bytes e.items k.items ≡ Less) (λ k. by_bytes b k.items ≡ Less) (λ k later. nat_list_cmp_total.trans b e.items k.items less later) ks h

  -- what is put in the place of another tip
  pub set_tips : (b : Bytes) (x : ℕ) (es : List (Vec ℕ A × ℕ)) → AreInOrder es → is_some (lookup (is_at (λ k. by_bytes b k.items)) es) ≡ true → tips_in (set_value (is_at (λ k. by_bytes b k.items)) es x) ≡ put b x (tips_in es)
  unfolding IsStrictlySortedBy
  set_tips b x [] h there = absurd (true≢false (sym there))
  set_tips b x (e ∷ es) h there = go (by_bytes b e.0.items) refl (λ found. set_tips b x es h.1 found) there
    where
      go : (o : Ordering) → by_bytes b e.0.items ≡ o
          → (is_some (lookup (is_at (λ k. by_bytes b k.items)) es) ≡ true → tips_in (set_value (is_at (λ k. by_bytes b k.items)) es x) ≡ put b x (tips_in es))
          → is_some (cond (is_eq o) (Some e.1) (lookup (is_at (λ k. by_bytes b k.items)) es)) ≡ true
          → tips_in (cond (is_eq o) ((e.0, x) ∷ es) (e ∷ set_value (is_at (λ k. by_bytes b k.items)) es x))
          ≡ match_ordering o ((b, x) ∷ (e.0.items, e.1) ∷ tips_in es) ((e.0.items, x) ∷ tips_in es) ((e.0.items, e.1) ∷ put b x (tips_in es))
      go Less is later found = absurd (true≢false (sym found ∙ ap is_some (none_there b es (less_than_all b e.0 (keys_of es) is h.0))))
      go Equal is later found = refl
      go Greater is later found = ap (λ (l : TreeOf ℕ). (e.0.items, e.1) ∷ l) (later found)

  -- branches after a lesser one are others
  all_kept : (b : Bytes) (es : List (Vec ℕ A × ℕ)) → AllByRecursion (λ (k : Vec ℕ A). by_bytes b k.items ≡ Less) (keys_of es) → where_path (λ q. not (bytes_eq b q)) (tips_in es) ≡ tips_in es
  all_kept b [] h = refl
  all_kept b (e ∷ es) h =
      let other : bytes_eq b e.0.items ≡ false = texts_ties b e.0.items ∙ less_is_no_tie (by_bytes b e.0.items) h.0 in
      let rest = all_kept b es h.1 in
      ap (λ t. cond (not t) ((e.0.items, e.1) ∷ where_path (λ q. not (bytes_eq b q)) (tips_in es)) (where_path (λ q. not (bytes_eq b q)) (tips_in es))) other
      ∙ ap (λ (l : TreeOf ℕ). (e.0.items, e.1) ∷ l) rest

  -- what is taken out
  pub removed_tips : (b : Bytes) (es : List (Vec ℕ A × ℕ)) → AreInOrder es → tips_in (remove_entry (is_at (λ k. by_bytes b k.items)) es) ≡ where_path (λ q. not (bytes_eq b q)) (tips_in es)
  unfolding IsStrictlySortedBy
  removed_tips b [] h = refl
  removed_tips b (e ∷ es) h = go (is_eq (by_bytes b e.0.items)) refl (removed_tips b es h.1)
    where
      go : (t : Bool) → is_eq (by_bytes b e.0.items) ≡ t → tips_in (remove_entry (is_at (λ k. by_bytes b k.items)) es) ≡ where_path (λ q. not (bytes_eq b q)) (tips_in es)
          → tips_in (cond (is_eq (by_bytes b e.0.items)) es (e ∷ remove_entry (is_at (λ k. by_bytes b k.items)) es))
          ≡ cond (not (bytes_eq b e.0.items)) ((e.0.items, e.1) ∷ where_path (λ q. not (bytes_eq b q)) (tips_in es)) (where_path (λ q. not (bytes_eq b q)) (tips_in es))
      go true t rest =
          let same : b ≡ e.0.items = slice_cmp-IsAntisymmetric nat_cmp-IsAntisymmetric b e.0.items (tied (by_bytes b e.0.items) t) in
          let kept : where_path (λ q. not (bytes_eq b q)) (tips_in es) ≡ tips_in es = all_kept b es (subst (λ (x : Bytes). AllByRecursion (λ (k : Vec ℕ A). by_bytes x k.items ≡ Less) (keys_of es)) (sym same) h.0) in
          ap (λ u. tips_in (cond u es (e ∷ remove_entry (is_at (λ k. by_bytes b k.items)) es))) t
          ∙ sym kept
          ∙ sym (ap (λ u. cond (not u) ((e.0.items, e.1) ∷ where_path (λ q. not (bytes_eq b q)) (tips_in es)) (where_path (λ q. not (bytes_eq b q)) (tips_in es))) (texts_ties b e.0.items ∙ t))
      go false t rest =
          ap (λ u. tips_in (cond u es (e ∷ remove_entry (is_at (λ k. by_bytes b k.items)) es))) t
          ∙ ap (λ (l : TreeOf ℕ). (e.0.items, e.1) ∷ l) rest
          ∙ sym (ap (λ u. cond (not u) ((e.0.items, e.1) ∷ where_path (λ q. not (bytes_eq b q)) (tips_in es)) (where_path (λ q. not (bytes_eq b q)) (tips_in es))) (texts_ties b e.0.items ∙ t))
