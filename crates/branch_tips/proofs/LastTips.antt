-- The tips with that of the branch that was set last.
use Rattle.std.proofs.Common.{◌≡◌, ℕ, Bool, true, false, cond, List, [], ◌∷◌, refl, sym, ap, subst, ◌∙◌, Option, Some, None, is_some, bytes_eq, true≢false, Vec}
use Rattle.std.specs.Prelude.{IfSome, unwrap_or}
use Rattle.std.specs.Ordering.{is_eq}
use Rattle.std.specs.Option.{option_or}
use Rattle.std.specs.declared.cmp.Ordering.{Ordering}
use Rattle.std.specs.declared.cmp.Ordering.TheVariants.{Less, Equal, Greater}
use Rattle.std.specs.Cmp.{tied_itself, eq_by_cmp_equiv}
use Rattle.std.specs.Cmp.Lexicographic.{nat_list_cmp_total, texts_ties, bytes_decides}
use Rattle.std.specs.List.{AllByRecursion}
use Rattle.std.specs.List.Sorted.{IsStrictlySortedBy}
use Rattle.std.specs.Map.{keys_of}
use Rattle.std.specs.FinMap.{slice_cmp-IsAntisymmetric, nat_cmp-IsAntisymmetric}
use Rattle.std.specs.FinMap.Entries as entries
use Rattle.plain_model.specs.Paths.{Bytes}
use Rattle.plain_model.specs.Trees.{TreeOf, at, has, put}
use Rattle.history_laws.proofs.TreeLaws.{by_bytes, at_put}
use Rattle.branch_tips.proofs.TipEntries.{at_tips, none_there, less_than_all}
use Rattle.branch_tips.specs.Entries.{tips_in, tip_of, tips_with, is_among, AreInOrder}

-- a branch ties with itself
itself : (b : Bytes) → by_bytes b b ≡ Equal
itself b = tied_itself nat_list_cmp_total b

-- what was put first is gone
put_twice : (b : Bytes) (x y : ℕ) (t : TreeOf ℕ) → put b x (put b y t) ≡ put b x t
put_twice b x y [] = rw (itself b) refl
put_twice b x y (e ∷ t) = go (by_bytes b e.0) refl (put_twice b x y t)
  where
    go : (o : Ordering) → by_bytes b e.0 ≡ o → put b x (put b y t) ≡ put b x t
        → put b x (entries.by_order o ((b, y) ∷ e ∷ t) ((e.0, y) ∷ t) (e ∷ put b y t)) ≡ entries.by_order o ((b, x) ∷ e ∷ t) ((e.0, x) ∷ t) (e ∷ put b x t)
    go Less is rest = simp (itself b) refl
    go Equal is rest = simp is refl
    go Greater is rest = simp is (ap (λ (l : TreeOf ℕ). e ∷ l) rest)

-- what is put is there
has_itself : (b : Bytes) (x : ℕ) (t : TreeOf ℕ) → has (put b x t) b ≡ true
has_itself b x t = ap is_some (at_put b b x t) ∙ ap (λ o. is_some (cond (is_eq o) (Some x) (at t b))) (itself b)

-- what is found is the tip of the last branch, if it is this one, or else what the others have
pub found_with : (last : Option (Bytes × ℕ)) (b : Bytes) (t : TreeOf ℕ) → at (tips_with last t) b ≡ option_or (tip_of last b) (at t b)
found_with None b t = refl
found_with (Some l) b t =
    at_put l.0 b l.1 t
    ∙ ap (λ u. cond u (Some l.1) (at t b)) ((eq_by_cmp_equiv nat_list_cmp_total).symm b l.0 ∙ sym (texts_ties l.0 b))
    ∙ go (bytes_eq l.0 b)
  where
    go : (u : Bool) → cond u (Some l.1) (at t b) ≡ option_or (cond u (Some l.1) None) (at t b)
    go true = refl
    go false = refl

-- that the last branch moves on is that it is put
pub moved_with : (last : Option (Bytes × ℕ)) (b : Bytes) (x : ℕ) (t : TreeOf ℕ) → is_some (tip_of last b) ≡ true → tips_with (Some (b, x)) t ≡ put b x (tips_with last t)
moved_with None b x t h = absurd (true≢false (sym h))
moved_with (Some l) b x t h = sym (put_twice b x l.1 t) ∙ ap (λ p. put b x (put p l.1 t)) (sym ((bytes_decides l.0 b).0 (if_there (bytes_eq l.0 b) h)))
  where
    if_there : (u : Bool) → is_some (cond u (Some l.1) None) ≡ true → u ≡ true
    if_there true h = refl
    if_there false h = absurd (true≢false (sym h))

-- where a branch was put, and is kept as the last or isn't, the tips are the same
pub kept_with : (last : Option (Bytes × ℕ)) (b : Bytes) (x : ℕ) (t : TreeOf ℕ) → IfSome last (λ l. l ≡ (b, x)) → tips_with last (put b x t) ≡ put b x t
kept_with None b x t h = refl
kept_with (Some l) b x t h = ap (λ (l : Bytes × ℕ). put l.0 l.1 (put b x t)) h ∙ put_twice b x x t

-- a branch that was put is among the tips
pub kept_among : (last : Option (Bytes × ℕ)) (b : Bytes) (x : ℕ) (t : TreeOf ℕ) → IfSome last (λ l. l ≡ (b, x)) → is_among last (put b x t) ≡ true
kept_among None b x t h = refl
kept_among (Some l) b x t h = ap (λ (l : Bytes × ℕ). has (put b x t) l.0) h ∙ has_itself b x t

-- the tips, each as it is now
abbrev pub newest : Option (Bytes × ℕ) → TreeOf ℕ → TreeOf ℕ
newest last [] = []
newest last (t ∷ ts) = (t.0, unwrap_or (tip_of last t.0) t.1) ∷ newest last ts

module _ {A : Type 0} where
  -- branches after a lesser one are as they were
  others_stay : (b : Bytes) (x : ℕ) (es : List (Vec ℕ A × ℕ)) → AllByRecursion (λ (k : Vec ℕ A). by_bytes b k.items ≡ Less) (keys_of es) → newest (Some (b, x)) (tips_in es) ≡ tips_in es
  others_stay b x [] h = refl
  others_stay b x (e ∷ es) h =
      ap (λ (u : Bool). (e.0.items, unwrap_or (cond u (Some x) None) e.1) ∷ newest (Some (b, x)) (tips_in es)) (texts_ties b e.0.items ∙ ap is_eq h.0)
      ∙ ap (λ (l : TreeOf ℕ). (e.0.items, e.1) ∷ l) (others_stay b x es h.1)

  -- the tips as they are now are those with the one branch put
  one_newer : (b : Bytes) (x : ℕ) (es : List (Vec ℕ A × ℕ)) → AreInOrder es → has (tips_in es) b ≡ true → newest (Some (b, x)) (tips_in es) ≡ put b x (tips_in es)
  unfolding IsStrictlySortedBy
  one_newer b x [] h there = absurd (true≢false (sym there))
  one_newer b x (e ∷ es) h there =
      ap (λ (u : Bool). (e.0.items, unwrap_or (cond u (Some x) None) e.1) ∷ newest (Some (b, x)) (tips_in es)) (texts_ties b e.0.items)
      ∙ go (by_bytes b e.0.items) refl (λ later. one_newer b x es h.1 later) there
    where
      go : (o : Ordering) → by_bytes b e.0.items ≡ o → (has (tips_in es) b ≡ true → newest (Some (b, x)) (tips_in es) ≡ put b x (tips_in es)) → is_some (cond (is_eq o) (Some e.1) (at (tips_in es) b)) ≡ true
          → ◌≡◌ {A = TreeOf ℕ} ((e.0.items, unwrap_or (cond (is_eq o) (Some x) None) e.1) ∷ newest (Some (b, x)) (tips_in es)) (entries.by_order o ((b, x) ∷ (e.0.items, e.1) ∷ tips_in es) ((e.0.items, x) ∷ tips_in es) ((e.0.items, e.1) ∷ put b x (tips_in es)))
      go Less is later found = absurd (true≢false (sym found ∙ ap is_some (sym (at_tips b es) ∙ none_there b es (less_than_all b e.0 (keys_of es) is h.0))))
      go Equal is later found =
          let same : b ≡ e.0.items = slice_cmp-IsAntisymmetric nat_cmp-IsAntisymmetric b e.0.items is in
          ap (λ (l : TreeOf ℕ). (e.0.items, x) ∷ l) (others_stay b x es (subst (λ (p : Bytes). AllByRecursion (λ (k : Vec ℕ A). by_bytes p k.items ≡ Less) (keys_of es)) (sym same) h.0))
      go Greater is later found = ap (λ (l : TreeOf ℕ). (e.0.items, e.1) ∷ l) (later found)

  -- the same where there may be no last branch
  pub newest_with : (last : Option (Bytes × ℕ)) (es : List (Vec ℕ A × ℕ)) → AreInOrder es → is_among last (tips_in es) ≡ true → newest last (tips_in es) ≡ tips_with last (tips_in es)
  newest_with None es h there = all_stay (tips_in es)
    where
      all_stay : (t : TreeOf ℕ) → newest None t ≡ t
      all_stay [] = refl
      all_stay (e ∷ t) = ap (λ (l : TreeOf ℕ). e ∷ l) (all_stay t)
  newest_with (Some l) es h there = one_newer l.0 l.1 es h there
