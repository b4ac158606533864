-- Walks along a list.
use Rattle.std.proofs.Common.{◌≡◌, ◌∙◌, ℕ, zero, suc, ◌+◌, ◌<◌, ◌≤◌, List, [], ◌∷◌, ◌++◌, Some, None, refl, ap, sym, length, take, drop, get_or, append_assoc, arith, length-append}
use Rattle.std.proofs.lemmas.Option.{none-some, same_Some}
use Rattle.std.specs.List.{fold}
use Rattle.std.specs.Prelude.{flat_map, slice_get}

module _ {X : Type 0} where
  none_at : (x : X) → None ≡ Some x → ⊥
  none_at x h = none-some x h

  -- one item more
  pub take_item : (xs : List X) (k : ℕ) (x : X) → slice_get xs k ≡ Some x → take (suc k) xs ≡ take k xs ++ x ∷ []
  take_item [] k x h = absurd (none_at x h)
  take_item (y ∷ xs) zero x h = ap (λ z. z ∷ []) (sym (same_Some x y (sym h)))
  take_item (y ∷ xs) (suc k) x h = ap (λ ys. y ∷ ys) (take_item xs k x h)

  pub take_all : (xs : List X) (n : ℕ) → length xs ≤ n → take n xs ≡ xs
  take_all [] zero h = refl
  take_all [] (suc n) h = refl
  take_all (x ∷ xs) zero h = absurd (omega arith)
  take_all (x ∷ xs) (suc n) h = ap (λ ys. x ∷ ys) (take_all xs n (omega arith))

  pub take_more : (xs : List X) (k : ℕ) (x : X) → k < length xs → x ≡ get_or xs k x → take (suc k) xs ≡ take k xs ++ x ∷ []
  take_more [] k x h g = absurd (omega arith)
  take_more (y ∷ xs) zero x h g = rw (← g) refl
  take_more (y ∷ xs) (suc k) x h g = ap (λ ys. y ∷ ys) (take_more xs k x (omega arith) g)

  -- an item begins what is left
  pub drop_item : (xs : List X) (k : ℕ) (x : X) → slice_get xs k ≡ Some x → drop k xs ≡ x ∷ drop (suc k) xs
  drop_item [] k x h = absurd (none_at x h)
  drop_item (y ∷ xs) zero x h = ap (λ z. z ∷ xs) (sym (same_Some x y (sym h)))
  drop_item (y ∷ xs) (suc k) x h = drop_item xs k x h

  pub append-nil : (xs : List X) → xs ++ [] ≡ xs
  append-nil [] = refl
  append-nil (x ∷ xs) = ap (λ ys. x ∷ ys) (append-nil xs)

module _ {X Y : Type 0} (f : X → List Y) where
  -- what a function gives along the list
  pub flat_take_item : (xs : List X) (k : ℕ) (x : X) → slice_get xs k ≡ Some x → flat_map f (take (suc k) xs) ≡ flat_map f (take k xs) ++ f x
  flat_take_item [] k x h = absurd (none-some x h)
  flat_take_item (y ∷ xs) zero x h = ap (λ z. f z ++ []) (sym (same_Some x y (sym h))) ∙ append-nil (f x)
  flat_take_item (y ∷ xs) (suc k) x h = ap (λ ys. f y ++ ys) (flat_take_item xs k x h) ∙ sym (append_assoc (f y) (flat_map f (take k xs)) (f x))

  pub flat_split : (xs : List X) (k : ℕ) → flat_map f (take k xs) ++ flat_map f (drop k xs) ≡ flat_map f xs
  flat_split [] zero = refl
  flat_split [] (suc k) = refl
  flat_split (x ∷ xs) zero = refl
  flat_split (x ∷ xs) (suc k) = append_assoc (f x) (flat_map f (take k xs)) (flat_map f (drop k xs)) ∙ ap (λ ys. f x ++ ys) (flat_split xs k)

  pub length_flat_drop : (xs : List X) (k : ℕ) → length (flat_map f (drop k xs)) ≤ length (flat_map f xs)
  length_flat_drop xs k =
      let s = sym (length-append (flat_map f (take k xs)) (flat_map f (drop k xs))) ∙ ap length (flat_split xs k) in
      omega arith

  pub length_flat_item : (xs : List X) (k : ℕ) (x : X) → slice_get xs k ≡ Some x →
      length (flat_map f (drop k xs)) ≡ length (f x) + length (flat_map f (drop (suc k) xs))
  length_flat_item xs k x h = ap (λ ys. length (flat_map f ys)) (drop_item xs k x h) ∙ length-append (f x) (flat_map f (drop (suc k) xs))

pub fold_push : {X : Type 0} (f : ℕ → X → ℕ) (a : ℕ) (xs : List X) (x : X) → fold f a (xs ++ x ∷ []) ≡ f (fold f a xs) x
fold_push f a [] x = refl
fold_push f a (y ∷ xs) x = fold_push f (f a y) xs x
