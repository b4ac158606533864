-- Images of trees, entry by entry.
use Rattle.std.proofs.Common.{◌≡◌, ℕ, suc, ◌+◌, ◌≤◌, Bool, true, false, cond, T, [], ◌∷◌, length, refl, sym, ap, subst, ◌∙◌, inl, inr, ◌⊎◌, arith, true≢false, is_some, Option, Some, None, nat_lt}
use Rattle.std.specs.Prelude.{◌&&◌}
use Rattle.std.specs.List.{AllByRecursion}
use Rattle.std.specs.Option.{option_or}
use Rattle.std.specs.Ordering.{eq_by_cmp, is_eq, is_lt}
use Rattle.std.specs.declared.cmp.Ordering.{Ordering}
use Rattle.std.specs.declared.cmp.Ordering.TheVariants.{Less, Equal, Greater}
use Rattle.std.specs.Cmp.Lexicographic.{nat_list_cmp_total}
use Rattle.std.specs.FinMap.Entries as entries
use Rattle.std.proofs.lemmas.Bool.{or_parts}
use Rattle.plain_model.specs.declared.limit.TheConstants.{MAX_PATH_BYTES}
use Rattle.plain_model.specs.declared.operation.Entry.{Entry}
use Rattle.plain_model.specs.Paths.{Bytes, do_conflict}
use Rattle.plain_model.specs.Trees.{IsTree, Tree, TreeOf, at, has, has_long_path, put_all, where_path}
use Rattle.history_laws.proofs.TreeLaws.{at_put, at_where, by_bytes, has_where, same_path}
use Rattle.history_laws.proofs.TreeMaps.{IsOrdered, itself, ordered_put_all, ordered_where, same_tree}
use Rattle.path_move_laws.specs.Apart.{AreApart}
use Rattle.path_move_laws.specs.Images.{image, with_images}

-- ---- entries

module _ {X : Type 0} where
  pub either_there : (b : Bool) (e : X) (o : Option X) → is_some (cond b (Some e) o) ≡ true → (b ≡ true) ⊎ (is_some o ≡ true)
  either_there true e o h = inl refl
  either_there false e o h = inr h

  pub later_there : (b : Bool) (e : X) (o : Option X) → is_some o ≡ true → is_some (cond b (Some e) o) ≡ true
  later_there true e o h = refl
  later_there false e o h = h

  or_later : (b : Bool) (v : X) (o p : Option X) → cond b (Some v) (option_or o p) ≡ option_or (cond b (Some v) o) p
  or_later true v o p = refl
  or_later false v o p = refl

  or_none : (o : Option X) → option_or o None ≡ o
  or_none None = refl
  or_none (Some x) = refl

  -- the first entry is there
  pub first_there : (e : Bytes × X) (es : TreeOf X) → has (e ∷ es) e.0 ≡ true
  first_there e es = ap (λ b. is_some (cond b (Some e.1) (at es e.0))) (itself e.0)

  pub at_all : (es base : TreeOf X) (q : Bytes) → at (put_all es base) q ≡ option_or (at es q) (at base q)
  at_all [] base q = refl
  at_all (e ∷ es) base q =
      at_put e.0 q e.1 (put_all es base)
      ∙ ap (cond (eq_by_cmp by_bytes q e.0) (Some e.1)) (at_all es base q)
      ∙ or_later (eq_by_cmp by_bytes q e.0) e.1 (at es q) (at base q)

-- ---- lists in order

below_each : (k : Bytes) (es : Tree) → T (entries.below_all by_bytes k es) → AllByRecursion (λ e. is_lt (by_bytes k e.0) ≡ true) es
below_each k [] h = tt
below_each k (e ∷ es) h = go (is_lt (by_bytes k e.0)) refl h (λ x. below_each k es x)
  where
    go : (b : Bool) → is_lt (by_bytes k e.0) ≡ b → T (b && entries.below_all by_bytes k es) → (T (entries.below_all by_bytes k es) → AllByRecursion (λ f. is_lt (by_bytes k f.0) ≡ true) es) → AllByRecursion (λ f. is_lt (by_bytes k f.0) ≡ true) (e ∷ es)
    go true x y f = (x, f y)
    go false x y f = absurd y

parts_of_T : (a b : Bool) → T (a && b) → T a × T b
parts_of_T true b h = (tt, h)
parts_of_T false b h = absurd h

no_tie : (r : Ordering) → is_lt r ≡ true → is_eq r ≡ false
no_tie Less h = refl
no_tie Equal h = absurd (true≢false (sym h))
no_tie Greater h = absurd (true≢false (sym h))

none_below : (k : Bytes) (es : Tree) → AllByRecursion (λ e. is_lt (by_bytes k e.0) ≡ true) es → at es k ≡ None
none_below k [] a = refl
none_below k (e ∷ es) a = ap (λ b. cond b (Some e.1) (at es k)) (no_tie (by_bytes k e.0) a.0) ∙ none_below k es a.1

-- what is after the first entry, and in order
pub rest_ordered : (e : Bytes × Entry) (es : Tree) → IsOrdered (e ∷ es) → IsOrdered es
rest_ordered e es h = (parts_of_T (entries.below_all by_bytes e.0 es) (entries.is_sorted by_bytes es) h).1

pub first_below : (e : Bytes × Entry) (es : Tree) → IsOrdered (e ∷ es) → AllByRecursion (λ f. is_lt (by_bytes e.0 f.0) ≡ true) es
first_below e es h = below_each e.0 es (parts_of_T (entries.below_all by_bytes e.0 es) (entries.is_sorted by_bytes es) h).0

-- the first path doesn't come again
pub not_again : (e : Bytes × Entry) (es : Tree) → IsOrdered (e ∷ es) → at es e.0 ≡ None
not_again e es h = none_below e.0 es (first_below e es h)

-- a path that passes stays
pub stays : (test : Bytes → Bool) (t : Tree) (q : Bytes) → test q ≡ true → has t q ≡ true → has (where_path test t) q ≡ true
stays test t q x h = ap is_some (at_where test q t ∙ ap (λ b. cond b (at t q) None) x) ∙ h

-- what isn't there
pub missing : (o : Option Entry) → is_some o ≡ false → o ≡ None
missing None h = refl
missing (Some e) h = absurd (true≢false h)

-- ---- images

module _ (f : Bytes → Bytes) where
  -- a path of an image is the image of a path
  pub came_from : {X : Type 0} (es : TreeOf X) (q : Bytes) → has (with_images f es) q ≡ true → (p : Bytes) × (has es p ≡ true) × (q ≡ f p)
  came_from [] q h = absurd (true≢false (sym h))
  came_from (e ∷ es) q h =
      elim (either_there (eq_by_cmp by_bytes q (f e.0)) e.1 (at (with_images f es) q) h) [
        | inl same ↦ (e.0, first_there e es, same_path q (f e.0) same)
        | inr there ↦ let c = came_from es q there in (c.0, later_there (eq_by_cmp by_bytes c.0 e.0) e.1 (at es c.0) c.1, c.2)
      ]

  tied_images : (p q : Bytes) → eq_by_cmp by_bytes p q ≡ true → eq_by_cmp by_bytes (f p) (f q) ≡ true
  tied_images p q same = subst (λ (x : Bytes). eq_by_cmp by_bytes (f p) (f x) ≡ true) (same_path p q same) (itself (f p))

  -- the image of a path that is there is there
  goes_there : {X : Type 0} (es : TreeOf X) (p : Bytes) → has es p ≡ true → has (with_images f es) (f p) ≡ true
  goes_there [] p h = absurd (true≢false (sym h))
  goes_there (e ∷ es) p h =
      elim (either_there (eq_by_cmp by_bytes p e.0) e.1 (at es p) h) [
        | inl same ↦ ap (λ b. is_some (cond b (Some e.1) (at (with_images f es) (f p)))) (tied_images p e.0 same)
        | inr there ↦ later_there (eq_by_cmp by_bytes (f p) (f e.0)) e.1 (at (with_images f es) (f p)) (goes_there es p there)
      ]

  -- where no other path has the image of a path, there is what is at the path
  pub at_only : {X : Type 0} (es : TreeOf X) (p : Bytes) → ((a : Bytes) → has es a ≡ true → f a ≡ f p → a ≡ p) → at (with_images f es) (f p) ≡ at es p
  at_only [] p only = refl
  at_only (e ∷ es) p only =
      go (eq_by_cmp by_bytes p e.0) refl (eq_by_cmp by_bytes (f p) (f e.0)) refl
      (at_only es p (λ a h same. only a (later_there (eq_by_cmp by_bytes a e.0) e.1 (at es a) h) same))
    where
      go : (b : Bool) → eq_by_cmp by_bytes p e.0 ≡ b → (c : Bool) → eq_by_cmp by_bytes (f p) (f e.0) ≡ c → at (with_images f es) (f p) ≡ at es p
          → cond (eq_by_cmp by_bytes (f p) (f e.0)) (Some e.1) (at (with_images f es) (f p)) ≡ cond (eq_by_cmp by_bytes p e.0) (Some e.1) (at es p)
      go true x c y rest =
          ap (λ b. cond b (Some e.1) (at (with_images f es) (f p))) (tied_images p e.0 x)
          ∙ sym (ap (λ b. cond b (Some e.1) (at es p)) x)
      go false x true y rest =
          let same : e.0 ≡ p = only e.0 (first_there e es) (sym (same_path (f p) (f e.0) y)) in
          absurd (true≢false (sym (subst (λ (q : Bytes). eq_by_cmp by_bytes p q ≡ true) (sym same) (itself p)) ∙ x))
      go false x false y rest =
          ap (λ b. cond b (Some e.1) (at (with_images f es) (f p))) y
          ∙ rest
          ∙ sym (ap (λ b. cond b (Some e.1) (at es p)) x)

  -- the order doesn't count
  pub at_image : {X : Type 0} (t : TreeOf X) (q : Bytes) → at (image f t) q ≡ at (with_images f t) q
  at_image t q = at_all (with_images f t) [] q ∙ or_none (at (with_images f t) q)

  pub image_from : {X : Type 0} (t : TreeOf X) (q : Bytes) → has (image f t) q ≡ true → (p : Bytes) × (has t p ≡ true) × (q ≡ f p)
  image_from t q h = came_from t q (ap is_some (sym (at_image t q)) ∙ h)

  pub image_there : {X : Type 0} (t : TreeOf X) (p : Bytes) → has t p ≡ true → has (image f t) (f p) ≡ true
  image_there t p h = ap is_some (at_image t (f p)) ∙ goes_there t p h

  pub image_ordered : (t : Tree) → IsOrdered (image f t)
  image_ordered t = ordered_put_all (with_images f t) [] tt

  -- ---- where the images are apart

  -- a part of a tree
  pub part_apart : (t u : Tree) → AreApart f t → ((q : Bytes) → has u q ≡ true → has t q ≡ true) → AreApart f u
  part_apart t u a in_it = record {
    once = λ p q x y same. a.once p q (in_it p x) (in_it q y) same;
    apart = λ p q x y. a.apart p q (in_it p x) (in_it q y);
  }

  pub where_apart : (test : Bytes → Bool) (t : Tree) → AreApart f t → AreApart f (where_path test t)
  where_apart test t a = part_apart t (where_path test t) a (λ q h. (has_where test q t h).1)

  pub at_own : (t : Tree) → AreApart f t → (p : Bytes) → has t p ≡ true → at (image f t) (f p) ≡ at t p
  at_own t a p h = at_image t (f p) ∙ at_only t p (λ b x same. a.once b p x h same)

  pub image_tree : (t : Tree) → AreApart f t → IsTree (image f t)
  image_tree t a = record {
    in_order = image_ordered t;
    apart = λ p q x y.
        let b = image_from t p x in
        let c = image_from t q y in
        (λ i. do_conflict (b.2 i) (c.2 i)) ∙ a.apart b.0 c.0 b.1 c.1;
  }

  -- which tree is the image
  pub is_image : (t s : Tree) → AreApart f t → IsOrdered s → ((q : Bytes) → has t q ≡ true → at s (f q) ≡ at t q)
      → ((z : Bytes) → has s z ≡ true → (q : Bytes) × (has t q ≡ true) × (z ≡ f q)) → s ≡ image f t
  is_image t s a ordered alike from = same_tree s (image f t) ordered (image_ordered t) (λ z. go z (has s z) refl (has (image f t) z) refl)
    where
      go : (z : Bytes) (b : Bool) → has s z ≡ b → (c : Bool) → has (image f t) z ≡ c → at s z ≡ at (image f t) z
      go z true x c y =
          let q = from z x in
          ap (at s) q.2 ∙ alike q.0 q.1 ∙ sym (at_own t a q.0 q.1) ∙ ap (at (image f t)) (sym q.2)
      go z false x false y = missing (at s z) x ∙ sym (missing (at (image f t) z) y)
      go z false x true y =
          let q = image_from t z y in
          absurd (true≢false (sym q.1 ∙ sym (ap is_some (alike q.0 q.1)) ∙ ap (has s) (sym q.2) ∙ x))

  -- a filtered image is the image of what passes
  pub where_image : (g : Bytes → Bool) (t : Tree) → AreApart f t → where_path g (image f t) ≡ image f (where_path (λ p. g (f p)) t)
  where_image g t a =
      is_image (where_path (λ p. g (f p)) t) (where_path g (image f t)) (where_apart (λ p. g (f p)) t a)
      (ordered_where g (image f t) (image_ordered t))
      (λ q h.
      let was = has_where (λ p. g (f p)) q t h in
      at_where g (f q) (image f t) ∙ ap (λ (o : Option Entry). cond (g (f q)) o None) (at_own t a q was.1) ∙ sym (at_where (λ p. g (f p)) q t))
      (λ z h.
      let was = has_where g z (image f t) h in
      let q = image_from t z was.1 in
      (q.0, stays (λ p. g (f p)) t q.0 (ap g (sym q.2) ∙ was.0) q.1, q.2))

  -- ---- lengths

  length_of : (es : Tree) → IsOrdered es → ((p q : Bytes) → has es p ≡ true → has es q ≡ true → f p ≡ f q → p ≡ q) → length (image f es) ≡ length es
  length_of [] s once = refl
  length_of (e ∷ es) s once =
      let rest = length_of es (rest_ordered e es s) (λ p q x y same. once p q (later p x) (later q y) same) in
      let grown = entries.length-put by_bytes nat_list_cmp_total (f e.0) e.1 (image f es) (image_ordered es) in
      let free : at (image f es) (f e.0) ≡ None =
      at_image es (f e.0)
      ∙ at_only es e.0 (λ a h same. once a e.0 (later a h) (first_there e es) same)
      ∙ not_again e es s in
      grown ∙ ap (λ (o : Option Entry). cond (is_some o) (length (image f es)) (length (image f es) + 1)) free ∙ more (length (image f es)) (length es) rest
    where
      later : (p : Bytes) → has es p ≡ true → has (e ∷ es) p ≡ true
      later p x = later_there (eq_by_cmp by_bytes p e.0) e.1 (at es p) x

      more : (m n : ℕ) → m ≡ n → m + 1 ≡ suc n
      more m n h = omega arith

  pub image_length : (t : Tree) → IsOrdered t → AreApart f t → length (image f t) ≡ length t
  image_length t s a = length_of t s (λ p q x y same. a.once p q x y same)

  -- ---- lengths of images of paths

  pub not_long : (t : Tree) → has_long_path (with_images f t) ≡ false → (p : Bytes) → has t p ≡ true → nat_lt MAX_PATH_BYTES (length (f p)) ≡ false
  not_long [] h p x = absurd (true≢false (sym x))
  not_long (e ∷ es) h p x =
      let parts = or_parts (nat_lt MAX_PATH_BYTES (length (f e.0))) (has_long_path (with_images f es)) h in
      elim (either_there (eq_by_cmp by_bytes p e.0) e.1 (at es p) x) [
        | inl same ↦ ap (λ (q : Bytes). nat_lt MAX_PATH_BYTES (length (f q))) (same_path p e.0 same) ∙ parts.0
        | inr there ↦ not_long es parts.1 p there
      ]

-- ---- lengths of filtered trees

pub fewer : (g h : Bytes → Bool) (es : Tree) → ((q : Bytes) → has es q ≡ true → g q ≡ true → h q ≡ true) → length (where_path g es) ≤ length (where_path h es)
fewer g h [] f = omega arith
fewer g h (e ∷ es) f = go (g e.0) refl (h e.0) refl (fewer g h es (λ q x. f q (later_there (eq_by_cmp by_bytes q e.0) e.1 (at es q) x)))
  where
    go : (a : Bool) → g e.0 ≡ a → (b : Bool) → h e.0 ≡ b → length (where_path g es) ≤ length (where_path h es)
        → length (cond (g e.0) (e ∷ where_path g es) (where_path g es)) ≤ length (cond (h e.0) (e ∷ where_path h es) (where_path h es))
    go true x true y rest = simp (x, y) (omega arith)
    go true x false y rest = absurd (true≢false (sym (f e.0 (first_there e es) x) ∙ y))
    go false x true y rest = simp (x, y) (omega arith)
    go false x false y rest = simp (x, y) rest

-- of two tests of which one says at least as much, those that let the same number through are the same
pub as_many : (g h : Bytes → Bool) (es : Tree) → ((q : Bytes) → has es q ≡ true → g q ≡ true → h q ≡ true) → length (where_path g es) ≡ length (where_path h es) → (q : Bytes) → has es q ≡ true → g q ≡ h q
as_many g h [] f same q x = absurd (true≢false (sym x))
as_many g h (e ∷ es) f same q x =
    go (g e.0) refl (h e.0) refl (fewer g h es f_rest) same (λ k. as_many g h es f_rest k)
  where
    f_rest : (p : Bytes) → has es p ≡ true → g p ≡ true → h p ≡ true
    f_rest p y = f p (later_there (eq_by_cmp by_bytes p e.0) e.1 (at es p) y)

    by : (g e.0 ≡ h e.0) → ((p : Bytes) → has es p ≡ true → g p ≡ h p) → g q ≡ h q
    by first rest =
        elim (either_there (eq_by_cmp by_bytes q e.0) e.1 (at es q) x) [
          | inl tie ↦ let is = same_path q e.0 tie in ap g is ∙ first ∙ ap h (sym is)
          | inr there ↦ rest q there
        ]

    go : (a : Bool) → g e.0 ≡ a → (b : Bool) → h e.0 ≡ b → length (where_path g es) ≤ length (where_path h es)
        → length (cond (g e.0) (e ∷ where_path g es) (where_path g es)) ≡ length (cond (h e.0) (e ∷ where_path h es) (where_path h es))
        → (length (where_path g es) ≡ length (where_path h es) → (p : Bytes) → has es p ≡ true → g p ≡ h p) → g q ≡ h q
    go true y true z few k rest =
        let l : suc (length (where_path g es)) ≡ suc (length (where_path h es)) = (λ i. length (cond (sym y i) (e ∷ where_path g es) (where_path g es))) ∙ k ∙ (λ i. length (cond (z i) (e ∷ where_path h es) (where_path h es))) in
        by (y ∙ sym z) (rest (omega arith))
    go true y false z few k rest = absurd (true≢false (sym (f e.0 (first_there e es) y) ∙ z))
    go false y true z few k rest =
        let l : length (where_path g es) ≡ suc (length (where_path h es)) = (λ i. length (cond (sym y i) (e ∷ where_path g es) (where_path g es))) ∙ k ∙ (λ i. length (cond (z i) (e ∷ where_path h es) (where_path h es))) in
        absurd (omega arith)
    go false y false z few k rest =
        let l : length (where_path g es) ≡ length (where_path h es) = (λ i. length (cond (sym y i) (e ∷ where_path g es) (where_path g es))) ∙ k ∙ (λ i. length (cond (z i) (e ∷ where_path h es) (where_path h es))) in
        by (y ∙ sym z) (rest l)

-- a test that lets all through
pub all_pass : (g : Bytes → Bool) (es : Tree) → length (where_path g es) ≡ length es → (q : Bytes) → has es q ≡ true → g q ≡ true
all_pass g es same q x = as_many g (λ p. true) es (λ p y z. refl) (same ∙ sym (ap length (every es))) q x
  where
    every : (t : Tree) → where_path (λ p. true) t ≡ t
    every [] = refl
    every (e ∷ t) = ap (λ (r : Tree). e ∷ r) (every t)
