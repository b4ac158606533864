-- When a mapped operation does what it should, as it is seen at the paths that it touches.
use Rattle.std.proofs.Common.{◌≡◌, ◌+◌, ◌≤◌, Bool, true, false, cond, not, length, refl, sym, ap, subst, ◌∙◌, inl, inr, ◌⊎◌, arith, bytes_eq, true≢false, is_some, Option, Some, None, Ok}
use Rattle.std.specs.Prelude.{◌||◌}
use Rattle.std.specs.Ordering.{eq_by_cmp}
use Rattle.std.specs.Cmp.Lexicographic.{bytes_decides, nat_list_cmp_total}
use Rattle.std.specs.FinMap.Entries as entries
use Rattle.std.proofs.lemmas.Bool.{or_from, or_parts, not-true, false_from_ne_true}
use Rattle.plain_model.specs.declared.limit.TheConstants.{MAX_PATHS}
use Rattle.plain_model.specs.declared.operation.Entry.{Entry}
use Rattle.plain_model.specs.Paths.{Bytes, do_conflict, is_at_or_below, is_below, is_in_the_way}
use Rattle.plain_model.specs.Trees.{IsTree, Tree, at, cleared_for, has, put, subtree, where_path, within_paths, without}
use Rattle.history_laws.proofs.PathLaws.{not_below_itself}
use Rattle.history_laws.proofs.TreeLaws.{at_put, at_where, by_bytes, has_put, has_where, same_path}
use Rattle.history_laws.proofs.TreeMaps.{IsOrdered, itself, ordered_put, ordered_where, where_alike, within_small}
use Rattle.path_move_laws.specs.Apart.{AreApart}
use Rattle.path_move_laws.specs.Images.{image}
use Rattle.path_move_laws.proofs.Differing.{same_bytes}
use Rattle.path_move_laws.proofs.Imaged.{all_pass, as_many, at_own, image_from, image_length, image_ordered, image_there, is_image, where_apart, where_image}

-- ---- paths in the way

pub turn : (p q : Bytes) → do_conflict p q ≡ do_conflict q p
turn p q = go (is_below p q) (is_below q p)
  where
    go : (a b : Bool) → (a || b) ≡ (b || a)
    go true true = refl
    go true false = refl
    go false true = refl
    go false false = refl

-- of two booleans each of which says the other
pub both_ways : (a b : Bool) → (a ≡ true → b ≡ true) → (b ≡ true → a ≡ true) → a ≡ b
both_ways true b f g = sym (f refl)
both_ways false true f g = g refl
both_ways false false f g = refl

no_tie : (a b : Bytes) → bytes_eq a b ≡ false → eq_by_cmp by_bytes b a ≡ false
no_tie a b h = false_from_ne_true (eq_by_cmp by_bytes b a) (λ tie. absurd (true≢false (sym ((bytes_decides a b).1 (sym (same_path b a tie))) ∙ h)))

module _ (f : Bytes → Bytes) (t : Tree) (form : IsTree t) (apart : AreApart f t) where
  -- what is in the way of the path is what is in the way of its image
  abbrev pub SameWay : Bytes → Type 0
  SameWay p = (q : Bytes) → has t q ≡ true → is_in_the_way p q ≡ is_in_the_way (f p) (f q)

  -- what is at or below it is what is at or below its image
  abbrev pub SameBelow : Bytes → Type 0
  SameBelow p = (q : Bytes) → has t q ≡ true → is_at_or_below p q ≡ is_at_or_below (f p) (f q)

  -- a path that is there is equal to another one exactly where the images are equal
  same_equal : (p q : Bytes) → has t p ≡ true → has t q ≡ true → bytes_eq p q ≡ bytes_eq (f p) (f q)
  same_equal p q x y =
      both_ways (bytes_eq p q) (bytes_eq (f p) (f q))
      (λ h. subst (λ (z : Bytes). bytes_eq (f p) (f z) ≡ true) ((bytes_decides p q).0 h) (same_bytes (f p)))
      (λ h. (bytes_decides p q).1 (apart.once p q x y ((bytes_decides (f p) (f q)).0 h)))

  -- where the path is there
  pub way_there : (p : Bytes) → has t p ≡ true → SameWay p
  way_there p x q y =
      (λ i. same_equal p q x y i || form.apart p q x y i)
      ∙ sym (ap (λ b. bytes_eq (f p) (f q) || b) (apart.apart p q x y))

  pub below_there : (p : Bytes) → has t p ≡ true → SameBelow p
  below_there p x q y =
      (λ i. same_equal p q x y i || (or_parts (is_below p q) (is_below q p) (form.apart p q x y)).0 i)
      ∙ sym (ap (λ b. bytes_eq (f p) (f q) || b) (or_parts (is_below (f p) (f q)) (is_below (f q) (f p)) (apart.apart p q x y)).0)

  -- where nothing is in the way of either
  pub way_free : (p : Bytes) → length (cleared_for p t) ≡ length t → length (cleared_for (f p) (image f t)) ≡ length (image f t) → SameWay p
  way_free p none none_too q x =
      not-true (is_in_the_way p q) (all_pass (λ z. not (is_in_the_way p z)) t none q x)
      ∙ sym (not-true (is_in_the_way (f p) (f q)) (all_pass (λ z. not (is_in_the_way (f p) z)) (image f t) none_too (f q) (image_there f t q x)))

  -- where nothing is in the way of the path, and the images are apart once it is put there
  pub way_apart : (p : Bytes) (v : Entry) → length (cleared_for p t) ≡ length t → AreApart f (put p v (cleared_for p t)) → SameWay p
  way_apart p v none after q x =
      free ∙ sym (or_from (bytes_eq (f p) (f q)) (do_conflict (f p) (f q)) not_same (after.apart p q own there))
    where
      free : is_in_the_way p q ≡ false
      free = not-true (is_in_the_way p q) (all_pass (λ z. not (is_in_the_way p z)) t none q x)

      own : has (put p v (cleared_for p t)) p ≡ true
      own = ap is_some (at_put p p v (cleared_for p t) ∙ ap (λ b. cond b (Some v) (at (cleared_for p t) p)) (itself p))

      there : has (put p v (cleared_for p t)) q ≡ true
      there =
          ap is_some (at_put p q v (cleared_for p t)
          ∙ ap (λ b. cond b (Some v) (at (cleared_for p t) q)) (no_tie p q (or_parts (bytes_eq p q) (do_conflict p q) free).0)
          ∙ at_where (λ z. not (is_in_the_way p z)) q t
          ∙ ap (λ b. cond (not b) (at t q) None) free) ∙ x

      not_same : bytes_eq (f p) (f q) ≡ false
      not_same = false_from_ne_true (bytes_eq (f p) (f q)) (λ h.
          absurd (true≢false (sym ((bytes_decides p q).1 (after.once p q own there ((bytes_decides (f p) (f q)).0 h))) ∙ (or_parts (bytes_eq p q) (do_conflict p q) free).0)))

  -- where as many are at or below both, and what is at or below the path goes along with it
  pub below_as_many : (p : Bytes) → ((q : Bytes) → has t q ≡ true → is_at_or_below p q ≡ true → is_at_or_below (f p) (f q) ≡ true)
      → length (subtree p t) ≡ length (subtree (f p) (image f t)) → SameBelow p
  below_as_many p along same =
      as_many (is_at_or_below p) (λ q. is_at_or_below (f p) (f q)) t along
      (same ∙ ap length (where_image f (is_at_or_below (f p)) t apart)
      ∙ image_length f (where_path (λ q. is_at_or_below (f p) (f q)) t) (ordered_where (λ q. is_at_or_below (f p) (f q)) t form.in_order) (where_apart f (λ q. is_at_or_below (f p) (f q)) t apart))

  -- ---- M

  module _ (p : Bytes) (way : SameWay p) (v : Entry) where
    abbrev after_put : Tree
    after_put = put p v (cleared_for p t)

    abbrev image_put : Tree
    image_put = put (f p) v (cleared_for (f p) (image f t))

    -- what is there is the path, or was there and wasn't in the way
    was_free : (q : Bytes) → has after_put q ≡ true → (q ≡ p) ⊎ ((has t q ≡ true) × (is_in_the_way p q ≡ false))
    was_free q h =
        elim (has_put p q v (cleared_for p t) h) [
          | inl same ↦ inl same
          | inr there ↦ let was = has_where (λ z. not (is_in_the_way p z)) q t there in inr (was.1, not-true (is_in_the_way p q) was.0)
        ]

    -- and its image isn't in the way of the image
    image_free : (q : Bytes) → (has t q ≡ true) × (is_in_the_way p q ≡ false) → (bytes_eq (f p) (f q) ≡ false) × (do_conflict (f p) (f q) ≡ false)
    image_free q w = or_parts (bytes_eq (f p) (f q)) (do_conflict (f p) (f q)) (sym (way q w.0) ∙ w.1)

    not_equal : (q : Bytes) → bytes_eq (f p) (f q) ≡ false → f p ≡ f q → ⊥
    not_equal q h same = absurd (true≢false (sym ((bytes_decides (f p) (f q)).1 same) ∙ h))

    pub put_apart : AreApart f after_put
    put_apart = record {
      once = λ a b x y same. elim (was_free a x) [
        | inl is ↦ elim (was_free b y) [
          | inl also ↦ is ∙ sym also
          | inr w ↦ absurd (not_equal b (image_free b w).0 (ap f (sym is) ∙ same))
        ]
        | inr w ↦ elim (was_free b y) [
          | inl is ↦ absurd (not_equal a (image_free a w).0 (ap f (sym is) ∙ sym same))
          | inr u ↦ apart.once a b w.0 u.0 same
        ]
      ];
      apart = λ a b x y. elim (was_free a x) [
        | inl is ↦ elim (was_free b y) [
          | inl also ↦ (λ i. do_conflict (f (is i)) (f (also i))) ∙ itself_apart (f p)
          | inr w ↦ ap (λ (z : Bytes). do_conflict (f z) (f b)) is ∙ (image_free b w).1
        ]
        | inr w ↦ elim (was_free b y) [
          | inl is ↦ ap (λ (z : Bytes). do_conflict (f a) (f z)) is ∙ turn (f a) (f p) ∙ (image_free a w).1
          | inr u ↦ apart.apart a b w.0 u.0
        ]
      ];
    }
      where
        itself_apart : (z : Bytes) → do_conflict z z ≡ false
        itself_apart z = (λ i. not_below_itself z i || not_below_itself z i)

    ordered_image_put : IsOrdered image_put
    ordered_image_put = ordered_put (f p) v (cleared_for (f p) (image f t)) (ordered_where (λ z. not (is_in_the_way (f p) z)) (image f t) (image_ordered f t))

    put_there : has after_put p ≡ true
    put_there = ap is_some (at_put p p v (cleared_for p t) ∙ ap (λ b. cond b (Some v) (at (cleared_for p t) p)) (itself p))

    -- the put that is mapped makes the image
    pub put_image : image_put ≡ image f after_put
    put_image = is_image f after_put image_put put_apart ordered_image_put alike from
      where
        alike : (q : Bytes) → has after_put q ≡ true → at image_put (f q) ≡ at after_put q
        alike q h = elim (was_free q h) [
          | inl is ↦
              ap (λ (z : Bytes). at image_put (f z)) is
              ∙ at_put (f p) (f p) v (cleared_for (f p) (image f t))
              ∙ ap (λ b. cond b (Some v) (at (cleared_for (f p) (image f t)) (f p))) (itself (f p))
              ∙ sym (ap (at after_put) is ∙ at_put p p v (cleared_for p t) ∙ ap (λ b. cond b (Some v) (at (cleared_for p t) p)) (itself p))
          | inr w ↦
              at_put (f p) (f q) v (cleared_for (f p) (image f t))
              ∙ ap (λ b. cond b (Some v) (at (cleared_for (f p) (image f t)) (f q))) (no_tie (f p) (f q) (image_free q w).0)
              ∙ at_where (λ z. not (is_in_the_way (f p) z)) (f q) (image f t)
              ∙ ap (λ b. cond (not b) (at (image f t) (f q)) None) (sym (way q w.0) ∙ w.1)
              ∙ at_own f t apart q w.0
              ∙ sym (at_put p q v (cleared_for p t)
              ∙ ap (λ b. cond b (Some v) (at (cleared_for p t) q)) (no_tie p q (or_parts (bytes_eq p q) (do_conflict p q) w.1).0)
              ∙ at_where (λ z. not (is_in_the_way p z)) q t
              ∙ ap (λ b. cond (not b) (at t q) None) w.1)
        ]

        from : (z : Bytes) → has image_put z ≡ true → (q : Bytes) × (has after_put q ≡ true) × (z ≡ f q)
        from z h = elim (has_put (f p) z v (cleared_for (f p) (image f t)) h) [
          | inl same ↦ (p, put_there, same)
          | inr there ↦
              let was = has_where (λ y. not (is_in_the_way (f p) y)) z (image f t) there in
              let q = image_from f t z was.1 in
              let free : is_in_the_way p q.0 ≡ false =
              way q.0 q.1 ∙ ap (is_in_the_way (f p)) (sym q.2) ∙ not-true (is_in_the_way (f p) z) was.0 in
              (q.0, still q.0 q.1 free, q.2)
        ]
          where
            still : (q : Bytes) → has t q ≡ true → is_in_the_way p q ≡ false → has after_put q ≡ true
            still q x free =
                ap is_some (at_put p q v (cleared_for p t)
                ∙ ap (λ b. cond b (Some v) (at (cleared_for p t) q)) (no_tie p q (or_parts (bytes_eq p q) (do_conflict p q) free).0)
                ∙ at_where (λ z. not (is_in_the_way p z)) q t
                ∙ ap (λ b. cond (not b) (at t q) None) free) ∙ x

    ordered_after : IsOrdered after_put
    ordered_after = ordered_put p v (cleared_for p t) (ordered_where (λ z. not (is_in_the_way p z)) t form.in_order)

    pub put_within : length after_put ≤ MAX_PATHS → within_paths image_put ≡ Ok (image f after_put)
    put_within few =
        ap (λ (s : Tree). within_paths s) put_image
        ∙ within_small (image f after_put) (subst (λ n. n ≤ MAX_PATHS) (sym (image_length f after_put ordered_after put_apart)) few)

  -- ---- D

  module _ (p : Bytes) (same : SameBelow p) where
    pub without_image : without (f p) (image f t) ≡ image f (without p t)
    without_image =
        where_image f (λ z. not (is_at_or_below (f p) z)) t apart
        ∙ ap (image f) (where_alike (λ q. not (is_at_or_below (f p) (f q))) (λ q. not (is_at_or_below p q)) t form.in_order (λ q h. ap not (sym (same q h))))

    pub subtree_image : subtree (f p) (image f t) ≡ image f (subtree p t)
    subtree_image =
        where_image f (is_at_or_below (f p)) t apart
        ∙ ap (image f) (where_alike (λ q. is_at_or_below (f p) (f q)) (is_at_or_below p) t form.in_order (λ q h. sym (same q h)))

-- ---- what is known by numbers

-- a path that is put where it wasn't is one more than those that it left
put_length : (p : Bytes) (v : Entry) (s : Tree) → IsOrdered s → length (put p v (cleared_for p s)) ≡ length (cleared_for p s) + 1
put_length p v s ordered =
    entries.length-put by_bytes nat_list_cmp_total p v (cleared_for p s) (ordered_where (λ z. not (is_in_the_way p z)) s ordered)
    ∙ ap (λ (o : Option Entry). cond (is_some o) (length (cleared_for p s)) (length (cleared_for p s) + 1))
    (at_where (λ z. not (is_in_the_way p z)) p s ∙ ap (λ b. cond (not (b || do_conflict p p)) (at s p) None) (same_bytes p))

-- so that one path more was in nothing's way
pub free_put : (p : Bytes) (v : Entry) (s : Tree) → IsOrdered s → length (put p v (cleared_for p s)) ≡ length s + 1 → length (cleared_for p s) ≡ length s
free_put p v s ordered h = let l = put_length p v s ordered in omega arith
