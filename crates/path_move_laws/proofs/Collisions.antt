-- No image is found to collide exactly where the images are apart; and which one is found.
use Rattle.std.proofs.Common.{◌≡◌, ℕ, ◌≤◌, ◌<◌, Bool, true, false, cond, [], ◌∷◌, length, refl, sym, ap, subst, ◌∙◌, inl, inr, ◌⊎◌, arith, bytes_eq, true≢false, is_some, Some, None, nat_lt}
use Rattle.std.specs.List.{AllByRecursion, list_any}
use Rattle.std.specs.Ordering.{eq_by_cmp, is_lt}
use Rattle.std.specs.declared.cmp.Ordering.{Ordering}
use Rattle.std.specs.declared.cmp.Ordering.TheVariants.{Less, Equal, Greater}
use Rattle.std.specs.Cmp.Lexicographic.{bytes_decides, nat_list_cmp_total}
use Rattle.std.specs.Cmp.{tied_itself}
use Rattle.std.proofs.lemmas.Bool.{or_from, or_parts, false_from_ne_true}
use Rattle.std.proofs.lemmas.Bool.Decides.{nat_tests}
use Rattle.plain_model.specs.Paths.{Bytes, do_conflict}
use Rattle.plain_model.specs.Trees.{Tree, at, has, where_path}
use Rattle.history_laws.proofs.TreeLaws.{by_bytes, has_where, same_path}
use Rattle.history_laws.proofs.TreeMaps.{IsOrdered, any_there, ordered_where, there_any}
use Rattle.path_move_laws.specs.Apart.{AreApart}
use Rattle.path_move_laws.specs.Images.{collides, collision, count_to, first_path, image}
use Rattle.path_move_laws.proofs.Imaged.{either_there, first_below, first_there, image_from, image_ordered, image_there, later_there, not_again, rest_ordered, stays}
use Rattle.path_move_laws.proofs.Differing.{same_bytes}

-- ---- the first path that passes

pub none_first : (test : Bytes → Bool) (es : Tree) → first_path test es ≡ None → (q : Bytes) → has es q ≡ true → test q ≡ false
none_first test [] h q x = absurd (true≢false (sym x))
none_first test (e ∷ es) h q x = go (test e.0) refl h (λ k. none_first test es k q)
  where
    go : (b : Bool) → test e.0 ≡ b → cond b (Some e.0) (first_path test es) ≡ None → (first_path test es ≡ None → has es q ≡ true → test q ≡ false) → test q ≡ false
    go true y k rest = absurd cc
    go false y k rest =
        elim (either_there (eq_by_cmp by_bytes q e.0) e.1 (at es q) x) [
          | inl same ↦ ap test (same_path q e.0 same) ∙ y
          | inr there ↦ rest k there
        ]

pub first_none : (test : Bytes → Bool) (es : Tree) → ((q : Bytes) → has es q ≡ true → test q ≡ false) → first_path test es ≡ None
first_none test [] f = refl
first_none test (e ∷ es) f =
    ap (λ b. cond b (Some e.0) (first_path test es)) (f e.0 (first_there e es))
    ∙ first_none test es (λ q x. f q (later_there (eq_by_cmp by_bytes q e.0) e.1 (at es q) x))

pub not_less : (q : Bytes) → is_lt (by_bytes q q) ≡ false
not_less q = ap is_lt (tied_itself nat_list_cmp_total q)

-- two paths in order aren't in the other order too
one_way : (p q : Bytes) → is_lt (by_bytes p q) ≡ true → is_lt (by_bytes q p) ≡ true → ⊥
one_way p q x y = absurd (true≢false (sym (ap is_lt (nat_list_cmp_total.trans p q p (less (by_bytes p q) x) (less (by_bytes q p) y))) ∙ not_less p))
  where
    less : (r : Ordering) → is_lt r ≡ true → r ≡ Less
    less Less h = refl
    less Equal h = absurd (true≢false (sym h))
    less Greater h = absurd (true≢false (sym h))

-- what each entry is greater than
below_there : (k : Bytes) (es : Tree) → AllByRecursion (λ f. is_lt (by_bytes k f.0) ≡ true) es → (q : Bytes) → has es q ≡ true → is_lt (by_bytes k q) ≡ true
below_there k [] a q x = absurd (true≢false (sym x))
below_there k (e ∷ es) a q x =
    elim (either_there (eq_by_cmp by_bytes q e.0) e.1 (at es q) x) [
      | inl same ↦ subst (λ (p : Bytes). is_lt (by_bytes k p) ≡ true) (sym (same_path q e.0 same)) a.0
      | inr there ↦ below_there k es a.1 q there
    ]

-- it is there, it passes, and none before it does
pub record IsFirst (test : Bytes → Bool) (es : Tree) (q : Bytes) : Type 0 where
  pub there : has es q ≡ true
  pub passes : test q ≡ true
  pub before : (p : Bytes) → has es p ≡ true → is_lt (by_bytes p q) ≡ true → test p ≡ false

pub found_first : (test : Bytes → Bool) (es : Tree) (q : Bytes) → IsOrdered es → first_path test es ≡ Some q → IsFirst test es q
found_first test [] q s h = absurd cc
found_first test (e ∷ es) q s h = go (test e.0) refl h (λ k. found_first test es q (rest_ordered e es s) k)
  where
    go : (b : Bool) → test e.0 ≡ b → cond b (Some e.0) (first_path test es) ≡ Some q → (first_path test es ≡ Some q → IsFirst test es q) → IsFirst test (e ∷ es) q
    go true y k rest =
        let is : e.0 ≡ q = cc in
        subst (λ (z : Bytes). IsFirst test (e ∷ es) z) is (record {
          there = first_there e es;
          passes = y;
          before = λ p x less. elim (either_there (eq_by_cmp by_bytes p e.0) e.1 (at es p) x) [
            | inl same ↦ absurd (true≢false (sym less ∙ ap (λ (z : Bytes). is_lt (by_bytes p z)) (sym (same_path p e.0 same)) ∙ not_less p))
            | inr there ↦ absurd (one_way p e.0 less (below_there e.0 es (first_below e es s) p there))
          ];
        })
    go false y k rest =
        let r = rest k in
        record {
          there = later_there (eq_by_cmp by_bytes q e.0) e.1 (at es q) r.there;
          passes = r.passes;
          before = λ p x less. elim (either_there (eq_by_cmp by_bytes p e.0) e.1 (at es p) x) [
            | inl same ↦ ap test (same_path p e.0 same) ∙ y
            | inr there ↦ r.before p there less
          ];
        }

pub is_first : (test : Bytes → Bool) (es : Tree) (q : Bytes) → IsOrdered es → IsFirst test es q → first_path test es ≡ Some q
is_first test [] q s i = absurd (true≢false (sym i.there))
is_first test (e ∷ es) q s i =
    go (test e.0) refl (either_there (eq_by_cmp by_bytes q e.0) e.1 (at es q) i.there)
    (λ there. is_first test es q (rest_ordered e es s) (record {
      there = there;
      passes = i.passes;
      before = λ p x less. i.before p (later_there (eq_by_cmp by_bytes p e.0) e.1 (at es p) x) less;
    }))
  where
    go : (b : Bool) → test e.0 ≡ b → (eq_by_cmp by_bytes q e.0 ≡ true) ⊎ (has es q ≡ true) → (has es q ≡ true → first_path test es ≡ Some q) → cond (test e.0) (Some e.0) (first_path test es) ≡ Some q
    go true y (inl same) rest = ap (λ b. cond b (Some e.0) (first_path test es)) y ∙ ap (λ (z : Bytes). Some z) (sym (same_path q e.0 same))
    go true y (inr there) rest = absurd (true≢false (sym y ∙ i.before e.0 (first_there e es) (below_there e.0 es (first_below e es s) q there)))
    go false y (inl same) rest = absurd (true≢false (sym i.passes ∙ ap test (same_path q e.0 same) ∙ y))
    go false y (inr there) rest = ap (λ b. cond b (Some e.0) (first_path test es)) y ∙ rest there

-- ---- how many paths have an image

-- a list with two paths has two entries
two_there : (es : Tree) (p q : Bytes) → has es p ≡ true → has es q ≡ true → (p ≡ q → ⊥) → 1 < length es
two_there [] p q x y other = absurd (true≢false (sym x))
two_there (e ∷ []) p q x y other =
    absurd (other (same_path p e.0 (alone p x) ∙ sym (same_path q e.0 (alone q y))))
  where
    alone : (z : Bytes) → has (e ∷ []) z ≡ true → eq_by_cmp by_bytes z e.0 ≡ true
    alone z h = elim (either_there (eq_by_cmp by_bytes z e.0) e.1 None h) [ inl same ↦ same | inr none ↦ absurd (true≢false (sym none)) ]
two_there (e ∷ f ∷ es) p q x y other = omega arith

-- a list in order of one path has one entry
one_there : (es : Tree) → IsOrdered es → ((p q : Bytes) → has es p ≡ true → has es q ≡ true → p ≡ q) → length es ≤ 1
one_there [] s f = omega arith
one_there (e ∷ []) s f = omega arith
one_there (e ∷ g ∷ es) s f =
    let second : has (e ∷ g ∷ es) g.0 ≡ true = later_there (eq_by_cmp by_bytes g.0 e.0) e.1 (at (g ∷ es) g.0) (first_there g es) in
    let same : e.0 ≡ g.0 = f e.0 g.0 (first_there e (g ∷ es)) second in
    let gone : is_some (at (g ∷ es) e.0) ≡ false = ap is_some (not_again e (g ∷ es) s) in
    absurd (true≢false (sym (first_there g es) ∙ ap (λ (z : Bytes). has (g ∷ es) z) (sym same) ∙ gone))

above_one : (n : ℕ) → 1 < n → nat_lt 1 n ≡ true
above_one n h = grind (arith, nat_tests)

not_above : (n : ℕ) → n ≤ 1 → nat_lt 1 n ≡ false
not_above n h = grind (arith, nat_tests)

-- ---- images that collide

module _ (f : Bytes → Bytes) (t : Tree) where
  abbrev to : Bytes → Bytes → Bool
  to q p = bytes_eq (f p) q

  pub none_collides : collision f t ≡ None → AreApart f t
  none_collides h = record {
    once = λ p q x y same. once p q x y same (bytes_eq p q) refl;
    apart = λ p q x y. false_from_ne_true (do_conflict (f p) (f q)) (λ c. absurd (true≢false (sym (any_there (λ (z : Bytes). do_conflict (f p) (f z)) t q y c) ∙ (free p x).1)));
  }
    where
      free : (p : Bytes) → has t p ≡ true → (nat_lt 1 (count_to f (f p) t) ≡ false) × (list_any (λ e. do_conflict (f p) (f e.0)) t ≡ false)
      free p x =
          or_parts (nat_lt 1 (count_to f (f p) t)) (list_any (λ e. do_conflict (f p) (f e.0)) t)
          (none_first (collides f t) (image f t) h (f p) (image_there f t p x))

      once : (p q : Bytes) → has t p ≡ true → has t q ≡ true → f p ≡ f q → (b : Bool) → bytes_eq p q ≡ b → p ≡ q
      once p q x y same true b = (bytes_decides p q).0 b
      once p q x y same false b =
          absurd (true≢false (sym (above_one (count_to f (f p) t) (two_there (where_path (to (f p)) t) p q
          (stays (to (f p)) t p (same_bytes (f p)) x)
          (stays (to (f p)) t q ((bytes_decides (f q) (f p)).1 (sym same)) y)
          (λ is. absurd (true≢false (sym ((bytes_decides p q).1 is) ∙ b))))) ∙ (free p x).0))

  pub apart_collides : IsOrdered t → AreApart f t → collision f t ≡ None
  apart_collides s a = first_none (collides f t) (image f t) (λ z h.
      let p = image_from f t z h in
      ap (collides f t) p.2 ∙ free p.0 p.1)
    where
      free : (p : Bytes) → has t p ≡ true → collides f t (f p) ≡ false
      free p x =
          or_from (nat_lt 1 (count_to f (f p) t)) (list_any (λ e. do_conflict (f p) (f e.0)) t)
          (not_above (count_to f (f p) t) (one_there (where_path (to (f p)) t) (ordered_where (to (f p)) t s) (λ q r y z.
          let b = has_where (to (f p)) q t y in
          let c = has_where (to (f p)) r t z in
          a.once q r b.1 c.1 ((bytes_decides (f q) (f p)).0 b.0 ∙ sym ((bytes_decides (f r) (f p)).0 c.0)))))
          (false_from_ne_true (list_any (λ e. do_conflict (f p) (f e.0)) t) (λ c.
          let q = there_any (λ (z : Bytes). do_conflict (f p) (f z)) t c in
          absurd (true≢false (sym q.2 ∙ a.apart p q.0 x q.1))))

  -- the image that is found
  pub first_collision : (q : Bytes) → collision f t ≡ Some q → IsFirst (collides f t) (image f t) q
  first_collision q h = found_first (collides f t) (image f t) q (image_ordered f t) h

  pub collision_is : (q : Bytes) → IsFirst (collides f t) (image f t) q → collision f t ≡ Some q
  collision_is q i = is_first (collides f t) (image f t) q (image_ordered f t) i
