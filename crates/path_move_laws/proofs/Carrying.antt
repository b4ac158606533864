-- When a mapped copy or rename does what it should, as it is seen at the paths that it touches.
use Rattle.std.proofs.Common.{◌≡◌, ℕ, append-nil, suc, ◌+◌, Bool, true, false, cond, not, [], ◌∷◌, ◌++◌, length, drop, refl, sym, ap, subst, ◌∙◌, inl, inr, ◌⊎◌, arith, bytes_eq, true≢false, is_some, Option, Some, None, Ok, Err}
use Rattle.std.specs.Prelude.{◌||◌}
use Rattle.std.specs.List.{AllByRecursion}
use Rattle.std.specs.Option.{option_or}
use Rattle.std.specs.Ordering.{eq_by_cmp}
use Rattle.std.specs.Cmp.Lexicographic.{nat_list_cmp_total}
use Rattle.std.specs.FinMap.Entries as entries
use Rattle.std.proofs.lemmas.Bool.{or_cases, or_left, or_right, not-true, false_from_ne_true}
use Rattle.std.proofs.lemmas.List.{append_cancel_left}
use Rattle.plain_model.specs.declared.operation.Entry.{Entry}
use Rattle.plain_model.specs.Paths.{Bytes, do_conflict, is_at_or_below, is_below, is_in_the_way}
use Rattle.plain_model.specs.Trees.{IsTree, Tree, at, cleared_for, has, has_long_path, moved, placed, put_all, subtree, where_path, within_paths}
use Rattle.plain_model.specs.Trees.Refusal.{PathBytes}
use Rattle.history_laws.proofs.PathLaws.{IsRest, above_moved, after, apart_from, below_after, below_moved}
use Rattle.history_laws.proofs.TreeLaws.{at_where, by_bytes, has_moved, has_put_all, has_where, same_path}
use Rattle.history_laws.proofs.TreeMaps.{IsOrdered, itself, ordered_put_all, ordered_where, within_ok}
use Rattle.path_move_laws.specs.Apart.{AreApart}
use Rattle.path_move_laws.specs.Images.{image}
use Rattle.path_move_laws.specs.Steady.{GoesAlong}
use Rattle.path_move_laws.proofs.Differing.{same_bytes}
use Rattle.path_move_laws.proofs.Imaged.{at_all, at_own, image_from, image_ordered, is_image, missing, not_again, part_apart, rest_ordered, stays, where_apart}
use Rattle.path_move_laws.proofs.Steadily.{SameBelow, both_ways, subtree_image, turn}

-- ---- paths with rests

pub rest_after : (p r : Bytes) → drop (length p) (p ++ r) ≡ r
rest_after [] r = refl
rest_after (b ∷ p) r = rest_after p r

-- a path with a rest is at or below it
pub with_rest : (p r : Bytes) → IsRest r → is_at_or_below p (p ++ r) ≡ true
with_rest p [] k = subst (λ (q : Bytes). is_at_or_below p q ≡ true) (sym (append-nil p)) (or_left (bytes_eq p p) (is_below p p) (same_bytes p))
with_rest p (b ∷ r) k = or_right (bytes_eq p (p ++ b ∷ r)) (is_below p (p ++ b ∷ r)) (ap (λ (q : Bytes). is_below q (p ++ b ∷ r)) (sym (append-nil p)) ∙ below_after p [] (b ∷ r) ∙ k)

-- so it is in its way
pub rest_in_way : (p r : Bytes) → IsRest r → is_in_the_way p (p ++ r) ≡ true
rest_in_way p r k = go (or_cases (bytes_eq p (p ++ r)) (is_below p (p ++ r)) (with_rest p r k))
  where
    go : (bytes_eq p (p ++ r) ≡ true) ⊎ (is_below p (p ++ r) ≡ true) → is_in_the_way p (p ++ r) ≡ true
    go (inl same) = or_left (bytes_eq p (p ++ r)) (do_conflict p (p ++ r)) same
    go (inr below) = or_right (bytes_eq p (p ++ r)) (do_conflict p (p ++ r)) (or_left (is_below p (p ++ r)) (is_below (p ++ r) p) below)

both_after : (p r x : Bytes) → do_conflict (p ++ r) (p ++ x) ≡ do_conflict r x
both_after p r x = λ i. below_after p r x i || below_after p x r i

-- ---- what is moved

abbrev pub AllBelow : Bytes → Tree → Type 0
AllBelow s es = AllByRecursion (λ e. is_at_or_below s e.0 ≡ true) es

pub all_below : (s : Bytes) (t : Tree) → AllBelow s (subtree s t)
all_below s [] = tt
all_below s (e ∷ es) = go (is_at_or_below s e.0) refl (all_below s es)
  where
    go : (b : Bool) → is_at_or_below s e.0 ≡ b → AllBelow s (subtree s es) → AllBelow s (cond b (e ∷ subtree s es) (subtree s es))
    go true is rest = (is, rest)
    go false is rest = rest

-- what is at a path with its rest is at the other path with that rest
pub at_moved : (s g d : Bytes) (es : Tree) → AllBelow s es → at (moved s g es) (g ++ d) ≡ at es (s ++ d)
at_moved s g d [] a = refl
at_moved s g d (e ∷ es) a =
    let is = (after s e.0 a.0).is in
    let tie : eq_by_cmp by_bytes (g ++ d) (g ++ drop (length s) e.0) ≡ eq_by_cmp by_bytes (s ++ d) e.0 =
    both_ways (eq_by_cmp by_bytes (g ++ d) (g ++ drop (length s) e.0)) (eq_by_cmp by_bytes (s ++ d) e.0)
    (λ h. subst (λ (z : Bytes). eq_by_cmp by_bytes (s ++ d) z ≡ true) (ap (λ (z : Bytes). s ++ z) (append_cancel_left g d (drop (length s) e.0) (same_path (g ++ d) (g ++ drop (length s) e.0) h)) ∙ sym is) (itself (s ++ d)))
    (λ h. subst (λ (z : Bytes). eq_by_cmp by_bytes (g ++ d) (g ++ z) ≡ true) (append_cancel_left s d (drop (length s) e.0) (same_path (s ++ d) e.0 h ∙ is)) (itself (g ++ d))) in
    λ i. cond (tie i) (Some e.1) (at_moved s g d es a.1 i)

-- ---- lengths

-- what is moved is so many paths more
length_put_in : (s g : Bytes) (es base : Tree) → AllBelow s es → IsOrdered es → IsOrdered base → ((d : Bytes) → IsRest d → at base (g ++ d) ≡ None) → length (put_all (moved s g es) base) ≡ length es + length base
length_put_in s g [] base a o b none = omega arith
length_put_in s g (e ∷ es) base a o b none =
    let d : Bytes = drop (length s) e.0 in
    let h = after s e.0 a.0 in
    let rest = length_put_in s g es base a.1 (rest_ordered e es o) b none in
    let grown = entries.length-put by_bytes nat_list_cmp_total (g ++ drop (length s) e.0) e.1 (put_all (moved s g es) base) (ordered_put_all (moved s g es) base b) in
    let free : at (put_all (moved s g es) base) (g ++ drop (length s) e.0) ≡ None =
    at_all (moved s g es) base (g ++ drop (length s) e.0)
    ∙ (λ i. option_or (at_moved s g (drop (length s) e.0) es a.1 i) (none (drop (length s) e.0) h.rest i))
    ∙ ap (λ (o : Option Entry). option_or o None) (ap (at es) (sym h.is) ∙ not_again e es o) in
    grown ∙ ap (λ (o : Option Entry). cond (is_some o) (length (put_all (moved s g es) base)) (length (put_all (moved s g es) base) + 1)) free
    ∙ more (length (put_all (moved s g es) base)) (length es) (length base) rest
  where
    more : (m n k : ℕ) → m ≡ n + k → m + 1 ≡ suc n + k
    more m n k h = omega arith

none_at : (g d : Bytes) (base : Tree) → IsRest d → at (cleared_for g base) (g ++ d) ≡ None
none_at g d base k = at_where (λ z. not (is_in_the_way g z)) (g ++ d) base ∙ ap (λ b. cond (not b) (at base (g ++ d)) None) (rest_in_way g d k)

pub placed_length : (s g : Bytes) (t base : Tree) → IsOrdered t → IsOrdered base → length (put_all (moved s g (subtree s t)) (cleared_for g base)) ≡ length (subtree s t) + length (cleared_for g base)
placed_length s g t base o b =
    length_put_in s g (subtree s t) (cleared_for g base) (all_below s t) (ordered_where (is_at_or_below s) t o) (ordered_where (λ z. not (is_in_the_way g z)) base b)
    (λ d k. none_at g d base k)

-- what passes a test and what doesn't is all
pub both_parts : (test : Bytes → Bool) (t : Tree) → length (where_path test t) + length (where_path (λ q. not (test q)) t) ≡ length t
both_parts test [] = refl
both_parts test (e ∷ es) =
    let rest = both_parts test es in
    elim (test e.0) as (λ b. length (cond b (e ∷ where_path test es) (where_path test es)) + length (cond (not b) (e ∷ where_path (λ q. not (test q)) es) (where_path (λ q. not (test q)) es)) ≡ suc (length es)) [ true ↦ omega arith | false ↦ omega arith ]

-- ---- what is placed

pub is_placed : (s g : Bytes) (taken base new : Tree) → placed s g taken base ≡ Ok new → (put_all (moved s g taken) (cleared_for g base) ≡ new) × (has_long_path (moved s g taken) ≡ false)
is_placed s g [] base new h = absurd cc
is_placed s g (e ∷ taken) base new h = go (has_long_path (moved s g (e ∷ taken))) refl h
  where
    go : (b : Bool) → has_long_path (moved s g (e ∷ taken)) ≡ b → cond b (Err PathBytes) (within_paths (put_all (moved s g (e ∷ taken)) (cleared_for g base))) ≡ Ok new → (put_all (moved s g (e ∷ taken)) (cleared_for g base) ≡ new) × (has_long_path (moved s g (e ∷ taken)) ≡ false)
    go true x y = absurd cc
    go false x y = ((within_ok (put_all (moved s g (e ∷ taken)) (cleared_for g base)) new y).0, x)

-- ---- the images

module _ (f : Bytes → Bytes) (t : Tree) (form : IsTree t) (apart : AreApart f t) (s g : Bytes)
    (below : SameBelow f t form apart s) (from_s : GoesAlong f s) (from_g : GoesAlong f g)
    (base : Tree) (ordered : IsOrdered base) (in_it : (q : Bytes) → has base q ≡ true → has t q ≡ true)
    (way : (q : Bytes) → has base q ≡ true → is_in_the_way g q ≡ is_in_the_way (f g) (f q)) where
  abbrev put_in : Tree
  put_in = moved s g (subtree s t)

  abbrev image_in : Tree
  image_in = moved (f s) (f g) (subtree (f s) (image f t))

  abbrev new : Tree
  new = put_all put_in (cleared_for g base)

  abbrev new_image : Tree
  new_image = put_all image_in (cleared_for (f g) (image f base))

  -- the image of a path with a rest
  along_s : (d : Bytes) → IsRest d → f (s ++ d) ≡ f s ++ d
  along_s d k = from_s (s ++ d) (with_rest s d k) ∙ ap (λ (z : Bytes). f s ++ z) (rest_after s d)

  along_g : (d : Bytes) → IsRest d → f (g ++ d) ≡ f g ++ d
  along_g d k = from_g (g ++ d) (with_rest g d k) ∙ ap (λ (z : Bytes). f g ++ z) (rest_after g d)

  -- a path that was moved there
  record Came (q : Bytes) : Type 0 where
    rest : Bytes
    is_rest : IsRest rest
    is : q ≡ g ++ rest
    was : has t (s ++ rest) ≡ true

  came : (q : Bytes) → has put_in q ≡ true → Came q
  came q h =
      let c = has_moved s g (subtree s t) q h in
      let was = has_where (is_at_or_below s) c.path t c.was in
      let a = after s c.path was.0 in
      record { rest = drop (length s) c.path; is_rest = a.rest; is = c.is; was = subst (λ (z : Bytes). has t z ≡ true) a.is was.1 }

  which : (q : Bytes) → has new q ≡ true → Came q ⊎ ((has base q ≡ true) × (is_in_the_way g q ≡ false))
  which q h = elim (has_put_all put_in (cleared_for g base) q h) [
    | inl there ↦ inl (came q there)
    | inr left ↦ let w = has_where (λ z. not (is_in_the_way g z)) q base left in inr (w.1, not-true (is_in_the_way g q) w.0)
  ]

  -- what stays isn't in the way of the image
  free : (q : Bytes) → has base q ≡ true → is_in_the_way g q ≡ false → is_in_the_way (f g) (f q) ≡ false
  free q x h = sym (way q x) ∙ h

  not_same : (q d : Bytes) → IsRest d → is_in_the_way (f g) q ≡ false → f g ++ d ≡ q → ⊥
  not_same q d k h same = absurd (true≢false (sym (rest_in_way (f g) d k) ∙ ap (is_in_the_way (f g)) same ∙ h))

  no_conflict : (q d : Bytes) → IsRest d → is_in_the_way (f g) q ≡ false → do_conflict (f g ++ d) q ≡ false
  no_conflict q d k h =
      apart_from (f g ++ d) q
      (λ x. absurd (true≢false (sym (below_moved q (f g) d k x) ∙ h)))
      (λ x. absurd (true≢false (sym (above_moved q (f g) d k x) ∙ h)))

  image_came : (q : Bytes) (c : Came q) → f q ≡ f g ++ c.rest
  image_came q c = ap f c.is ∙ along_g c.rest c.is_rest

  pub placed_apart : AreApart f new
  placed_apart = record {
    once = λ a b x y same. elim (which a x) [
      | inl c ↦ elim (which b y) [
        | inl d ↦ c.is ∙ ap (λ (z : Bytes). g ++ z) (append_cancel_left (f g) c.rest d.rest (sym (image_came a c) ∙ same ∙ image_came b d)) ∙ sym d.is
        | inr w ↦ absurd (not_same (f b) c.rest c.is_rest (free b w.0 w.1) (sym (image_came a c) ∙ same))
      ]
      | inr w ↦ elim (which b y) [
        | inl d ↦ absurd (not_same (f a) d.rest d.is_rest (free a w.0 w.1) (sym (image_came b d) ∙ sym same))
        | inr u ↦ apart.once a b (in_it a w.0) (in_it b u.0) same
      ]
    ];
    apart = λ a b x y. elim (which a x) [
      | inl c ↦ elim (which b y) [
        | inl d ↦
            (λ i. do_conflict (image_came a c i) (image_came b d i))
            ∙ both_after (f g) c.rest d.rest ∙ sym (both_after s c.rest d.rest) ∙ form.apart (s ++ c.rest) (s ++ d.rest) c.was d.was
        | inr w ↦ ap (λ (z : Bytes). do_conflict z (f b)) (image_came a c) ∙ no_conflict (f b) c.rest c.is_rest (free b w.0 w.1)
      ]
      | inr w ↦ elim (which b y) [
        | inl d ↦ ap (do_conflict (f a)) (image_came b d) ∙ turn (f a) (f g ++ d.rest) ∙ no_conflict (f a) d.rest d.is_rest (free a w.0 w.1)
        | inr u ↦ apart.apart a b (in_it a w.0) (in_it b u.0)
      ]
    ];
  }

  base_apart : AreApart f base
  base_apart = part_apart f t base apart in_it

  -- ---- what is where

  at_new : (q : Bytes) → at new q ≡ option_or (at put_in q) (cond (not (is_in_the_way g q)) (at base q) None)
  at_new q = at_all put_in (cleared_for g base) q ∙ ap (option_or (at put_in q)) (at_where (λ z. not (is_in_the_way g z)) q base)

  at_new_image : (z : Bytes) → at new_image z ≡ option_or (at image_in z) (cond (not (is_in_the_way (f g) z)) (at (image f base) z) None)
  at_new_image z = at_all image_in (cleared_for (f g) (image f base)) z ∙ ap (option_or (at image_in z)) (at_where (λ y. not (is_in_the_way (f g) y)) z (image f base))

  -- what is moved is the same on both sides
  at_both : (d : Bytes) → IsRest d → has t (s ++ d) ≡ true → at image_in (f g ++ d) ≡ at put_in (g ++ d)
  at_both d k x =
      at_moved (f s) (f g) d (subtree (f s) (image f t)) (all_below (f s) (image f t))
      ∙ ap (λ (u : Tree). at u (f s ++ d)) (subtree_image f t form apart s below)
      ∙ ap (at (image f (subtree s t))) (sym (along_s d k))
      ∙ at_own f (subtree s t) (where_apart f (is_at_or_below s) t apart) (s ++ d) (stays (is_at_or_below s) t (s ++ d) (with_rest s d k) x)
      ∙ sym (at_moved s g d (subtree s t) (all_below s t))

  there_in : (d : Bytes) → IsRest d → has t (s ++ d) ≡ true → has put_in (g ++ d) ≡ true
  there_in d k x = ap is_some (at_moved s g d (subtree s t) (all_below s t)) ∙ stays (is_at_or_below s) t (s ++ d) (with_rest s d k) x

  or_first : (o p : Option Entry) → is_some o ≡ true → option_or o p ≡ o
  or_first (Some v) p h = refl
  or_first None p h = absurd (true≢false (sym h))

  -- nothing is moved where nothing is in the way
  none_in : (q : Bytes) → is_in_the_way g q ≡ false → at put_in q ≡ None
  none_in q h = missing (at put_in q) (false_from_ne_true (has put_in q) (λ x.
      let c = came q x in
      absurd (true≢false (sym (rest_in_way g c.rest c.is_rest) ∙ ap (is_in_the_way g) (sym c.is) ∙ h))))

  none_image_in : (z : Bytes) → is_in_the_way (f g) z ≡ false → at image_in z ≡ None
  none_image_in z h = missing (at image_in z) (false_from_ne_true (has image_in z) (λ x.
      let c = has_moved (f s) (f g) (subtree (f s) (image f t)) z x in
      let a = after (f s) c.path (has_where (is_at_or_below (f s)) c.path (image f t) c.was).0 in
      absurd (true≢false (sym (rest_in_way (f g) (drop (length (f s)) c.path) a.rest) ∙ ap (is_in_the_way (f g)) (sym c.is) ∙ h))))

  alike : (q : Bytes) → has new q ≡ true → at new_image (f q) ≡ at new q
  alike q h = elim (which q h) [
    | inl c ↦
        let same = at_both c.rest c.is_rest c.was in
        let here = there_in c.rest c.is_rest c.was in
        ap (at new_image) (image_came q c)
        ∙ at_new_image (f g ++ c.rest)
        ∙ or_first (at image_in (f g ++ c.rest)) _ (ap is_some same ∙ here)
        ∙ same
        ∙ sym (ap (at new) c.is ∙ at_new (g ++ c.rest) ∙ or_first (at put_in (g ++ c.rest)) _ here)
    | inr w ↦
        at_new_image (f q)
        ∙ (λ i. option_or (none_image_in (f q) (free q w.0 w.1) i) (cond (not (free q w.0 w.1 i)) (at (image f base) (f q)) None))
        ∙ at_own f base base_apart q w.0
        ∙ sym (at_new q ∙ (λ i. option_or (none_in q w.1 i) (cond (not (w.1 i)) (at base q) None)))
  ]

  new_has : (q : Bytes) → has base q ≡ true → is_in_the_way g q ≡ false → has new q ≡ true
  new_has q x h = ap is_some (at_new q ∙ (λ i. option_or (none_in q h i) (cond (not (h i)) (at base q) None))) ∙ x

  new_came : (d : Bytes) → IsRest d → has t (s ++ d) ≡ true → has new (g ++ d) ≡ true
  new_came d k x = ap is_some (at_new (g ++ d) ∙ or_first (at put_in (g ++ d)) _ (there_in d k x)) ∙ there_in d k x

  from : (z : Bytes) → has new_image z ≡ true → (q : Bytes) × (has new q ≡ true) × (z ≡ f q)
  from z h = elim (has_put_all image_in (cleared_for (f g) (image f base)) z h) [
    | inl there ↦
        let c = has_moved (f s) (f g) (subtree (f s) (image f t)) z there in
        let was = has_where (is_at_or_below (f s)) c.path (image f t) c.was in
        let p = image_from f t c.path was.1 in
        let a = after s p.0 (below p.0 p.1 ∙ ap (is_at_or_below (f s)) (sym p.2) ∙ was.0) in
        let d : Bytes = drop (length s) p.0 in
        let path : c.path ≡ f s ++ drop (length s) p.0 = p.2 ∙ ap f a.is ∙ along_s (drop (length s) p.0) a.rest in
        let is : z ≡ f g ++ drop (length s) p.0 = c.is ∙ ap (λ (y : Bytes). f g ++ drop (length (f s)) y) path ∙ ap (λ (y : Bytes). f g ++ y) (rest_after (f s) (drop (length s) p.0)) in
        (g ++ drop (length s) p.0, new_came (drop (length s) p.0) a.rest (subst (λ (y : Bytes). has t y ≡ true) a.is p.1), is ∙ sym (along_g (drop (length s) p.0) a.rest))
    | inr left ↦
        let w = has_where (λ y. not (is_in_the_way (f g) y)) z (image f base) left in
        let q = image_from f base z w.1 in
        (q.0, new_has q.0 q.1 (way q.0 q.1 ∙ ap (is_in_the_way (f g)) (sym q.2) ∙ not-true (is_in_the_way (f g) z) w.0), q.2)
  ]

  pub placed_image : new_image ≡ image f new
  placed_image =
      is_image f new new_image placed_apart
      (ordered_put_all image_in (cleared_for (f g) (image f base)) (ordered_where (λ y. not (is_in_the_way (f g) y)) (image f base) (image_ordered f base)))
      alike from
