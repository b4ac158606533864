-- Paths that are in each other's way, one after another.
use Rattle.std.proofs.Common.{◌≡◌, ◌∙◌, ℕ, suc, ◌≤◌, ◌<◌, arith, Bool, true, false, cond, List, [], ◌∷◌, ◌++◌, ◌+◌, length, drop, get_or, filter, map, refl, sym, ap, subst, inl, inr, bytes_eq, true≢false, nat_lt, Option, Some, None}
use Rattle.std.specs.Prelude.{◌||◌}
use Rattle.std.specs.List.{AllByRecursion, list_any}
use Rattle.std.specs.Ordering.{eq_by_cmp, is_lt}
use Rattle.std.specs.declared.cmp.Ordering.{Ordering}
use Rattle.std.specs.declared.cmp.Ordering.TheVariants.{Less, Equal, Greater}
use Rattle.std.specs.Cmp.Lexicographic.{bytes_decides, nat_list_cmp_total}
use Rattle.std.proofs.lemmas.Bool.{or_right}
use Rattle.std.proofs.lemmas.List.{drop_more}
use Rattle.std.proofs.lemmas.Bool.Decides.{nat_tests}
use Rattle.plain_model.specs.Paths.{Bytes, do_conflict}
use Rattle.plain_model.specs.Trees.{Tree, at, has, where_path}
use Rattle.history_laws.proofs.Lists.{all_join}
use Rattle.history_laws.proofs.PathLaws.{not_below_itself}
use Rattle.history_laws.proofs.TreeLaws.{by_bytes, same_path}
use Rattle.path_move_laws.specs.Images.{collides, collision, image}
use Rattle.path_move_laws.proofs.Collisions.{collision_is, first_collision, not_less}
use Rattle.path_move_laws.proofs.Differing.{same_bytes}
use Rattle.path_move_laws.proofs.Imaged.{either_there, first_there, image_from, image_there, later_there}
use Rattle.path_moves.specs.Collisions.{IsLeast, collides_in, is_before}

-- what is left at an item
pub drop_here : {X : Type 0} (xs : List X) (k : ℕ) (x : X) → k < length xs → x ≡ get_or xs k x → drop k xs ≡ x ∷ drop (k + 1) xs
drop_here xs k x low is = drop_more xs k x low ∙ ap (λ y. y ∷ drop (k + 1) xs) (sym is)

-- ---- one path among others

-- of the rest of the paths, where the path itself was seen or not
abbrev pub met : Bool → Bytes → List Bytes → Bool
met seen q [] = false
met seen q (p ∷ ps) = cond (bytes_eq p q) (seen || met true q ps) (do_conflict q p || met seen q ps)

abbrev pub few : Bool → ℕ
few seen = cond seen 0 1

some : (n : ℕ) → nat_lt 0 (suc n) ≡ true
some n = grind (arith, nat_tests)

above : (n : ℕ) → 0 < n → nat_lt 1 (suc n) ≡ true
above n h = grind (arith, nat_tests)

below : (n : ℕ) → n ≤ 0 → nat_lt 1 (suc n) ≡ false
below n h = grind (arith, nat_tests)

shifted : (n : ℕ) → nat_lt 0 n ≡ nat_lt 1 (suc n)
shifted n = by (nat_lt 0 n) refl
  where
    by : (b : Bool) → nat_lt 0 n ≡ b → b ≡ nat_lt 1 (suc n)
    by true h = sym (above n (grind (arith, nat_tests)))
    by false h = sym (below n (grind (arith, nat_tests)))

same_apart : (p q : Bytes) → bytes_eq p q ≡ true → do_conflict q p ≡ false
same_apart p q h =
    ap (do_conflict q) ((bytes_decides p q).0 h) ∙ (λ i. not_below_itself q i || not_below_itself q i)

pub met_is : (seen : Bool) (q : Bytes) (ps : List Bytes) → met seen q ps ≡ (nat_lt (few seen) (length (filter (λ p. bytes_eq p q) ps)) || list_any (do_conflict q) ps)
met_is true q [] = refl
met_is false q [] = refl
met_is seen q (p ∷ ps) = go (bytes_eq p q) refl (met_is true q ps) (met_is seen q ps)
  where
    rest : List Bytes
    rest = filter (λ p. bytes_eq p q) ps

    turned : (a b c : Bool) → (a || (b || c)) ≡ (b || (a || c))
    turned true true c = refl
    turned true false c = refl
    turned false true c = refl
    turned false false c = refl

    one_more : (s : Bool) (n : ℕ) (any : Bool) → (s || (nat_lt 0 n || any)) ≡ (nat_lt (few s) (suc n) || any)
    one_more true n any = ap (λ b. b || any) (sym (some n))
    one_more false n any = ap (λ b. b || any) (shifted n)

    go : (b : Bool) → bytes_eq p q ≡ b → met true q ps ≡ (nat_lt 0 (length rest) || list_any (do_conflict q) ps) → met seen q ps ≡ (nat_lt (few seen) (length rest) || list_any (do_conflict q) ps)
        → cond (bytes_eq p q) (seen || met true q ps) (do_conflict q p || met seen q ps) ≡ (nat_lt (few seen) (length (cond (bytes_eq p q) (p ∷ rest) rest)) || (do_conflict q p || list_any (do_conflict q) ps))
    go true h again on =
        (λ i. cond (h i) (seen || again i) (do_conflict q p || met seen q ps))
        ∙ one_more seen (length rest) (list_any (do_conflict q) ps)
        ∙ (λ i. nat_lt (few seen) (length (cond (sym h i) (p ∷ rest) rest)) || (sym (same_apart p q h) i || list_any (do_conflict q) ps))
    go false h again on =
        (λ i. cond (h i) (seen || met true q ps) (do_conflict q p || on i))
        ∙ turned (do_conflict q p) (nat_lt (few seen) (length rest)) (list_any (do_conflict q) ps)
        ∙ (λ i. nat_lt (few seen) (length (cond (sym h i) (p ∷ rest) rest)) || (do_conflict q p || list_any (do_conflict q) ps))

pub met_same : (seen : Bool) (q p : Bytes) (ps : List Bytes) → bytes_eq p q ≡ true → met seen q (p ∷ ps) ≡ (seen || met true q ps)
met_same seen q p ps h = ap (λ b. cond b (seen || met true q ps) (do_conflict q p || met seen q ps)) h

pub met_apart : (seen : Bool) (q p : Bytes) (ps : List Bytes) → bytes_eq p q ≡ false → met seen q (p ∷ ps) ≡ (do_conflict q p || met seen q ps)
met_apart seen q p ps h = ap (λ b. cond b (seen || met true q ps) (do_conflict q p || met seen q ps)) h

pub met_in : (q : Bytes) (ps : List Bytes) → met false q ps ≡ collides_in ps q
met_in q ps = met_is false q ps

-- ---- the least one

less : (r : Ordering) → is_lt r ≡ true → r ≡ Less
less Less h = refl
less Equal h = absurd (true≢false (sym h))
less Greater h = absurd (true≢false (sym h))

in_turn : (p q r : Bytes) → is_lt (by_bytes p q) ≡ true → is_lt (by_bytes q r) ≡ true → is_lt (by_bytes p r) ≡ true
in_turn p q r x y = ap is_lt (nat_list_cmp_total.trans p q r (less (by_bytes p q) x) (less (by_bytes q r) y))

any_join_left : (test : Bytes → Bool) (ps qs : List Bytes) → list_any test ps ≡ true → list_any test (ps ++ qs) ≡ true
any_join_left test [] qs h = absurd (true≢false (sym h))
any_join_left test (p ∷ ps) qs h = go (test p) h (any_join_left test ps qs)
  where
    go : (b : Bool) → (b || list_any test ps) ≡ true → (list_any test ps ≡ true → list_any test (ps ++ qs) ≡ true) → (b || list_any test (ps ++ qs)) ≡ true
    go true k rest = refl
    go false k rest = rest k

any_last : (test : Bytes → Bool) (ps : List Bytes) (p : Bytes) → test p ≡ true → list_any test (ps ++ p ∷ []) ≡ true
any_last test [] p h = ap (λ b. b || false) h
any_last test (x ∷ ps) p h = or_right (test x) (list_any test (ps ++ p ∷ [])) (any_last test ps p h)

module _ (paths looked : List Bytes) (p : Bytes) where
  -- a path that comes later changes nothing
  pub least_stays : (found : Option Bytes) → is_before p found ≡ false → IsLeast paths looked found → IsLeast paths (looked ++ p ∷ []) found
  least_stays None h least = absurd (true≢false h)
  least_stays (Some q) h least = (
    any_join_left (λ x. bytes_eq x q) looked (p ∷ []) least.0,
    least.1,
    all_join (λ x. is_lt (by_bytes x q) ≡ true → collides_in paths x ≡ false) looked (p ∷ []) least.2 ((λ k. absurd (true≢false (sym k ∙ h))), tt),
  )

  -- nor does one that collides with nothing
  pub least_passes : (found : Option Bytes) → collides_in paths p ≡ false → IsLeast paths looked found → IsLeast paths (looked ++ p ∷ []) found
  least_passes None h least = all_join (λ x. collides_in paths x ≡ false) looked (p ∷ []) least (h, tt)
  least_passes (Some q) h least = (
    any_join_left (λ x. bytes_eq x q) looked (p ∷ []) least.0,
    least.1,
    all_join (λ x. is_lt (by_bytes x q) ≡ true → collides_in paths x ≡ false) looked (p ∷ []) least.2 ((λ k. h), tt),
  )

  -- one that comes earlier and collides is the least
  pub least_next : (found : Option Bytes) → is_before p found ≡ true → collides_in paths p ≡ true → IsLeast paths looked found → IsLeast paths (looked ++ p ∷ []) (Some p)
  least_next found before h least = (
    any_last (λ x. bytes_eq x p) looked p (same_bytes p),
    h,
    all_join (λ x. is_lt (by_bytes x p) ≡ true → collides_in paths x ≡ false) looked (p ∷ []) (all found before least)
        ((λ k. absurd (true≢false (sym k ∙ not_less p))), tt),
  )
    where
      each_none : (ps : List Bytes) → AllByRecursion (λ x. collides_in paths x ≡ false) ps → AllByRecursion (λ x. is_lt (by_bytes x p) ≡ true → collides_in paths x ≡ false) ps
      each_none [] a = tt
      each_none (x ∷ ps) a = ((λ k. a.0), each_none ps a.1)

      each_some : (q : Bytes) → is_lt (by_bytes p q) ≡ true → (ps : List Bytes) → AllByRecursion (λ x. is_lt (by_bytes x q) ≡ true → collides_in paths x ≡ false) ps
          → AllByRecursion (λ x. is_lt (by_bytes x p) ≡ true → collides_in paths x ≡ false) ps
      each_some q low [] a = tt
      each_some q low (x ∷ ps) a = ((λ k. a.0 (in_turn x p q k low)), each_some q low ps a.1)

      all : (found : Option Bytes) → is_before p found ≡ true → IsLeast paths looked found → AllByRecursion (λ x. is_lt (by_bytes x p) ≡ true → collides_in paths x ≡ false) looked
      all None low l = each_none looked l
      all (Some q) low l = each_some q low looked l.2

-- ---- the images of a tree

module _ (f : Bytes → Bytes) where
  abbrev pub images : Tree → List Bytes
  images es = map (λ e. f e.0) es

  count_same : (q : Bytes) (es : Tree) → length (where_path (λ p. bytes_eq (f p) q) es) ≡ length (filter (λ p. bytes_eq p q) (images es))
  count_same q [] = refl
  count_same q (e ∷ es) = go (bytes_eq (f e.0) q) refl (count_same q es)
    where
      go : (b : Bool) → bytes_eq (f e.0) q ≡ b → length (where_path (λ p. bytes_eq (f p) q) es) ≡ length (filter (λ p. bytes_eq p q) (images es))
          → length (cond (bytes_eq (f e.0) q) (e ∷ where_path (λ p. bytes_eq (f p) q) es) (where_path (λ p. bytes_eq (f p) q) es))
          ≡ length (cond (bytes_eq (f e.0) q) (f e.0 ∷ filter (λ p. bytes_eq p q) (images es)) (filter (λ p. bytes_eq p q) (images es)))
      go true h same =
          (λ i. length (cond (h i) (e ∷ where_path (λ p. bytes_eq (f p) q) es) (where_path (λ p. bytes_eq (f p) q) es)))
          ∙ ap suc same
          ∙ (λ i. length (cond (sym h i) (f e.0 ∷ filter (λ p. bytes_eq p q) (images es)) (filter (λ p. bytes_eq p q) (images es))))
      go false h same =
          (λ i. length (cond (h i) (e ∷ where_path (λ p. bytes_eq (f p) q) es) (where_path (λ p. bytes_eq (f p) q) es)))
          ∙ same
          ∙ (λ i. length (cond (sym h i) (f e.0 ∷ filter (λ p. bytes_eq p q) (images es)) (filter (λ p. bytes_eq p q) (images es))))

  any_same : (q : Bytes) (es : Tree) → list_any (λ e. do_conflict q (f e.0)) es ≡ list_any (do_conflict q) (images es)
  any_same q [] = refl
  any_same q (e ∷ es) = ap (λ b. do_conflict q (f e.0) || b) (any_same q es)

  pub collides_same : (q : Bytes) (es : Tree) → collides f es q ≡ collides_in (images es) q
  collides_same q es = λ i. nat_lt 1 (count_same q es i) || any_same q es i

  -- what is among the images is the image of a path that is there
  among : (q : Bytes) (es : Tree) → list_any (λ p. bytes_eq p q) (images es) ≡ true → (p : Bytes) × (has es p ≡ true) × (f p ≡ q)
  among q [] h = absurd (true≢false (sym h))
  among q (e ∷ es) h = go (bytes_eq (f e.0) q) refl h (among q es)
    where
      go : (b : Bool) → bytes_eq (f e.0) q ≡ b → (b || list_any (λ p. bytes_eq p q) (images es)) ≡ true → (list_any (λ p. bytes_eq p q) (images es) ≡ true → (p : Bytes) × (has es p ≡ true) × (f p ≡ q))
          → (p : Bytes) × (has (e ∷ es) p ≡ true) × (f p ≡ q)
      go true y k rest = (e.0, first_there e es, (bytes_decides (f e.0) q).0 y)
      go false y k rest = let r = rest k in (r.0, later_there (eq_by_cmp by_bytes r.0 e.0) e.1 (at es r.0) r.1, r.2)

  -- and what is true of all images is true of that of each path
  all_images : (P : Bytes → Type 0) (es : Tree) → AllByRecursion P (images es) → (p : Bytes) → has es p ≡ true → P (f p)
  all_images P [] a p h = absurd (true≢false (sym h))
  all_images P (e ∷ es) a p h =
      elim (either_there (eq_by_cmp by_bytes p e.0) e.1 (at es p) h) [
        | inl same ↦ subst P (ap f (sym (same_path p e.0 same))) a.0
        | inr there ↦ all_images P es a.1 p there
      ]

  pub least_is : (es : Tree) (found : Option Bytes) → IsLeast (images es) (images es) found → found ≡ collision f es
  least_is es None least = go (collision f es) refl
    where
      go : (o : Option Bytes) → collision f es ≡ o → None ≡ collision f es
      go None h = sym h
      go (Some q) h =
          let first = first_collision f es q h in
          let from = image_from f es q first.there in
          absurd (true≢false (sym first.passes ∙ ap (collides f es) from.2 ∙ collides_same (f from.0) es ∙ all_images (λ x. collides_in (images es) x ≡ false) es least from.0 from.1))
  least_is es (Some q) least =
      sym (collision_is f es q (record {
        there = let from = among q es least.0 in subst (λ (x : Bytes). has (image f es) x ≡ true) from.2 (image_there f es from.0 from.1);
        passes = collides_same q es ∙ least.1;
        before = λ x there low.
            let from = image_from f es x there in
            ap (collides f es) from.2 ∙ collides_same (f from.0) es
            ∙ all_images (λ y. is_lt (by_bytes y q) ≡ true → collides_in (images es) y ≡ false) es least.2 from.0 from.1
            (subst (λ (y : Bytes). is_lt (by_bytes y q) ≡ true) from.2 low);
      }))
