-- Trees as maps: what a change leaves at a path, when two trees are equal, and how long they are.
use Rattle.std.proofs.Common.{◌≡◌, suc, ◌+◌, ◌≤◌, Bool, true, false, cond, T, [], ◌∷◌, length, refl, sym, ap, subst, ◌∙◌, arith, true≢false, is_some, Option, Some, None, Ok, Err, nat_lt, ltb-false, le-ltb, not, inl, inr, ◌⊎◌, bytes_eq, le_trans}
use Rattle.std.proofs.lemmas.Bool.{cases_Bool, cond-true}
use Rattle.std.specs.Prelude.{◌&&◌, ◌||◌}
use Rattle.std.specs.List.{AllByRecursion, list_any}
use Rattle.std.specs.Option.{option_or}
use Rattle.std.specs.Ordering.{eq_by_cmp, is_eq, is_lt, ordering_reverse}
use Rattle.std.specs.Cmp.Lexicographic.{bytes_decides, nat_list_cmp_total}
use Rattle.std.specs.Cmp.{tied_itself}
use Rattle.std.specs.FinMap.{slice_cmp-IsAntisymmetric, nat_cmp-IsAntisymmetric}
use Rattle.std.specs.FinMap.Entries as entries
use Rattle.std.specs.declared.cmp.Ordering.{Ordering}
use Rattle.std.specs.declared.cmp.Ordering.TheVariants.{Equal, Greater, Less}
use Rattle.plain_model.specs.declared.operation.Entry.{Entry}
use Rattle.plain_model.specs.declared.limit.TheConstants.{MAX_PATHS}
use Rattle.plain_model.specs.Paths.{Bytes, do_conflict, is_in_the_way}
use Rattle.plain_model.specs.Trees.{Tree, TreeOf, at, has, where_path, put, put_all, within_paths, placed, has_long_path, moved, cleared_for}
use Rattle.plain_model.specs.Trees.Refusal.{PathBytes, Paths}
use Rattle.history_laws.proofs.TreeLaws.{by_bytes, at_where, at_put, same_path}

abbrev pub IsOrdered : Tree → Type 0
IsOrdered tree = T (entries.is_sorted by_bytes tree)

pub ordered_where : (f : Bytes → Bool) (tree : Tree) → IsOrdered tree → IsOrdered (where_path f tree)
ordered_where f tree h = entries.is_sorted-where_key by_bytes f tree h

pub ordered_put : (p : Bytes) (e : Entry) (tree : Tree) → IsOrdered tree → IsOrdered (put p e tree)
ordered_put p e tree h = entries.is_sorted-put by_bytes nat_list_cmp_total p e tree h

pub ordered_put_all : (es base : Tree) → IsOrdered base → IsOrdered (put_all es base)
ordered_put_all [] base h = h
ordered_put_all (e ∷ es) base h = ordered_put e.0 e.1 (put_all es base) (ordered_put_all es base h)

-- two trees that answer alike are equal
pub same_tree : (a b : Tree) → IsOrdered a → IsOrdered b → ((q : Bytes) → at a q ≡ at b q) → a ≡ b
same_tree a b g h is = entries.same_entries by_bytes nat_list_cmp_total (slice_cmp-IsAntisymmetric nat_cmp-IsAntisymmetric) a b g h is

or_later : (b : Bool) (v : Entry) (o p : Option Entry) → cond b (Some v) (option_or o p) ≡ option_or (cond b (Some v) o) p
or_later true v o p = refl
or_later false v o p = refl

pub at_put_all : (es base : Tree) (q : Bytes) → at (put_all es base) q ≡ option_or (at es q) (at base q)
at_put_all [] base q = refl
at_put_all (e ∷ es) base q =
    at_put e.0 q e.1 (put_all es base)
    ∙ ap (cond (eq_by_cmp by_bytes q e.0) (Some e.1)) (at_put_all es base q)
    ∙ or_later (eq_by_cmp by_bytes q e.0) e.1 (at es q) (at base q)

pub itself : (q : Bytes) → eq_by_cmp by_bytes q q ≡ true
itself q = ap is_eq (tied_itself nat_list_cmp_total q)

-- one that is there as the second of two is one of them
pub some_second : {X : Type 0} (o p : Option X) → is_some p ≡ true → is_some (option_or o p) ≡ true
some_second None p h = h
some_second (Some x) p h = refl

-- an option that isn't there
pub absent : (o : Option Entry) → is_some o ≡ false → o ≡ None
absent None h = refl
absent (Some e) h = absurd (true≢false h)

-- ---- filters

pub where_comm : (f g : Bytes → Bool) (tree : Tree) → where_path f (where_path g tree) ≡ where_path g (where_path f tree)
where_comm f g [] = refl
where_comm f g (e ∷ es) = go (f e.0) (g e.0) refl refl (where_comm f g es)
  where
    go : (a b : Bool) → f e.0 ≡ a → g e.0 ≡ b → where_path f (where_path g es) ≡ where_path g (where_path f es)
        → where_path f (where_path g (e ∷ es)) ≡ where_path g (where_path f (e ∷ es))
    go true true x y ih = simp (x, y) (ap (λ (t : Tree). e ∷ t) ih)
    go true false x y ih = simp (x, y) ih
    go false true x y ih = simp (x, y) ih
    go false false x y ih = simp (x, y) ih

-- only the paths that are there count
pub where_alike : (f g : Bytes → Bool) (tree : Tree) → IsOrdered tree → ((q : Bytes) → has tree q ≡ true → f q ≡ g q) → where_path f tree ≡ where_path g tree
where_alike f g tree s h =
    same_tree (where_path f tree) (where_path g tree) (ordered_where f tree s) (ordered_where g tree s)
    (λ q. at_where f q tree ∙ go q (at tree q) refl ∙ sym (at_where g q tree))
  where
    nothing : (a : Bool) → ◌≡◌ {A = Option Entry} (cond a None None) None
    nothing true = refl
    nothing false = refl

    go : (q : Bytes) (o : Option Entry) → at tree q ≡ o → cond (f q) (at tree q) None ≡ cond (g q) (at tree q) None
    go q None e = ap (λ (o : Option Entry). cond (f q) o None) e ∙ nothing (f q) ∙ sym (nothing (g q)) ∙ sym (ap (λ (o : Option Entry). cond (g q) o None) e)
    go q (Some v) e = ap (λ b. cond b (at tree q) None) (h q (ap is_some e))

pub where_all : (f : Bytes → Bool) (tree : Tree) → IsOrdered tree → ((q : Bytes) → has tree q ≡ true → f q ≡ true) → where_path f tree ≡ tree
where_all f tree s h = where_alike f (λ _. true) tree s h ∙ go tree
  where
    go : (t : Tree) → where_path (λ _. true) t ≡ t
    go [] = refl
    go (e ∷ t) = ap (λ (r : Tree). e ∷ r) (go t)

-- a path in a list of entries
pub any_there : (g : Bytes → Bool) (es : Tree) (q : Bytes) → has es q ≡ true → g q ≡ true → list_any (λ e. g e.0) es ≡ true
any_there g [] q h t = absurd (true≢false (sym h))
any_there g (e ∷ es) q h t = go (eq_by_cmp by_bytes q e.0) refl h (λ x. any_there g es q x t)
  where
    first : g e.0 ≡ true → list_any (λ e. g e.0) (e ∷ es) ≡ true
    first x = ap (λ b. b || list_any (λ e. g e.0) es) x

    later : (b : Bool) → list_any (λ e. g e.0) es ≡ true → (b || list_any (λ e. g e.0) es) ≡ true
    later true x = refl
    later false x = x

    go : (b : Bool) → eq_by_cmp by_bytes q e.0 ≡ b → is_some (cond b (Some e.1) (at es q)) ≡ true → (has es q ≡ true → list_any (λ e. g e.0) es ≡ true) → list_any (λ e. g e.0) (e ∷ es) ≡ true
    go true s x f = first (subst (λ (p : Bytes). g p ≡ true) (same_path q e.0 s) t)
    go false s x f = later (g e.0) (f x)

pub there_any : (g : Bytes → Bool) (es : Tree) → list_any (λ e. g e.0) es ≡ true → (q : Bytes) × (has es q ≡ true) × (g q ≡ true)
there_any g [] h = absurd (true≢false (sym h))
there_any g (e ∷ es) h = go (g e.0) refl h (λ x. there_any g es x)
  where
    later : (q : Bytes) (b : Bool) → has es q ≡ true → is_some (cond b (Some e.1) (at es q)) ≡ true
    later q true x = refl
    later q false x = x

    go : (b : Bool) → g e.0 ≡ b → (b || list_any (λ e. g e.0) es) ≡ true → (list_any (λ e. g e.0) es ≡ true → (q : Bytes) × (has es q ≡ true) × (g q ≡ true)) → (q : Bytes) × (has (e ∷ es) q ≡ true) × (g q ≡ true)
    go true x y f = (e.0, ap (λ b. is_some (cond b (Some e.1) (at es e.0))) (itself e.0), x)
    go false x y f = let r = f y in (r.0, later r.0 (eq_by_cmp by_bytes r.0 e.0) r.1, r.2)

-- ---- lengths

pub length_where : {X : Type 0} (f : Bytes → Bool) (tree : TreeOf X) → length (where_path f tree) ≤ length tree
length_where f [] = omega arith
length_where f (e ∷ es) =
    let rest = length_where f es in
    elim (f e.0) as (λ b. length (cond b (e ∷ where_path f es) (where_path f es)) ≤ suc (length es)) [ true ↦ omega arith | false ↦ omega arith ]

pub length_put : {X : Type 0} (p : Bytes) (x : X) (tree : TreeOf X) → length (put p x tree) ≤ length tree + 1
length_put p x [] = omega arith
length_put p x (e ∷ es) = by (by_bytes p e.0) (length_put p x es)
  where
    by : (o : Ordering) → length (put p x es) ≤ length es + 1 → length (entries.by_order o ((p, x) ∷ e ∷ es) ((e.0, x) ∷ es) (e ∷ put p x es)) ≤ suc (length es) + 1
    by Less few = omega arith
    by Equal few = omega arith
    by Greater few = omega (arith, few)

pub length_put_grows : (p : Bytes) (e : Entry) (tree : Tree) → IsOrdered tree → length tree ≤ length (put p e tree)
length_put_grows p e tree s =
    let is = entries.length-put by_bytes nat_list_cmp_total p e tree s in
    subst (λ n. length tree ≤ n) (sym is) (elim (is_some (at tree p)) as (λ b. length tree ≤ cond b (length tree) (length tree + 1)) [ true ↦ omega arith | false ↦ omega arith ])

pub within_ok : (tree new : Tree) → within_paths tree ≡ Ok new → (tree ≡ new) × (length tree ≤ MAX_PATHS)
within_ok tree new h = go (nat_lt MAX_PATHS (length tree)) refl h
  where
    go : (b : Bool) → nat_lt MAX_PATHS (length tree) ≡ b → cond b (Err Paths) (Ok tree) ≡ Ok new → (tree ≡ new) × (length tree ≤ MAX_PATHS)
    go true e x = absurd cc
    go false e x = (cc, ltb-false MAX_PATHS (length tree) e)

pub within_small : (tree : Tree) → length tree ≤ MAX_PATHS → within_paths tree ≡ Ok tree
within_small tree h = ap (λ b. cond b (Err Paths) (Ok tree)) (le-ltb MAX_PATHS (length tree) h)

-- what isn't refused is within the limit
pub few_within : (tree new : Tree) → within_paths tree ≡ Ok new → length new ≤ MAX_PATHS
few_within tree new h = let is = within_ok tree new h in subst (λ (t : Tree). length t ≤ MAX_PATHS) is.0 is.1

pub placed_small : (source target : Bytes) (taken base new : Tree) → placed source target taken base ≡ Ok new → length new ≤ MAX_PATHS
placed_small source target [] base new h = absurd cc
placed_small source target (e ∷ taken) base new h = go (has_long_path (moved source target (e ∷ taken))) h
  where
    go : (b : Bool) → cond b (Err PathBytes) (within_paths (put_all (moved source target (e ∷ taken)) (cleared_for target base))) ≡ Ok new → length new ≤ MAX_PATHS
    go true y = absurd cc
    go false y = few_within (put_all (moved source target (e ∷ taken)) (cleared_for target base)) new y

-- ---- a run of puts

abbrev pub puts : Tree → Tree → Tree
puts [] base = base
puts (e ∷ es) base = puts es (put e.0 e.1 base)

pub ordered_puts : (es base : Tree) → IsOrdered base → IsOrdered (puts es base)
ordered_puts [] base h = h
ordered_puts (e ∷ es) base h = ordered_puts es (put e.0 e.1 base) (ordered_put e.0 e.1 base h)

pub length_puts : (es base : Tree) → IsOrdered base → length base ≤ length (puts es base)
length_puts [] base h = omega arith
length_puts (e ∷ es) base h = le_trans (length_put_grows e.0 e.1 base h) (length_puts es (put e.0 e.1 base) (ordered_put e.0 e.1 base h))

-- a path that nothing is in the way of
pub clear_put : (p : Bytes) (e : Entry) (base : Tree) → IsOrdered base → ((q : Bytes) → has base q ≡ true → do_conflict p q ≡ false) → put p e (cleared_for p base) ≡ put p e base
clear_put p e base s apart =
    same_tree (put p e (cleared_for p base)) (put p e base) (ordered_put p e (cleared_for p base) (ordered_where (λ q. not (is_in_the_way p q)) base s)) (ordered_put p e base s)
    (λ q. at_put p q e (cleared_for p base) ∙ go q (eq_by_cmp by_bytes q p) refl (at base q) refl ∙ sym (at_put p q e base))
  where
    other : (q : Bytes) → eq_by_cmp by_bytes q p ≡ false → bytes_eq p q ≡ false
    other q ne = elim (cases_Bool (bytes_eq p q)) [
      | inl same ↦ absurd (true≢false (sym (itself q) ∙ subst (λ (x : Bytes). eq_by_cmp by_bytes q x ≡ false) ((bytes_decides p q).0 same) ne))
      | inr differs ↦ differs
    ]

    free : (q : Bytes) → eq_by_cmp by_bytes q p ≡ false → has base q ≡ true → not (is_in_the_way p q) ≡ true
    free q ne h = ap (λ b. not (b || do_conflict p q)) (other q ne) ∙ ap not (apart q h)

    nothing : (a : Bool) → ◌≡◌ {A = Option Entry} (cond a None None) None
    nothing true = refl
    nothing false = refl

    go : (q : Bytes) (b : Bool) → eq_by_cmp by_bytes q p ≡ b → (o : Option Entry) → at base q ≡ o
        → cond (eq_by_cmp by_bytes q p) (Some e) (at (cleared_for p base) q) ≡ cond (eq_by_cmp by_bytes q p) (Some e) (at base q)
    go q true x o y = cond-true (eq_by_cmp by_bytes q p) (Some e) (at (cleared_for p base) q) x ∙ sym (cond-true (eq_by_cmp by_bytes q p) (Some e) (at base q) x)
    go q false x None y = ap (cond (eq_by_cmp by_bytes q p) (Some e)) (at_where (λ z. not (is_in_the_way p z)) q base ∙ ap (λ (o : Option Entry). cond (not (is_in_the_way p q)) o None) y ∙ nothing (not (is_in_the_way p q)) ∙ sym y)
    go q false x (Some v) y = ap (cond (eq_by_cmp by_bytes q p) (Some e)) (at_where (λ z. not (is_in_the_way p z)) q base ∙ ap (λ b. cond b (at base q) None) (free q x (ap is_some y)))

-- where each entry put is the whole's, the result answers like the whole at each path that is put or was right before
pub puts_agree : (whole : Tree) (es base : Tree) → AllByRecursion (λ e. at whole e.0 ≡ Some e.1) es → (q : Bytes) → (has es q ≡ true) ⊎ (at base q ≡ at whole q) → at (puts es base) q ≡ at whole q
puts_agree whole [] base k q (inl h) = absurd (true≢false (sym h))
puts_agree whole [] base k q (inr h) = h
puts_agree whole (e ∷ es) base k q h = puts_agree whole es (put e.0 e.1 base) k.1 q (go (eq_by_cmp by_bytes q e.0) refl h)
  where
    go : (b : Bool) → eq_by_cmp by_bytes q e.0 ≡ b → (has (e ∷ es) q ≡ true) ⊎ (at base q ≡ at whole q) → (has es q ≡ true) ⊎ (at (put e.0 e.1 base) q ≡ at whole q)
    go true x h = inr (at_put e.0 q e.1 base ∙ ap (λ b. cond b (Some e.1) (at base q)) x ∙ sym k.0 ∙ ap (at whole) (sym (same_path q e.0 x)))
    go false x (inl h) = inl (ap (λ b. is_some (cond b (Some e.1) (at es q))) (sym x) ∙ h)
    go false x (inr h) = inr (at_put e.0 q e.1 base ∙ ap (λ b. cond b (Some e.1) (at base q)) x ∙ h)

-- each entry of a list in order is found at its path
pub below_each : (k : Bytes) (es : Tree) → T (entries.below_all by_bytes k es) → AllByRecursion (λ e. is_lt (by_bytes k e.0) ≡ true) es
below_each k [] h = tt
below_each k (e ∷ es) h = go (is_lt (by_bytes k e.0)) refl h (λ x. below_each k es x)
  where
    go : (b : Bool) → is_lt (by_bytes k e.0) ≡ b → T (b && entries.below_all by_bytes k es) → (T (entries.below_all by_bytes k es) → AllByRecursion (λ f. is_lt (by_bytes k f.0) ≡ true) es) → AllByRecursion (λ f. is_lt (by_bytes k f.0) ≡ true) (e ∷ es)
    go true x y f = (x, f y)
    go false x y f = absurd y

pub not_tied : (k q : Bytes) → is_lt (by_bytes k q) ≡ true → eq_by_cmp by_bytes q k ≡ false
not_tied k q h = ap is_eq (nat_list_cmp_total.antisymm q k) ∙ go (by_bytes k q) h
  where
    go : (r : Ordering) → is_lt r ≡ true → is_eq (ordering_reverse r) ≡ false
    go Less h = refl
    go Equal h = absurd (true≢false (sym h))
    go Greater h = absurd (true≢false (sym h))

pub parts_of_T : (a b : Bool) → T (a && b) → T a × T b
parts_of_T true b h = (tt, h)
parts_of_T false b h = absurd h

pub entries_found : (es : Tree) → IsOrdered es → AllByRecursion (λ e. at es e.0 ≡ Some e.1) es
entries_found [] h = tt
entries_found (e ∷ es) h =
    let parts = parts_of_T (entries.below_all by_bytes e.0 es) (entries.is_sorted by_bytes es) h in
    (ap (λ b. cond b (Some e.1) (at es e.0)) (itself e.0), go es (below_each e.0 es parts.0) (entries_found es parts.1))
  where
    go : (fs : Tree) → AllByRecursion (λ f. is_lt (by_bytes e.0 f.0) ≡ true) fs → AllByRecursion (λ f. at es f.0 ≡ Some f.1) fs → AllByRecursion (λ f. at (e ∷ es) f.0 ≡ Some f.1) fs
    go [] a b = tt
    go (f ∷ fs) a b = (ap (λ t. cond t (Some e.1) (at es f.0)) (not_tied e.0 f.0 a.0) ∙ b.0, go fs a.1 b.1)

pub found_has : (whole es : Tree) → AllByRecursion (λ e. at whole e.0 ≡ Some e.1) es → AllByRecursion (λ e. has whole e.0 ≡ true) es
found_has whole [] a = tt
found_has whole (e ∷ es) a = (ap is_some a.0, found_has whole es a.1)
