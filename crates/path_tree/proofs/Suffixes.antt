-- What is at a path and below it, as one tree of what comes after the path.
use Rattle.std.proofs.Common.{◌≡◌, ℕ, ◌==◌, ◌+◌, ◌<◌, Bool, true, false, cond, not, [], ◌∷◌, ◌++◌, length, drop, refl, sym, ap, subst, ◌∙◌, Option, Some, None, true≢false, bytes_eq, eqb-true, append-nil, append_assoc, is_some, nat_lt, max, arith, inr}
use Rattle.std.specs.Prelude.{◌&&◌, ◌||◌, Err, Result, IsErrAnd}
use Rattle.std.specs.Option.{option_or}
use Rattle.std.specs.Ordering.{eq_by_cmp}
use Rattle.std.specs.FinMap.Entries as entries
use Rattle.std.specs.Cmp.Lexicographic.{nat_list_cmp_total}
use Rattle.std.proofs.lemmas.Bool.Decides.{nat_tests}
use Rattle.std.proofs.lemmas.Slice.Eq.{bytes_eq-Decides}
use Rattle.plain_model.specs.declared.limit.TheConstants.{MAX_PATH_BYTES}
use Rattle.plain_model.specs.declared.operation.Entry.{Entry}
use Rattle.plain_model.specs.Paths.{Bytes, is_empty, is_below, is_at_or_below, is_in_the_way}
use Rattle.plain_model.specs.Trees.{TreeOf, Tree, IsTree, at, put, put_all, subtree, without, moved, cleared_for, has_long_path, placed, within_paths, change, Refusal}
use Rattle.plain_model.specs.Trees.Refusal.{PathBytes, MissingSource}
use Rattle.history_laws.proofs.PathLaws.{IsRest}
use Rattle.history_laws.proofs.TreeLaws.{by_bytes, at_where, at_put, has_where}
use Rattle.plain_model.proofs.Numbers.{eqb_turned}
use Rattle.path_tree.specs.declared.fault.ApplyFault.{ApplyFault}
use Rattle.path_tree.specs.Answers.{moves, fault_of, TellsOf}
use Rattle.path_tree.specs.Folders.{Member, prefixed, longest}
use Rattle.path_tree.specs.Folders.Member.{file, folder}
use Rattle.path_tree.specs.Inside.{bounded}
use Rattle.path_tree.specs.PathMaps.{IsInOrder}
use Rattle.path_tree.specs.Setting.{ends_with_slash, suffixes, Finds, FitsNode, Places}
use Rattle.history_laws.specs.SoundTrees.{AllPaths}
use Rattle.path_tree.proofs.Orders.{turned_bytes, same_tree}
use Rattle.path_tree.proofs.Keys.{prefixed_in_order}
use Rattle.path_tree.proofs.Measures.{longest_prefixed, length_prefixed}
use Rattle.path_tree.proofs.Placing.{drop_own}

pub suffixes_in_order : (m : Option Member) → FitsNode m → IsInOrder (suffixes m)
suffixes_in_order None f = tt
suffixes_in_order (Some (file x)) f = tt
suffixes_in_order (Some (folder t)) f = prefixed_in_order (47 ∷ []) t f.1

-- the same entries after another path
pub moved_prefixed : (s t : Bytes) (tree : Tree) → moved s t (prefixed s tree) ≡ prefixed t tree
moved_prefixed s t [] = refl
moved_prefixed s t (e ∷ es) =
    ap (λ (r : Bytes). (t ++ r, e.1) ∷ moved s t (prefixed s es)) (drop_own s e.0) ∙ ap (λ (l : Tree). (t ++ e.0, e.1) ∷ l) (moved_prefixed s t es)

-- ---- what is after the path

abbrev AllRests : Tree → Type 0
AllRests [] = Unit {0}
AllRests (e ∷ es) = IsRest e.0 × AllRests es

slashed : (t : Tree) → AllRests (prefixed (47 ∷ []) t)
slashed [] = tt
slashed (e ∷ t) = (refl, slashed t)

rests : (m : Option Member) → AllRests (suffixes m)
rests None = tt
rests (Some (file x)) = (tt, tt)
rests (Some (folder t)) = slashed t

same_rest : (p q u : Bytes) → IsRest u → bytes_eq q (p ++ u) ≡ (is_at_or_below p q && bytes_eq (drop (length p) q) u)
same_rest [] [] u h = refl
same_rest [] (c ∷ q) [] h = by (c == 47)
  where
    by : (t : Bool) → false ≡ (t && false)
    by true = refl
    by false = refl
same_rest [] (c ∷ q) (b ∷ u) h = by (c == 47) refl
  where
    by : (t : Bool) → (c == 47) ≡ t → ((c == b) && bytes_eq q u) ≡ (t && ((c == b) && bytes_eq q u))
    by true e = refl
    by false e = ap (λ t. t && bytes_eq q u) (ap (λ x. c == x) (eqb-true b 47 h) ∙ e)
same_rest (b ∷ p) [] u h = refl
same_rest (b ∷ p) (c ∷ q) u h =
    ap (λ t. (c == b) && t) (same_rest p q u h)
    ∙ by (c == b) (bytes_eq p q) (is_below p q) (bytes_eq (drop (length p) q) u)
    ∙ ap (λ t. ((t && bytes_eq p q) || (t && is_below p q)) && bytes_eq (drop (length p) q) u) (eqb_turned c b)
  where
    by : (t x y z : Bool) → (t && ((x || y) && z)) ≡ (((t && x) || (t && y)) && z)
    by true x y z = refl
    by false x y z = refl

tie_rest : (p q u : Bytes) → IsRest u → eq_by_cmp by_bytes q (p ++ u) ≡ (is_at_or_below p q && eq_by_cmp by_bytes (drop (length p) q) u)
tie_rest p q u h =
    turned_bytes (p ++ u) q ∙ same_turned (p ++ u) q ∙ same_rest p q u h
    ∙ ap (λ t. is_at_or_below p q && t) (same_turned (drop (length p) q) u ∙ sym (turned_bytes u (drop (length p) q)))
  where
    same_turned : (x y : Bytes) → bytes_eq x y ≡ bytes_eq y x
    same_turned [] [] = refl
    same_turned [] (b ∷ y) = refl
    same_turned (a ∷ x) [] = refl
    same_turned (a ∷ x) (b ∷ y) = ap (λ t. t && bytes_eq x y) (eqb_turned a b) ∙ ap (λ t. (b == a) && t) (same_turned x y)

at_rests : (p q : Bytes) (s : Tree) → AllRests s → at (prefixed p s) q ≡ cond (is_at_or_below p q) (at s (drop (length p) q)) None
at_rests p q [] h = by (is_at_or_below p q)
  where
    by : (t : Bool) → at {X = Entry} [] q ≡ cond t (at [] (drop (length p) q)) None
    by true = refl
    by false = refl
at_rests p q (e ∷ es) h =
    ap (λ t. cond t (Some e.1) (at (prefixed p es) q)) (tie_rest p q e.0 h.0)
    ∙ ap (λ o. cond (is_at_or_below p q && eq_by_cmp by_bytes (drop (length p) q) e.0) (Some e.1) o) (at_rests p q es h.1)
    ∙ by (is_at_or_below p q) (eq_by_cmp by_bytes (drop (length p) q) e.0) (at es (drop (length p) q))
  where
    by : (a b : Bool) (o : Option Entry) → cond (a && b) (Some e.1) (cond a o None) ≡ cond a (cond b (Some e.1) o) None
    by true b o = refl
    by false b o = refl

pub at_suffixes : (p q : Bytes) (m : Option Member) → at (prefixed p (suffixes m)) q ≡ cond (is_at_or_below p q) (at (suffixes m) (drop (length p) q)) None
at_suffixes p q m = at_rests p q (suffixes m) (rests m)

-- ---- the subtree

pub subtree_is : (s : Bytes) (m : Option Member) (old : Tree) → IsInOrder old → FitsNode m → Finds s m old → subtree s old ≡ prefixed s (suffixes m)
subtree_is s m old a f finds =
    same_tree (subtree s old) (prefixed s (suffixes m)) (entries.is_sorted-where_key by_bytes (is_at_or_below s) old a)
    (prefixed_in_order s (suffixes m) (suffixes_in_order m f))
    (λ q. at_where (is_at_or_below s) q old ∙ by q (is_at_or_below s q) refl ∙ sym (at_suffixes s q m))
  where
    by : (q : Bytes) (t : Bool) → is_at_or_below s q ≡ t → cond t (at old q) None ≡ cond t (at (suffixes m) (drop (length s) q)) None
    by q true e = finds q e
    by q false e = refl

pub subtree_paths : (p : Bytes) (tree : Tree) → AllPaths tree → AllPaths (subtree p tree)
subtree_paths p tree all q h = all q (has_where (is_at_or_below p) q tree h).1

-- ---- what a look-up finds

below_or_at : (e u : Bool) → (e || u) ≡ true → (e ≡ false → u ≡ true)
below_or_at true u h f = absurd (true≢false f)
below_or_at false u h f = h

-- a file has nothing below it in a tree
pub finds_file : (p : Bytes) (x : Entry) (old : Tree) → IsTree old → at old p ≡ Some x → Finds p (Some (file x)) old
finds_file p x old tree is q within = by (bytes_eq p q) refl (is_below p q) refl (at old q) refl
  where
    left : bytes_eq p q ≡ true → drop (length p) q ≡ []
    left e = ap (λ (l : Bytes). drop (length p) l) (sym ((bytes_eq-Decides p q).0 e) ∙ sym (append-nil p)) ∙ drop_own p []

    by : (e : Bool) → bytes_eq p q ≡ e → (u : Bool) → is_below p q ≡ u → (o : Option Entry) → at old q ≡ o → o ≡ at (([], x) ∷ []) (drop (length p) q)
    by true e u f o h = sym h ∙ ap (at old) (sym ((bytes_eq-Decides p q).0 e)) ∙ is ∙ sym (ap (λ (l : Bytes). at (([], x) ∷ []) l) (left e))
    by false e true f (Some y) h =
        absurd (true≢false (sym (ap (λ t. t || is_below q p) f) ∙ tree.apart p q (ap is_some is) (ap is_some h)))
    by false e true f None h = sym (none p q f)
      where
        none : (p q : Bytes) → is_below p q ≡ true → at (([], x) ∷ []) (drop (length p) q) ≡ None
        none [] [] h = absurd (true≢false (sym h))
        none [] (c ∷ q) h = refl
        none (b ∷ p) [] h = absurd (true≢false (sym h))
        none (b ∷ p) (c ∷ q) h = inner (b == c) h (none p q)
          where
            inner : (t : Bool) → (t && is_below p q) ≡ true → (is_below p q ≡ true → at (([], x) ∷ []) (drop (length p) q) ≡ None)
                → at (([], x) ∷ []) (drop (length p) q) ≡ None
            inner true h again = again h
            inner false h again = absurd (true≢false (sym h))
    by false e false f o h = absurd (true≢false (sym within ∙ ap (λ t. t || is_below p q) e ∙ f))

below_whole : (p q : Bytes) → is_below p q ≡ true → drop (length p) q ≡ 47 ∷ drop 1 (drop (length p) q)
below_whole [] [] h = absurd (true≢false (sym h))
below_whole [] (c ∷ q) h = ap (λ (x : ℕ). x ∷ q) (eqb-true c 47 h)
below_whole (b ∷ p) [] h = absurd (true≢false (sym h))
below_whole (b ∷ p) (c ∷ q) h = by (b == c) h (below_whole p q)
  where
    by : (t : Bool) → (t && is_below p q) ≡ true → (is_below p q ≡ true → drop (length p) q ≡ 47 ∷ drop 1 (drop (length p) q))
        → drop (length p) q ≡ 47 ∷ drop 1 (drop (length p) q)
    by true h again = again h
    by false h again = absurd (true≢false (sym h))

pub after_path : (p q : Bytes) → is_at_or_below p q ≡ true → q ≡ p ++ drop (length p) q
after_path [] q h = refl
after_path (b ∷ p) [] h = absurd (true≢false (sym h))
after_path (b ∷ p) (c ∷ q) h = by (b == c) refl h (after_path p q)
  where
    by : (t : Bool) → (b == c) ≡ t → ((t && bytes_eq p q) || (t && is_below p q)) ≡ true → (is_at_or_below p q ≡ true → q ≡ p ++ drop (length p) q)
        → c ∷ q ≡ b ∷ p ++ drop (length p) q
    by true e h again = ap (λ (x : ℕ). x ∷ q) (sym (eqb-true b c e)) ∙ ap (λ (l : Bytes). b ∷ l) (again h)
    by false e h again = absurd (true≢false (sym h))

-- where there is no file, what is below is all
pub finds_folder : (p : Bytes) (t old : Tree) (m : Option Member) → at old p ≡ None → ((r : Bytes) → at old ((p ++ 47 ∷ []) ++ r) ≡ at t r)
    → at (suffixes m) [] ≡ None
    → ((r : Bytes) → at (suffixes m) (47 ∷ r) ≡ at t r) → Finds p m old
finds_folder p t old m none below at_end at_slash q within = by (bytes_eq p q) refl
  where
    left : bytes_eq p q ≡ true → drop (length p) q ≡ []
    left e = ap (λ (l : Bytes). drop (length p) l) (sym ((bytes_eq-Decides p q).0 e) ∙ sym (append-nil p)) ∙ drop_own p []

    by : (e : Bool) → bytes_eq p q ≡ e → at old q ≡ at (suffixes m) (drop (length p) q)
    by true e = ap (at old) (sym ((bytes_eq-Decides p q).0 e)) ∙ none ∙ sym (ap (at (suffixes m)) (left e) ∙ at_end)
    by false e =
        let u : is_below p q ≡ true = below_or_at (bytes_eq p q) (is_below p q) within e in
        let r = drop 1 (drop (length p) q) in
        let rest = below_whole p q u in
        let whole : q ≡ (p ++ 47 ∷ []) ++ r = after_path p q within ∙ ap (λ (l : Bytes). p ++ l) rest ∙ sym (append_assoc p (47 ∷ []) r) in
        ap (at old) whole ∙ below r ∙ sym (at_slash r) ∙ ap (at (suffixes m)) (sym rest)

-- ---- entries put over others

module _ {X : Type 0} where
  pub at_put_all : (es base : TreeOf X) (q : Bytes) → at (put_all es base) q ≡ option_or (at es q) (at base q)
  at_put_all [] base q = refl
  at_put_all (e ∷ es) base q =
      at_put e.0 q e.1 (put_all es base) ∙ ap (λ o. cond (eq_by_cmp by_bytes q e.0) (Some e.1) o) (at_put_all es base q)
      ∙ by (eq_by_cmp by_bytes q e.0) (at es q) (at base q)
    where
      by : (t : Bool) (o p : Option X) → cond t (Some e.1) (option_or o p) ≡ option_or (cond t (Some e.1) o) p
      by true o p = refl
      by false o p = refl

  pub in_order_put_all : (es base : TreeOf X) → IsInOrder base → IsInOrder (put_all es base)
  in_order_put_all [] base h = h
  in_order_put_all (e ∷ es) base h = entries.is_sorted-put by_bytes nat_list_cmp_total e.0 e.1 (put_all es base) (in_order_put_all es base h)

-- what is placed is what an operation puts
pub placed_is : (t : Bytes) (m : Option Member) (base new : Tree) → IsInOrder base → IsInOrder new → Places t m true base new
    → new ≡ put_all (prefixed t (suffixes m)) (cleared_for t base)
placed_is t m base new a b places =
    let kept = entries.is_sorted-where_key by_bytes (λ q. not (is_in_the_way t q)) base a in
    same_tree new (put_all (prefixed t (suffixes m)) (cleared_for t base)) b (in_order_put_all (prefixed t (suffixes m)) (cleared_for t base) kept)
    (λ q. places q
    ∙ by (bytes_eq t q) (is_below t q) (is_below q t) (at (suffixes m) (drop (length t) q)) (at base q)
    ∙ ap (λ x. option_or x (cond (not (is_in_the_way t q)) (at base q) None)) (sym (at_suffixes t q m))
    ∙ ap (λ x. option_or (at (prefixed t (suffixes m)) q) x) (sym (at_where (λ q. not (is_in_the_way t q)) q base))
    ∙ sym (at_put_all (prefixed t (suffixes m)) (cleared_for t base) q))
  where
    or_none : (x : Option Entry) → x ≡ option_or x None
    or_none None = refl
    or_none (Some x) = refl

    by : (e u v : Bool) (x o : Option Entry) → cond (e || u) x (cond (true && v) None o) ≡ option_or (cond (e || u) x None) (cond (not (e || (u || v))) o None)
    by true u v x o = or_none x
    by false true v x o = or_none x
    by false false true x o = refl
    by false false false x o = refl

pub put_is : (p : Bytes) (x : Entry) (old new : Tree) → IsInOrder old → IsInOrder new → Places p (Some (file x)) true old new
    → new ≡ put p x (cleared_for p old)
put_is p x old new a b places = placed_is p (Some (file x)) old new a b places ∙ ap (λ (k : Bytes). put k x (cleared_for p old)) (append-nil p)

pub removed_is : (p : Bytes) (old new : Tree) → IsInOrder old → IsInOrder new → Places p None false old new → without p old ≡ new
removed_is p old new a b places =
    let kept = entries.is_sorted-where_key by_bytes (λ q. not (is_at_or_below p q)) old a in
    same_tree (without p old) new kept b (λ q. at_where (λ q. not (is_at_or_below p q)) q old ∙ by q (is_at_or_below p q) ∙ sym (places q))
  where
    by : (q : Bytes) (t : Bool) → cond (not t) (at old q) None ≡ cond t (at [] (drop (length p) q)) (cond (false && is_below q p) None (at old q))
    by q true = refl
    by q false = refl

-- ---- whether a path is too long

has_long : (tree : Tree) → has_long_path tree ≡ nat_lt MAX_PATH_BYTES (longest tree)
has_long [] = refl
has_long (e ∷ es) = ap (λ t. nat_lt MAX_PATH_BYTES (length e.0) || t) (has_long es) ∙ by (length e.0) (longest es)
  where
    by : (a b : ℕ) → (nat_lt MAX_PATH_BYTES a || nat_lt MAX_PATH_BYTES b) ≡ nat_lt MAX_PATH_BYTES (max a b)
    by a b = grind (arith, nat_tests)

-- ---- a copy or a move

pub some_suffixes : (m : Option Member) → FitsNode m → not (is_some m) ≡ false → 0 < length (suffixes m)
some_suffixes None f h = absurd (true≢false h)
some_suffixes (Some (file x)) f h = omega arith
some_suffixes (Some (folder t)) f h = omega (arith, f.0, length_prefixed (47 ∷ []) t)

change_moves : (keep : Bool) (s t : Bytes) (old : Tree) → change (moves keep s t) old ≡ placed s t (subtree s old) (cond keep old (without s old))
change_moves true s t old = refl
change_moves false s t old = refl

pub moves_none : (keep : Bool) (s t : Bytes) (old : Tree) (m : Option Member) → subtree s old ≡ prefixed s (suffixes m) → not (is_some m) ≡ true
    → change (moves keep s t) old ≡ Err MissingSource
moves_none keep s t old None is none = change_moves keep s t old ∙ ap (λ (l : Tree). placed s t l (cond keep old (without s old))) is
moves_none keep s t old (Some x) is none = absurd (true≢false (sym none))

moves_some : (keep : Bool) (s t : Bytes) (old : Tree) (m : Option Member) → subtree s old ≡ prefixed s (suffixes m) → 0 < length (suffixes m)
    → change (moves keep s t) old ≡ cond (nat_lt MAX_PATH_BYTES (longest (prefixed t (suffixes m)))) (Err PathBytes)
    (within_paths (put_all (prefixed t (suffixes m)) (cleared_for t (cond keep old (without s old)))))
moves_some keep s t old m is some =
    change_moves keep s t old ∙ ap (λ (l : Tree). placed s t l (cond keep old (without s old))) is
    ∙ open_it (suffixes m) some
    ∙ ap (λ (l : Tree). cond (has_long_path l) (Err PathBytes) (within_paths (put_all l (cleared_for t (cond keep old (without s old))))))
    (moved_prefixed s t (suffixes m))
    ∙ ap (λ b. cond b (Err PathBytes) (within_paths (put_all (prefixed t (suffixes m)) (cleared_for t (cond keep old (without s old))))))
    (has_long (prefixed t (suffixes m)))
  where
    open_it : (l : Tree) → 0 < length l → placed s t (prefixed s l) (cond keep old (without s old))
        ≡ cond (has_long_path (moved s t (prefixed s l))) (Err PathBytes)
        (within_paths (put_all (moved s t (prefixed s l)) (cleared_for t (cond keep old (without s old)))))
    open_it [] h = absurd (omega (arith, h))
    open_it (e ∷ l) h = refl

pub tells : (expected : Result Tree Refusal) (r : Refusal) (f : ApplyFault) → expected ≡ Err r → f ≡ fault_of r → TellsOf expected f
tells expected r f e h = inr (subst (λ (d : Result Tree Refusal). IsErrAnd d (λ r. f ≡ fault_of r)) (sym e) h)

-- with a slash at its end
pub ends : (p : Bytes) → ends_with_slash (p ++ 47 ∷ []) ≡ true
ends [] = refl
ends (b ∷ p) = ap (λ e. cond e (b == 47) (ends_with_slash (p ++ 47 ∷ []))) (filled p) ∙ ends p
  where
    filled : (p : Bytes) → is_empty (p ++ 47 ∷ []) ≡ false
    filled [] = refl
    filled (b ∷ p) = refl

-- a folder has paths below the target
pub long_folder : (t : Bytes) (below : Tree) → 0 < length below → longest (prefixed t (prefixed (47 ∷ []) below)) ≡ length t + (longest below + 1)
long_folder t below some =
    omega (arith, longest_prefixed t (prefixed (47 ∷ []) below) (omega (arith, some, length_prefixed (47 ∷ []) below)), longest_prefixed (47 ∷ []) below some)

pub empty_of_count : (t : Tree) → bounded (length t) ≡ 0 → t ≡ []
empty_of_count [] h = refl
empty_of_count (e ∷ t) h = absurd (omega (arith, h))

pub base_in_order : (keep : Bool) (s : Bytes) (old : Tree) → IsInOrder old → IsInOrder (cond keep old (without s old))
base_in_order true s old h = h
base_in_order false s old h = entries.is_sorted-where_key by_bytes (λ q. not (is_at_or_below s q)) old h

pub moves_long : (keep : Bool) (s t : Bytes) (old : Tree) (m : Option Member) → subtree s old ≡ prefixed s (suffixes m) → 0 < length (suffixes m)
    → nat_lt MAX_PATH_BYTES (longest (prefixed t (suffixes m))) ≡ true → change (moves keep s t) old ≡ Err PathBytes
moves_long keep s t old m is some long =
    moves_some keep s t old m is some
    ∙ ap (λ b. cond b (Err PathBytes) (within_paths (put_all (prefixed t (suffixes m)) (cleared_for t (cond keep old (without s old)))))) long

pub moves_made : (keep : Bool) (s t : Bytes) (old : Tree) (m : Option Member) → subtree s old ≡ prefixed s (suffixes m) → 0 < length (suffixes m)
    → nat_lt MAX_PATH_BYTES (longest (prefixed t (suffixes m))) ≡ false
    → change (moves keep s t) old ≡ within_paths (put_all (prefixed t (suffixes m)) (cleared_for t (cond keep old (without s old))))
moves_made keep s t old m is some long =
    moves_some keep s t old m is some
    ∙ ap (λ b. cond b (Err PathBytes) (within_paths (put_all (prefixed t (suffixes m)) (cleared_for t (cond keep old (without s old)))))) long
