-- A key is found by halving.
use Rattle.std.proofs.Common.{◌≡◌, ℕ, zero, suc, ◌<◌, ◌≤◌, ◌+◌, false, T, List, [], ◌∷◌, length, take, drop, refl, sym, ap, subst, ◌∙◌, arith, ◌++◌, cond, Some, None}
use Rattle.std.specs.Prelude.{Result, Ok, Err, IfOk, IfErr, slice_index_or}
use Rattle.std.specs.List.{AllWithin}
use Rattle.std.specs.List.Sorted.{IsBinarySearchResult, IsSearchInRange}
use Rattle.std.specs.Ordering.{is_lt, is_eq, ordering_reverse}
use Rattle.std.specs.declared.cmp.Ordering.{Ordering}
use Rattle.std.specs.declared.cmp.Ordering.TheVariants.{Less, Greater}
use Rattle.std.specs.Cmp.Lexicographic.{nat_list_cmp_total}
use Rattle.std.proofs.lemmas.List.Sorted.{searchable_from_sorted}
use Rattle.plain_model.specs.Paths.{Bytes}
use Rattle.std.proofs.lemmas.Slice.Eq.{bytes_eq-Decides}
use Rattle.std.proofs.lemmas.List.{take-append-drop, drop_more}
use Rattle.plain_model.specs.Trees.{TreeOf, at}
use Rattle.history_laws.proofs.TreeLaws.{by_bytes, same_path}
use Rattle.path_tree.specs.declared.folder.Child.{Child}
use Rattle.path_tree.specs.Folders.{Member}
use Rattle.path_tree.specs.Inside.{rows_of, member_of}
use Rattle.path_tree.specs.PathMaps.{IsInOrder}
use Rattle.path_tree.specs.Rows.{AllBefore, AllAfter, IsFound, IsPlace, row_if}
use Rattle.path_tree.proofs.Orders.{both, first, second, less}
use Rattle.path_tree.proofs.Splices.{at_spliced, around}

abbrev pub key_in : Child → Bytes
key_in c = c.key.value.items

-- how a child's key compares with another
abbrev pub against : Bytes → Child → Ordering
against key c = by_bytes (key_in c) key

not_less : (x y : Bytes) → by_bytes x y ≡ Less → is_lt (by_bytes y x) ≡ false
not_less x y h = ap is_lt (nat_list_cmp_total.antisymm y x ∙ ap ordering_reverse h)

-- ---- the keys rise

rise : (cs : List Child) → IsInOrder (rows_of cs) → (k : ℕ) (d : Child) → k + 1 < length cs
    → is_lt (by_bytes (key_in (slice_index_or cs (k + 1) d)) (key_in (slice_index_or cs k d))) ≡ false
rise [] h k d lt = absurd (omega (arith, lt))
rise (b ∷ []) h k d lt = absurd (omega (arith, lt))
rise (b ∷ c ∷ cs) h zero d lt = not_less (key_in b) (key_in c) (less (by_bytes (key_in b) (key_in c)) (first _ _ (first _ _ h)))
rise (b ∷ c ∷ cs) h (suc k) d lt =
    let next : suc k + 1 ≡ suc (k + 1) = omega arith in
    rw next (rise (c ∷ cs) (second _ _ h) k d (omega (arith, lt)))

-- ---- on both sides of the place

before_point : (key : Bytes) (cs : List Child) (i : ℕ) → AllWithin (λ c. against key c ≡ Less) cs 0 i → i ≤ length cs → AllBefore key (rows_of (take i cs))
before_point key cs zero h le = tt
before_point key [] (suc i) h le = absurd (omega (arith, le))
before_point key (c ∷ cs) (suc i) h le =
    (h zero c (omega arith) (omega arith), before_point key cs i (λ k d low high. h (suc k) d (omega arith) (omega (arith, high))) (omega (arith, le)))

all_after : (key : Bytes) (cs : List Child) → AllWithin (λ c. against key c ≡ Greater) cs 0 (length cs) → AllAfter key (rows_of cs)
all_after key [] h = tt
all_after key (c ∷ cs) h =
    let is : by_bytes key (key_in c) ≡ Less = nat_list_cmp_total.antisymm key (key_in c) ∙ ap ordering_reverse (h zero c (omega arith) (omega arith)) in
    both _ _ (subst (λ r. T (is_lt r)) (sym is) tt) (all_after key cs (λ k d low high. h (suc k) d (omega arith) (omega (arith, high))))

after_point : (key : Bytes) (cs : List Child) (i : ℕ) → AllWithin (λ c. against key c ≡ Greater) cs i (length cs) → AllAfter key (rows_of (drop i cs))
after_point key cs zero h = all_after key cs h
after_point key [] (suc i) h = tt
after_point key (c ∷ cs) (suc i) h = after_point key cs i (λ k d low high. h (suc k) d (omega (arith, low)) (omega (arith, high)))

-- ---- what the search answers

pub found_by : (key : Bytes) (cs : List Child) (r : Result ℕ ℕ) → IsSearchInRange r (length cs) → IsBinarySearchResult (against key) cs r
    → IfOk r (IsFound key cs)
found_by key cs (Ok i) range h = record { within = range; key_is = λ d. same_path (key_in (slice_index_or cs i d)) key (ap is_eq (h d)) }
found_by key cs (Err i) range h = tt

pub absent_by : (key : Bytes) (cs : List Child) (r : Result ℕ ℕ) → IsInOrder (rows_of cs) → IsSearchInRange r (length cs)
    → IsBinarySearchResult (against key) cs r → IfErr r (IsPlace key cs)
absent_by key cs (Ok i) sorted range h = tt
absent_by key cs (Err i) sorted range h =
    let point = h (searchable_from_sorted nat_list_cmp_total key_in cs key (λ k d low high. rise cs sorted k d high)) in
    record { within = range; before = before_point key cs i point.0 range; after = after_point key cs i point.1 }

-- ---- the rows around it

pub rows_of_append : (a b : List Child) → rows_of (a ++ b) ≡ rows_of a ++ rows_of b
rows_of_append [] b = refl
rows_of_append (c ∷ a) b = ap (λ (l : TreeOf Member). (key_in c, member_of c.node) ∷ l) (rows_of_append a b)

pub found_rows : (key : Bytes) (cs : List Child) (i : ℕ) (d : Child) → IsFound key cs i
    → rows_of cs ≡ rows_of (take i cs) ++ (row_if key (Some (member_of (slice_index_or cs i d).node)) ++ rows_of (drop (i + 1) cs))
found_rows key cs i d f =
    ap rows_of (sym (take-append-drop i cs))
    ∙ rows_of_append (take i cs) (drop i cs)
    ∙ ap (λ (l : List Child). rows_of (take i cs) ++ rows_of l) (drop_more cs i d f.within)
    ∙ ap (λ (k : Bytes). rows_of (take i cs) ++ (k, member_of (slice_index_or cs i d).node) ∷ rows_of (drop (i + 1) cs)) (f.key_is d)

pub place_rows : (cs : List Child) (i : ℕ) → rows_of cs ≡ rows_of (take i cs) ++ rows_of (drop i cs)
place_rows cs i = ap rows_of (sym (take-append-drop i cs)) ∙ rows_of_append (take i cs) (drop i cs)

pub found_at : (key : Bytes) (cs : List Child) (i : ℕ) (d : Child) → IsInOrder (rows_of cs) → IsFound key cs i
    → Some (member_of (slice_index_or cs i d).node) ≡ at (rows_of cs) key
found_at key cs i d sorted f =
    let node = (slice_index_or cs i d).node in
    let rows = found_rows key cs i d f in
    let sides = around key (member_of node) (rows_of (take i cs)) (rows_of (drop (i + 1) cs)) (subst (λ (l : TreeOf Member). IsInOrder l) rows sorted) in
    sym (ap (λ (l : TreeOf Member). at l key) rows
    ∙ at_spliced key (rows_of (take i cs)) (Some (member_of node)) (rows_of (drop (i + 1) cs)) sides.0 sides.1 key
    ∙ ap (λ t. cond t (Some (member_of node)) (at (rows_of (take i cs) ++ rows_of (drop (i + 1) cs)) key)) ((bytes_eq-Decides key key).1 refl))

pub absent_at : (key : Bytes) (cs : List Child) (i : ℕ) → IsPlace key cs i → None ≡ at (rows_of cs) key
absent_at key cs i p =
    sym (ap (λ (l : TreeOf Member). at l key) (place_rows cs i)
    ∙ at_spliced key (rows_of (take i cs)) None (rows_of (drop i cs)) p.before p.after key
    ∙ ap (λ t. cond t None (at (rows_of (take i cs) ++ rows_of (drop i cs)) key)) ((bytes_eq-Decides key key).1 refl))
