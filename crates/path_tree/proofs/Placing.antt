-- What is put at a path, key by key.
use Rattle.std.proofs.Common.{arith, ◌≡◌, ℕ, ◌==◌, Bool, true, false, cond, not, [], ◌∷◌, ◌++◌, length, drop, refl, sym, ap, ◌∙◌, Option, Some, None, is_some, option_map, subst, true≢false, bytes_eq, eq-eqb, append-nil, append_assoc}
use Rattle.std.specs.Prelude.{◌&&◌, ◌||◌}
use Rattle.std.proofs.lemmas.Slice.Eq.{bytes_eq-Decides}
use Rattle.std.proofs.Math.Bool.{and-false}
use Rattle.plain_model.specs.declared.operation.Entry.{Entry}
use Rattle.plain_model.specs.Paths.{Bytes, is_empty, is_below, is_at_or_below}
use Rattle.plain_model.specs.Trees.{TreeOf, Tree, at}
use Rattle.history_laws.proofs.PathLaws.{below_after}
use Rattle.plain_model.proofs.Numbers.{eqb_turned}
use Rattle.path_tree.specs.Folders.{Member, key_of, rest_of, is_file_key, is_folder_key, at_member, filled, tree_under, flat, AreSound}
use Rattle.path_tree.specs.Folders.Member.{file, folder}
use Rattle.path_tree.specs.Setting.{name_of, suffixes, expected, HasNone, Places, PlacesBelow, PutsOver, PutsUnder, FitsIf}
use Rattle.path_tree.proofs.Keys.{whole, at_prefixed, at_flat, folder_all, AllSplit}
use Rattle.path_tree.proofs.Looking.{length_both, at_filled, at_tree_under, fits_at}
use Rattle.path_tree.proofs.Setting.{not_slash, on_the_way, after_path}

-- ---- paths that begin with the same key

pub same_byte : (b : ℕ) → (b == b) ≡ true
same_byte b = eq-eqb b b refl

same_both : (k p q : Bytes) → bytes_eq (k ++ p) (k ++ q) ≡ bytes_eq p q
same_both [] p q = refl
same_both (b ∷ k) p q = ap (λ t. t && bytes_eq (k ++ p) (k ++ q)) (same_byte b) ∙ same_both k p q

at_or_below_both : (k p q : Bytes) → is_at_or_below (k ++ p) (k ++ q) ≡ is_at_or_below p q
at_or_below_both k p q = ap (λ t. t || is_below (k ++ p) (k ++ q)) (same_both k p q) ∙ ap (λ t. bytes_eq p q || t) (below_after k p q)

-- what is expected is expected of the rests
pub expected_below : (p : Bytes) (m : Option Member) (clear : Bool) (before : Option Entry) (q : Bytes) → key_of p ≡ key_of q
    → expected p m clear before q ≡ expected (rest_of p) m clear before (rest_of q)
expected_below p m clear before q h =
    ap (λ t. cond t (at (suffixes m) (drop (length p) q)) (cond (clear && is_below q p) None before)) here
    ∙ ap (λ (r : Bytes). cond (is_at_or_below (rest_of p) (rest_of q)) (at (suffixes m) r) (cond (clear && is_below q p) None before)) (after_path p q h)
    ∙ ap (λ t. cond (is_at_or_below (rest_of p) (rest_of q)) (at (suffixes m) (drop (length (rest_of p)) (rest_of q))) (cond (clear && t) None before)) above
  where
    q_is : q ≡ key_of p ++ rest_of q
    q_is = sym (whole q) ∙ ap (λ (k : Bytes). k ++ rest_of q) (sym h)

    here : is_at_or_below p q ≡ is_at_or_below (rest_of p) (rest_of q)
    here =
        ap (λ (x : Bytes). is_at_or_below x q) (sym (whole p)) ∙ ap (λ (x : Bytes). is_at_or_below (key_of p ++ rest_of p) x) q_is
        ∙ at_or_below_both (key_of p) (rest_of p) (rest_of q)

    above : is_below q p ≡ is_below (rest_of q) (rest_of p)
    above =
        ap (λ (x : Bytes). is_below q x) (sym (whole p)) ∙ ap (λ (x : Bytes). is_below x (key_of p ++ rest_of p)) q_is
        ∙ below_after (key_of p) (rest_of q) (rest_of p)

-- ---- paths that begin with other keys

apart_by_key : (p q : Bytes) → is_empty (rest_of p) ≡ false → bytes_eq (key_of p) (key_of q) ≡ false → is_at_or_below p q ≡ false
apart_by_key [] q some h = absurd (true≢false some)
apart_by_key (b ∷ p) [] some h = refl
apart_by_key (b ∷ p) (c ∷ q) some h = by (b == 47) refl (c == 47) refl (apart_by_key p q) some h
  where
    other : (b == c) ≡ false → is_at_or_below (b ∷ p) (c ∷ q) ≡ false
    other e = ap (λ t. (t && bytes_eq p q) || (t && is_below p q)) e

    inner : (t : Bool) → (is_empty (rest_of p) ≡ false → bytes_eq (key_of p) (key_of q) ≡ false → is_at_or_below p q ≡ false)
        → is_empty (rest_of p) ≡ false → (t && bytes_eq (key_of p) (key_of q)) ≡ false → ((t && bytes_eq p q) || (t && is_below p q)) ≡ false
    inner true again some h = again some h
    inner false again some h = refl

    by : (s : Bool) → (b == 47) ≡ s → (t : Bool) → (c == 47) ≡ t
        → (is_empty (rest_of p) ≡ false → bytes_eq (key_of p) (key_of q) ≡ false → is_at_or_below p q ≡ false)
        → is_empty (cond s p (rest_of p)) ≡ false → bytes_eq (cond s (47 ∷ []) (b ∷ key_of p)) (cond t (47 ∷ []) (c ∷ key_of q)) ≡ false
        → is_at_or_below (b ∷ p) (c ∷ q) ≡ false
    by true e true f again some h = absurd (true≢false h)
    by true e false f again some h = other (not_slash b c e f)
    by false e true f again some h = other (eqb_turned b c ∙ not_slash c b f e)
    by false e false f again some h = inner (b == c) again some h

-- a name is no key of a folder
name_apart : (p : Bytes) → is_empty (rest_of p) ≡ false → bytes_eq (name_of p) (key_of p) ≡ false
name_apart [] some = absurd (true≢false some)
name_apart (b ∷ p) some = by (b == 47) (name_apart p) some
  where
    by : (t : Bool) → (is_empty (rest_of p) ≡ false → bytes_eq (name_of p) (key_of p) ≡ false) → is_empty (cond t p (rest_of p)) ≡ false
        → bytes_eq (cond t [] (b ∷ name_of p)) (cond t (47 ∷ []) (b ∷ key_of p)) ≡ false
    by true again some = refl
    by false again some = ap (λ t. t && bytes_eq (name_of p) (key_of p)) (same_byte b) ∙ again some

-- ---- a folder on the way is set, and the file in its place goes

pub places_way : (p : Bytes) (m : Option Member) (clear : Bool) (old mid new : Tree) → is_empty (rest_of p) ≡ false
    → PlacesBelow (key_of p) (rest_of p) m clear old mid → ((q : Bytes) → at new q ≡ cond (clear && bytes_eq (name_of p) (key_of q)) None (at mid q))
    → Places p m clear old new
places_way p m clear old mid new some below cleared q =
    cleared q
    ∙ ap (λ o. cond (clear && bytes_eq (name_of p) (key_of q)) None o) (below q)
    ∙ by (bytes_eq (key_of p) (key_of q)) refl
  where
    by : (t : Bool) → bytes_eq (key_of p) (key_of q) ≡ t
        → cond (clear && bytes_eq (name_of p) (key_of q)) None
        (cond t (expected (rest_of p) m clear (at old q) (rest_of q)) (at old q)) ≡ expected p m clear (at old q) q
    by true e =
        let same : key_of p ≡ key_of q = (bytes_eq-Decides (key_of p) (key_of q)).0 e in
        ap (λ (k : Bytes). cond (clear && bytes_eq (name_of p) k) None (expected (rest_of p) m clear (at old q) (rest_of q))) (sym same)
        ∙ ap (λ t. cond (clear && t) None (expected (rest_of p) m clear (at old q) (rest_of q))) (name_apart p some)
        ∙ ap (λ t. cond t None (expected (rest_of p) m clear (at old q) (rest_of q))) (and-false clear)
        ∙ sym (expected_below p m clear (at old q) q same)
    by false e =
        ap (λ t. cond (clear && t) None (at old q)) (on_the_way p q e)
        ∙ sym (ap (λ t. cond t (at (suffixes m) (drop (length p) q)) (cond (clear && is_below q p) None (at old q))) (apart_by_key p q some e))

-- ---- the folder under the key

pub below_set : (key p : Bytes) (m : Option Member) (clear : Bool) (rows : TreeOf Member) (t new : Tree) → AreSound rows → is_folder_key key ≡ true
    → Places p m clear (tree_under (at rows key)) t → PutsUnder key (filled t) (flat rows) new → PlacesBelow key p m clear (flat rows) new
below_set key p m clear rows t new s is_key places puts q =
    puts q ∙ by (bytes_eq key (key_of q)) refl
  where
    fit : (o : Option Member) → at rows key ≡ o → FitsIf key o
    fit None e = tt
    fit (Some x) e = fits_at key x rows s.all_fit e

    was : key ≡ key_of q → at (tree_under (at rows key)) (rest_of q) ≡ at (flat rows) q
    was same =
        sym (at_tree_under key (at rows key) (fit (at rows key) refl) is_key (rest_of q))
        ∙ ap (λ (k : Bytes). at_member (at rows k) (rest_of q)) same
        ∙ sym (at_flat rows q s)

    by : (b : Bool) → bytes_eq key (key_of q) ≡ b
        → cond b (at_member (filled t) (rest_of q)) (at (flat rows) q) ≡ cond b (expected p m clear (at (flat rows) q) (rest_of q)) (at (flat rows) q)
    by true e =
        at_filled t (rest_of q) ∙ places (rest_of q)
        ∙ ap (λ o. expected p m clear o (rest_of q)) (was ((bytes_eq-Decides key (key_of q)).0 e))
    by false e = refl

pub none_below : (key : Bytes) (rows : TreeOf Member) → AreSound rows → at rows key ≡ None → HasNone key (flat rows)
none_below key rows s h q e =
    at_flat rows q s
    ∙ ap (λ (k : Bytes). at_member (at rows k) (rest_of q)) (sym ((bytes_eq-Decides key (key_of q)).0 e))
    ∙ ap (λ o. at_member o (rest_of q)) h

-- ---- where the path is a name

key_here : (p q : Bytes) → is_file_key p ≡ true → bytes_eq p q ≡ bytes_eq p (key_of q)
key_here [] [] h = refl
key_here [] (c ∷ q) h = by (c == 47)
  where
    by : (t : Bool) → false ≡ bytes_eq [] (cond t (47 ∷ []) (c ∷ key_of q))
    by true = refl
    by false = refl
key_here (b ∷ p) [] h = refl
key_here (b ∷ p) (c ∷ q) h = by (b == 47) refl (c == 47) refl h (key_here p q)
  where
    by : (s : Bool) → (b == 47) ≡ s → (t : Bool) → (c == 47) ≡ t → (not s && is_file_key p) ≡ true
        → (is_file_key p ≡ true → bytes_eq p q ≡ bytes_eq p (key_of q))
        → ((b == c) && bytes_eq p q) ≡ bytes_eq (b ∷ p) (cond t (47 ∷ []) (c ∷ key_of q))
    by true e t f h again = absurd (true≢false (sym h))
    by false e true f h again = ap (λ t. t && bytes_eq p q) (eqb_turned b c ∙ not_slash c b f e) ∙ sym (ap (λ t. t && bytes_eq p []) e)
    by false e false f h again = ap (λ t. (b == c) && t) (again h)

below_here : (p q : Bytes) → is_file_key p ≡ true → is_below p q ≡ bytes_eq (p ++ 47 ∷ []) (key_of q)
below_here [] [] h = refl
below_here [] (c ∷ q) h = by (c == 47) refl
  where
    by : (t : Bool) → (c == 47) ≡ t → t ≡ bytes_eq (47 ∷ []) (cond t (47 ∷ []) (c ∷ key_of q))
    by true e = refl
    by false e = sym (ap (λ t. t && bytes_eq [] (key_of q)) (eqb_turned 47 c ∙ e))
below_here (b ∷ p) [] h = refl
below_here (b ∷ p) (c ∷ q) h = by (b == 47) refl (c == 47) refl h (below_here p q)
  where
    by : (s : Bool) → (b == 47) ≡ s → (t : Bool) → (c == 47) ≡ t → (not s && is_file_key p) ≡ true
        → (is_file_key p ≡ true → is_below p q ≡ bytes_eq (p ++ 47 ∷ []) (key_of q))
        → ((b == c) && is_below p q) ≡ bytes_eq (b ∷ p ++ 47 ∷ []) (cond t (47 ∷ []) (c ∷ key_of q))
    by true e t f h again = absurd (true≢false (sym h))
    by false e true f h again = ap (λ t. t && is_below p q) (eqb_turned b c ∙ not_slash c b f e) ∙ sym (ap (λ t. t && bytes_eq (p ++ 47 ∷ []) []) e)
    by false e false f h again = ap (λ t. (b == c) && t) (again h)

-- nothing has a name below it
not_above : (p q : Bytes) → is_file_key p ≡ true → is_below q p ≡ false
not_above [] [] h = refl
not_above [] (c ∷ q) h = refl
not_above (b ∷ p) [] h = by (b == 47) h
  where
    by : (t : Bool) → (not t && is_file_key p) ≡ true → t ≡ false
    by true h = absurd (true≢false (sym h))
    by false h = refl
not_above (b ∷ p) (c ∷ q) h = by (b == 47) h (not_above p q)
  where
    either : (t : Bool) → (t && false) ≡ false
    either true = refl
    either false = refl

    by : (t : Bool) → (not t && is_file_key p) ≡ true → (is_file_key p ≡ true → is_below q p ≡ false) → ((c == b) && is_below q p) ≡ false
    by true h again = absurd (true≢false (sym h))
    by false h again = ap (λ t. (c == b) && t) (again h) ∙ either (c == b)

rest_of_name : (p : Bytes) → is_file_key p ≡ true → rest_of p ≡ []
rest_of_name [] h = refl
rest_of_name (b ∷ p) h = by (b == 47) h (rest_of_name p)
  where
    by : (t : Bool) → (not t && is_file_key p) ≡ true → (is_file_key p ≡ true → rest_of p ≡ []) → cond t p (rest_of p) ≡ []
    by true h again = absurd (true≢false (sym h))
    by false h again = again h

pub drop_own : (p r : Bytes) → drop (length p) (p ++ r) ≡ r
drop_own [] r = refl
drop_own (b ∷ p) r = drop_own p r

-- what is at a name, below it, and elsewhere
pub record IsHere (p : Bytes) (m : Option Member) (old new : Tree) : Type 0 where
  pub at_name : (q : Bytes) → bytes_eq p (key_of q) ≡ true → bytes_eq (p ++ 47 ∷ []) (key_of q) ≡ false → rest_of q ≡ [] → at new q ≡ at (suffixes m) []
  pub below : (q : Bytes) → bytes_eq p (key_of q) ≡ false → bytes_eq (p ++ 47 ∷ []) (key_of q) ≡ true → at new q ≡ at (suffixes m) (47 ∷ rest_of q)
  pub elsewhere : (q : Bytes) → bytes_eq p (key_of q) ≡ false → bytes_eq (p ++ 47 ∷ []) (key_of q) ≡ false → at new q ≡ at old q

not_both : (p k : Bytes) → bytes_eq p k ≡ true → bytes_eq (p ++ 47 ∷ []) k ≡ true → ⊥
not_both [] [] h l = true≢false (sym l)
not_both [] (c ∷ k) h l = true≢false (sym h)
not_both (b ∷ p) [] h l = true≢false (sym h)
not_both (b ∷ p) (c ∷ k) h l = by (b == c) (not_both p k) h l
  where
    by : (t : Bool) → (bytes_eq p k ≡ true → bytes_eq (p ++ 47 ∷ []) k ≡ true → ⊥) → (t && bytes_eq p k) ≡ true → (t && bytes_eq (p ++ 47 ∷ []) k) ≡ true → ⊥
    by true again h l = again h l
    by false again h l = true≢false (sym h)

pub here_places : (p : Bytes) (m : Option Member) (clear : Bool) (old new : Tree) → is_file_key p ≡ true → IsHere p m old new → Places p m clear old new
here_places p m clear old new name here q =
    by (bytes_eq p (key_of q)) refl (bytes_eq (p ++ 47 ∷ []) (key_of q)) refl
    ∙ ap (λ t. cond (is_at_or_below p q) (at (suffixes m) (drop (length p) q)) (cond t None (at old q))) (sym (none clear))
  where
    none : (c : Bool) → (c && is_below q p) ≡ false
    none true = not_above p q name
    none false = refl

    whole_test : is_at_or_below p q ≡ (bytes_eq p (key_of q) || bytes_eq (p ++ 47 ∷ []) (key_of q))
    whole_test = ap (λ t. t || is_below p q) (key_here p q name) ∙ ap (λ t. bytes_eq p (key_of q) || t) (below_here p q name)

    q_is : (k : Bytes) → bytes_eq k (key_of q) ≡ true → q ≡ k ++ rest_of q
    q_is k e = sym (whole q) ∙ ap (λ (x : Bytes). x ++ rest_of q) (sym ((bytes_eq-Decides k (key_of q)).0 e))

    by : (s : Bool) → bytes_eq p (key_of q) ≡ s → (t : Bool) → bytes_eq (p ++ 47 ∷ []) (key_of q) ≡ t
        → at new q ≡ cond (is_at_or_below p q) (at (suffixes m) (drop (length p) q)) (cond false None (at old q))
    by true e true f = absurd (not_both p (key_of q) e f)
    by true e false f =
        let same : q ≡ p = (sym ((bytes_eq-Decides p q).0 (key_here p q name ∙ e))) in
        let rest : rest_of q ≡ [] = ap (λ (x : Bytes). rest_of x) same ∙ rest_of_name p name in
        let left : drop (length p) q ≡ [] = ap (λ (x : Bytes). drop (length p) x) (same ∙ sym (append-nil p)) ∙ drop_own p [] in
        here.at_name q e f rest
        ∙ ap (λ (x : Bytes). at (suffixes m) x) (sym left)
        ∙ sym (ap (λ t. cond t (at (suffixes m) (drop (length p) q)) (at old q)) (whole_test ∙ ap (λ t. t || bytes_eq (p ++ 47 ∷ []) (key_of q)) e))
    by false e true f =
        let left : drop (length p) q ≡ 47 ∷ rest_of q =
        ap (λ (x : Bytes). drop (length p) x) (q_is (p ++ 47 ∷ []) f ∙ append_assoc p (47 ∷ []) (rest_of q)) ∙ drop_own p (47 ∷ rest_of q) in
        here.below q e f
        ∙ ap (λ (x : Bytes). at (suffixes m) x) (sym left)
        ∙ sym (ap (λ t. cond t (at (suffixes m) (drop (length p) q)) (at old q)) (whole_test ∙ ap (λ t. t || bytes_eq (p ++ 47 ∷ []) (key_of q)) e ∙ f))
    by false e false f =
        here.elsewhere q e f
        ∙ sym (ap (λ t. cond t (at (suffixes m) (drop (length p) q)) (at old q)) (whole_test ∙ ap (λ t. t || bytes_eq (p ++ 47 ∷ []) (key_of q)) e ∙ f))

-- ---- the two keys of a name

bytes_apart : (k l : Bytes) → bytes_eq l k ≡ false → bytes_eq k l ≡ false
bytes_apart k l h = by (bytes_eq k l) refl
  where
    by : (t : Bool) → bytes_eq k l ≡ t → bytes_eq k l ≡ false
    by true e = absurd (true≢false (sym ((bytes_eq-Decides l k).1 (sym ((bytes_eq-Decides k l).0 e))) ∙ h))
    by false e = e

-- nothing was found under the key
pub not_there : {A : Type 0} (f : A → Member) (o : Option A) (b : Bool) (key : Bytes) (rows : TreeOf Member) (tree : Tree) → flat rows ≡ tree → AreSound rows
    → option_map f o ≡ at rows key → b ≡ is_some o → b ≡ false → HasNone key tree
not_there f None b key rows tree is s found some not_so = subst (λ (t : Tree). HasNone key t) is (none_below key rows s (sym found))
not_there f (Some x) b key rows tree is s found some not_so = absurd (true≢false (sym some ∙ not_so))

-- on the way there is no file
pub way_kept : (p : Bytes) (m : Option Member) (clear : Bool) (old mid : Tree) → is_empty (rest_of p) ≡ false
    → PlacesBelow (key_of p) (rest_of p) m clear old mid → (clear ≡ true → HasNone (name_of p) old) → (q : Bytes)
    → at mid q ≡ cond (clear && bytes_eq (name_of p) (key_of q)) None (at mid q)
way_kept p m false old mid some below none q = refl
way_kept p m true old mid some below none q = by (bytes_eq (name_of p) (key_of q)) refl
  where
    by : (t : Bool) → bytes_eq (name_of p) (key_of q) ≡ t → at mid q ≡ cond t None (at mid q)
    by true e =
        below q
        ∙ ap (λ t. cond t (expected (rest_of p) m true (at old q) (rest_of q)) (at old q))
        (bytes_apart (key_of p) (key_of q) (ap (λ (k : Bytes). bytes_eq k (key_of p)) (sym ((bytes_eq-Decides (name_of p) (key_of q)).0 e)) ∙ name_apart p some))
        ∙ none refl q e
    by false e = refl

-- a name isn't itself with a slash
pub long_apart : (p : Bytes) → bytes_eq p (p ++ 47 ∷ []) ≡ false
long_apart p = by (bytes_eq p (p ++ 47 ∷ [])) refl
  where
    by : (t : Bool) → bytes_eq p (p ++ 47 ∷ []) ≡ t → bytes_eq p (p ++ 47 ∷ []) ≡ false
    by true e = absurd (omega (arith, ap (λ (l : Bytes). length l) ((bytes_eq-Decides p (p ++ 47 ∷ [])).0 e), length_both p (47 ∷ [])))
    by false e = e

pub short_apart : (p : Bytes) → bytes_eq (p ++ 47 ∷ []) p ≡ false
short_apart p = by (bytes_eq (p ++ 47 ∷ []) p) refl
  where
    by : (t : Bool) → bytes_eq (p ++ 47 ∷ []) p ≡ t → bytes_eq (p ++ 47 ∷ []) p ≡ false
    by true e = absurd (omega (arith, ap (λ (l : Bytes). length l) ((bytes_eq-Decides (p ++ 47 ∷ []) p).0 e), length_both p (47 ∷ [])))
    by false e = e

picked : (s t a b : Bool) (x y z : Option Entry) → s ≡ a → t ≡ b → cond s x (cond t y z) ≡ cond a x (cond b y z)
picked s t a b x y z e f = ap (λ s. cond s x (cond t y z)) e ∙ ap (λ t. cond a x (cond t y z)) f

pub nothing_here : (p : Bytes) (old new : Tree) → PutsOver p (p ++ 47 ∷ []) None old new → IsHere p None old new
nothing_here p old new both = record {
  at_name = λ q e f r. both q ∙ picked _ _ false true None None (at old q) f e;
  below = λ q e f. both q ∙ picked _ _ true false None None (at old q) f e;
  elsewhere = λ q e f. both q ∙ picked _ _ false false None None (at old q) f e;
}

pub file_here : (p : Bytes) (x : Entry) (old new : Tree) → PutsOver p (p ++ 47 ∷ []) (Some (file x)) old new → IsHere p (Some (file x)) old new
file_here p x old new both = record {
  at_name = λ q e f r. both q ∙ picked _ _ false true None (here (rest_of q)) (at old q) f e ∙ ap here r;
  below = λ q e f. both q ∙ picked _ _ true false None (here (rest_of q)) (at old q) f e;
  elsewhere = λ q e f. both q ∙ picked _ _ false false None (here (rest_of q)) (at old q) f e;
}
  where
    here : Bytes → Option Entry
    here r = at (([], x) ∷ []) r

pub folder_here : (p : Bytes) (t old new : Tree) → PutsOver (p ++ 47 ∷ []) p (Some (folder t)) old new → IsHere p (Some (folder t)) old new
folder_here p t old new both = record {
  at_name = λ q e f r. both q ∙ picked _ _ true false None (at t (rest_of q)) (at old q) e f ∙ sym (at_prefixed [] (47 ∷ []) t split);
  below = λ q e f. both q ∙ picked _ _ false true None (at t (rest_of q)) (at old q) e f ∙ sym (at_prefixed (47 ∷ rest_of q) (47 ∷ []) t split);
  elsewhere = λ q e f. both q ∙ picked _ _ false false None (at t (rest_of q)) (at old q) e f;
}
  where
    split : AllSplit (47 ∷ []) t
    split = folder_all (47 ∷ []) t refl

-- the name with a slash is a folder's key
pub long_key : (p : Bytes) → is_file_key p ≡ true → is_folder_key (p ++ 47 ∷ []) ≡ true
long_key [] h = refl
long_key (b ∷ p) h = by (b == 47) h (long_key p)
  where
    by : (t : Bool) → (not t && is_file_key p) ≡ true → (is_file_key p ≡ true → is_folder_key (p ++ 47 ∷ []) ≡ true)
        → cond t (is_empty (p ++ 47 ∷ [])) (is_folder_key (p ++ 47 ∷ [])) ≡ true
    by true h again = absurd (true≢false (sym h))
    by false h again = again h
