-- Paths by their first key.
use Rattle.std.proofs.Common.{◌≡◌, ℕ, ◌==◌, Bool, true, false, cond, not, T, [], ◌∷◌, ◌++◌, refl, sym, ap, subst, ◌∙◌, Option, Some, None, true≢false, eqb-true, inl, inr, ◌⊎◌}
use Rattle.std.specs.Option.{option_or}
use Rattle.std.specs.Prelude.{◌&&◌}
use Rattle.std.specs.Ordering.{is_lt, is_eq, eq_by_cmp, ordering_then, nat_cmp}
use Rattle.std.specs.declared.cmp.Ordering.{Ordering}
use Rattle.std.specs.declared.cmp.Ordering.TheVariants.{Less, Equal, Greater}
use Rattle.std.specs.Cmp.{tied_itself, nat_cmp_total}
use Rattle.std.specs.FinMap.{nat_cmp-IsAntisymmetric}
use Rattle.std.specs.Cmp.Lexicographic.{nat_list_cmp_total}
use Rattle.plain_model.specs.declared.operation.Entry.{Entry}
use Rattle.plain_model.specs.Paths.{Bytes, is_empty}
use Rattle.plain_model.specs.Trees.{TreeOf, Tree, at}
use Rattle.history_laws.proofs.TreeLaws.{by_bytes, same_path}
use Rattle.path_tree.specs.Folders.{Member, key_of, rest_of, is_file_key, is_folder_key, prefixed, member_tree, flat, at_member, Fits, AllFit, AreSound}
use Rattle.path_tree.specs.Folders.Member.{file, folder}
use Rattle.path_tree.specs.PathMaps.{IsInOrder}
use Rattle.path_tree.proofs.Orders.{both, first, second, none_before, is_before}

-- a path is its first key, and the rest
pub whole : (q : Bytes) → key_of q ++ rest_of q ≡ q
whole [] = refl
whole (b ∷ q) = by (b == 47) refl (whole q)
  where
    by : (t : Bool) → (b == 47) ≡ t → key_of q ++ rest_of q ≡ q → cond t (47 ∷ []) (b ∷ key_of q) ++ cond t q (rest_of q) ≡ b ∷ q
    by true h again = ap (λ (x : ℕ). x ∷ q) (sym (eqb-true b 47 h))
    by false h again = ap (λ (l : Bytes). b ∷ l) again

-- ---- where a path that is put together comes apart

pub record Splits (k u : Bytes) : Type 0 where
  pub key : key_of (k ++ u) ≡ k
  pub rest : rest_of (k ++ u) ≡ u

none_left : (k : Bytes) → is_empty k ≡ true → k ≡ []
none_left [] h = refl
none_left (b ∷ k) h = absurd (true≢false (sym h))

pub folder_splits : (k u : Bytes) → is_folder_key k ≡ true → Splits k u
folder_splits [] u h = absurd (true≢false (sym h))
folder_splits (b ∷ k) u h = record { key = (by (b == 47) refl h (folder_splits k u)).0; rest = (by (b == 47) refl h (folder_splits k u)).1 }
  where
    by : (t : Bool) → (b == 47) ≡ t → cond t (is_empty k) (is_folder_key k) ≡ true → (is_folder_key k ≡ true → Splits k u)
        → (cond t (47 ∷ []) (b ∷ key_of (k ++ u)) ≡ b ∷ k) × (cond t (k ++ u) (rest_of (k ++ u)) ≡ u)
    by true e h again = (
      ap (λ (x : ℕ). x ∷ []) (sym (eqb-true b 47 e)) ∙ ap (λ (l : Bytes). b ∷ l) (sym (none_left k h)),
      ap (λ (l : Bytes). l ++ u) (none_left k h),
    )
    by false e h again = let r = again h in (ap (λ (l : Bytes). b ∷ l) r.key, r.rest)

pub file_splits : (k : Bytes) → is_file_key k ≡ true → Splits k []
file_splits [] h = record { key = refl; rest = refl }
file_splits (b ∷ k) h = record { key = (by (b == 47) h (file_splits k)).0; rest = (by (b == 47) h (file_splits k)).1 }
  where
    by : (t : Bool) → (not t && is_file_key k) ≡ true → (is_file_key k ≡ true → Splits k [])
        → (cond t (47 ∷ []) (b ∷ key_of (k ++ [])) ≡ b ∷ k) × (cond t (k ++ []) (rest_of (k ++ [])) ≡ [])
    by true h again = absurd (true≢false (sym h))
    by false h again = let r = again h in (ap (λ (l : Bytes). b ∷ l) r.key, r.rest)

pub tied : (p q : Bytes) → p ≡ q → eq_by_cmp by_bytes p q ≡ true
tied p q h = subst (λ (x : Bytes). eq_by_cmp by_bytes p x ≡ true) h (ap is_eq (tied_itself nat_list_cmp_total p))

-- a path is another exactly where keys and rests are
pub tie_prefixed : (q k u : Bytes) → Splits k u → eq_by_cmp by_bytes q (k ++ u) ≡ (eq_by_cmp by_bytes (key_of q) k && eq_by_cmp by_bytes (rest_of q) u)
tie_prefixed q k u s = by (eq_by_cmp by_bytes q (k ++ u)) refl (eq_by_cmp by_bytes (key_of q) k) refl (eq_by_cmp by_bytes (rest_of q) u) refl
  where
    by : (l : Bool) → eq_by_cmp by_bytes q (k ++ u) ≡ l → (a : Bool) → eq_by_cmp by_bytes (key_of q) k ≡ a → (b : Bool)
        → eq_by_cmp by_bytes (rest_of q) u ≡ b → l ≡ (a && b)
    by true e a ea b eb =
        let is = same_path q (k ++ u) e in
        sym (ap (λ x. x && b) (sym ea ∙ tied (key_of q) k (ap key_of is ∙ s.key)) ∙ (sym eb ∙ tied (rest_of q) u (ap rest_of is ∙ s.rest)))
    by false e true ea true eb =
        let one = same_path (key_of q) k ea in
        let other = same_path (rest_of q) u eb in
        let is : q ≡ k ++ u = sym (whole q) ∙ ap (λ (l : Bytes). l ++ rest_of q) one ∙ ap (λ (l : Bytes). k ++ l) other in
        absurd (true≢false (sym (tied q (k ++ u) is) ∙ e))
    by false e true ea false eb = refl
    by false e false ea b eb = refl

-- ---- what is at a path of a folder

abbrev pub AllSplit : Bytes → Tree → Type 0
AllSplit k [] = Unit {0}
AllSplit k (e ∷ es) = Splits k e.0 × AllSplit k es

pub folder_all : (k : Bytes) (t : Tree) → is_folder_key k ≡ true → AllSplit k t
folder_all k [] h = tt
folder_all k (e ∷ es) h = (folder_splits k e.0 h, folder_all k es h)

pub member_splits : (k : Bytes) (p : Member) → Fits k p → AllSplit k (member_tree p)
member_splits k (file entry) h = (file_splits k h, tt)
member_splits k (folder tree) h = folder_all k tree h.0

pub at_prefixed : (q k : Bytes) (t : Tree) → AllSplit k t → at (prefixed k t) q ≡ cond (eq_by_cmp by_bytes (key_of q) k) (at t (rest_of q)) None
at_prefixed q k [] h = by (eq_by_cmp by_bytes (key_of q) k)
  where
    by : (b : Bool) → at {X = Entry} [] q ≡ cond b (at [] (rest_of q)) None
    by true = refl
    by false = refl
at_prefixed q k (e ∷ es) h =
    ap (λ b. cond b (Some e.1) (at (prefixed k es) q)) (tie_prefixed q k e.0 h.0)
    ∙ ap (λ o. cond (eq_by_cmp by_bytes (key_of q) k && eq_by_cmp by_bytes (rest_of q) e.0) (Some e.1) o) (at_prefixed q k es h.1)
    ∙ by (eq_by_cmp by_bytes (key_of q) k) (eq_by_cmp by_bytes (rest_of q) e.0) (at es (rest_of q))
  where
    by : (a b : Bool) (o : Option Entry) → cond (a && b) (Some e.1) (cond a o None) ≡ cond a (cond b (Some e.1) o) None
    by true b o = refl
    by false b o = refl

module _ {X : Type 0} where
  pub at_append : (a b : TreeOf X) (q : Bytes) → at (a ++ b) q ≡ option_or (at a q) (at b q)
  at_append [] b q = refl
  at_append (e ∷ a) b q = ap (λ o. cond (eq_by_cmp by_bytes q e.0) (Some e.1) o) (at_append a b q) ∙ by (eq_by_cmp by_bytes q e.0) (at a q) (at b q)
    where
      by : (t : Bool) (o p : Option X) → cond t (Some e.1) (option_or o p) ≡ option_or (cond t (Some e.1) o) p
      by true o p = refl
      by false o p = refl

  or_none : (o : Option X) → option_or o None ≡ o
  or_none None = refl
  or_none (Some x) = refl

pub sound_rest : (r : _) (rs : TreeOf Member) → AreSound (r ∷ rs) → AreSound rs
sound_rest r rs s = record { in_order = second _ _ s.in_order; all_fit = s.all_fit.1 }

-- it is below the member of its first key
pub at_flat : (rows : TreeOf Member) (q : Bytes) → AreSound rows → at (flat rows) q ≡ at_member (at rows (key_of q)) (rest_of q)
at_flat [] q s = refl
at_flat (r ∷ rs) q s =
    at_append (prefixed r.0 (member_tree r.1)) (flat rs) q
    ∙ ap (λ o. option_or o (at (flat rs) q)) (at_prefixed q r.0 (member_tree r.1) (member_splits r.0 r.1 s.all_fit.0))
    ∙ ap (λ o. option_or (cond (eq_by_cmp by_bytes (key_of q) r.0) (at (member_tree r.1) (rest_of q)) None) o) (at_flat rs q (sound_rest r rs s))
    ∙ by (eq_by_cmp by_bytes (key_of q) r.0) refl
  where
    by : (t : Bool) → eq_by_cmp by_bytes (key_of q) r.0 ≡ t
        → option_or (cond t (at (member_tree r.1) (rest_of q)) None) (at_member (at rs (key_of q)) (rest_of q)) ≡ at_member
        (cond t (Some r.1) (at rs (key_of q))) (rest_of q)
    by true e =
        ap (λ o. option_or (at (member_tree r.1) (rest_of q)) (at_member o (rest_of q)))
        (ap (at rs) (same_path (key_of q) r.0 e) ∙ none_before r.0 rs (first _ _ s.in_order))
        ∙ or_none (at (member_tree r.1) (rest_of q))
    by false e = refl

-- ---- byte order

abbrev Extends : Bytes → Bytes → Type 0
Extends k u = (u ≡ []) ⊎ (is_folder_key k ≡ true)

abbrev IsKey : Bytes → Type 0
IsKey k = (is_file_key k ≡ true) ⊎ (is_folder_key k ≡ true)

not_before_none : (k : Bytes) → by_bytes k [] ≡ Less → ⊥
not_before_none [] h = absurd cc
not_before_none (b ∷ k) h = absurd cc

equal_bytes : (b c : ℕ) → nat_cmp b c ≡ Equal → b ≡ c
equal_bytes b c e = nat_cmp-IsAntisymmetric b c e

-- what a key is before stays after it
pub less_apart : (k u l v : Bytes) → Extends k u → IsKey l → by_bytes k l ≡ Less → by_bytes (k ++ u) (l ++ v) ≡ Less
less_apart [] u [] v ext key h = absurd cc
less_apart [] u (c ∷ l) v (inl e) key h = ap (λ (x : Bytes). by_bytes x (c ∷ l ++ v)) e
less_apart [] u (c ∷ l) v (inr f) key h = absurd (true≢false (sym f))
less_apart (b ∷ k) u [] v ext key h = absurd cc
less_apart (b ∷ k) u (c ∷ l) v ext key h = by (less_apart k u l v) (nat_cmp b c) refl h
  where
    Again : Type 0
    Again = Extends k u → IsKey l → by_bytes k l ≡ Less → by_bytes (k ++ u) (l ++ v) ≡ Less

    tail : Again → (t : Bool) → (c == 47) ≡ t → b ≡ c → IsKey (c ∷ l) → Extends (b ∷ k) u → by_bytes k l ≡ Less → by_bytes (k ++ u) (l ++ v) ≡ Less
    tail again true e same (inl file_key) ext h = absurd (true≢false (sym file_key ∙ ap (λ t. not t && is_file_key l) e))
    tail again true e same (inr folder_key) ext h =
        let none : l ≡ [] = none_left l (sym (ap (λ t. cond t (is_empty l) (is_folder_key l)) e) ∙ folder_key) in
        absurd (not_before_none k (subst (λ (x : Bytes). by_bytes k x ≡ Less) none h))
    tail again false e same key ext h = again (ext_tail ext) (key_tail key) h
      where
        ext_tail : Extends (b ∷ k) u → Extends k u
        ext_tail (inl none) = inl none
        ext_tail (inr f) = inr (sym (ap (λ t. cond t (is_empty k) (is_folder_key k)) (ap (λ x. x == 47) same ∙ e)) ∙ f)

        key_tail : IsKey (c ∷ l) → IsKey l
        key_tail (inl f) = inl (sym (ap (λ t. not t && is_file_key l) e) ∙ f)
        key_tail (inr f) = inr (sym (ap (λ t. cond t (is_empty l) (is_folder_key l)) e) ∙ f)

    by : Again → (o : Ordering) → nat_cmp b c ≡ o → ordering_then o (by_bytes k l) ≡ Less → ordering_then o (by_bytes (k ++ u) (l ++ v)) ≡ Less
    by again Less e h = refl
    by again Equal e h = tail again (c == 47) refl (equal_bytes b c e) key ext h
    by again Greater e h = absurd cc

pub same_begin : (p q r : Bytes) → by_bytes (p ++ q) (p ++ r) ≡ by_bytes q r
same_begin [] q r = refl
same_begin (b ∷ p) q r = ap (λ o. ordering_then o (by_bytes (p ++ q) (p ++ r))) (tied_itself nat_cmp_total b) ∙ same_begin p q r

fits_key : (k : Bytes) (p : Member) → Fits k p → IsKey k
fits_key k (file entry) h = inl h
fits_key k (folder tree) h = inr h.0

less_of : (o : Ordering) → T (is_lt o) → o ≡ Less
less_of Less p = refl
less_of Equal p = absurd p
less_of Greater p = absurd p

pub lt_of : (o : Ordering) → o ≡ Less → T (is_lt o)
lt_of o h = subst (λ r. T (is_lt r)) (sym h) tt

module _ {X : Type 0} where
  before_append : (p : Bytes) (a b : TreeOf X) → T (is_before p a) → T (is_before p b) → T (is_before p (a ++ b))
  before_append p [] b h k = k
  before_append p (e ∷ a) b h k = both _ _ (first _ _ h) (before_append p a b (second _ _ h) k)

  abbrev AllBefore : TreeOf X → TreeOf X → Type 0
  AllBefore [] b = Unit {0}
  AllBefore (e ∷ a) b = T (is_before e.0 b) × AllBefore a b

  sorted_append : (a b : TreeOf X) → IsInOrder a → IsInOrder b → AllBefore a b → IsInOrder (a ++ b)
  sorted_append [] b h k l = k
  sorted_append (e ∷ a) b h k l = both _ _ (before_append e.0 a b (first _ _ h) l.0) (sorted_append a b (second _ _ h) k l.1)

before_prefixed : (x k : Bytes) (t : Tree) → ((v : Bytes) → by_bytes x (k ++ v) ≡ Less) → T (is_before x (prefixed k t))
before_prefixed x k [] h = tt
before_prefixed x k (e ∷ es) h = both _ _ (lt_of _ (h e.0)) (before_prefixed x k es h)

before_flat : (k u : Bytes) (rs : TreeOf Member) → Extends k u → T (is_before k rs) → AllFit rs → T (is_before (k ++ u) (flat rs))
before_flat k u [] ext h f = tt
before_flat k u (r ∷ rs) ext h f =
    before_append (k ++ u) (prefixed r.0 (member_tree r.1)) (flat rs)
    (before_prefixed (k ++ u) r.0 (member_tree r.1) (λ v. less_apart k u r.0 v ext (fits_key r.0 r.1 f.0) (less_of _ (first _ _ h))))
    (before_flat k u rs ext (second _ _ h) f.1)

prefixed_before : (k : Bytes) (p : Bytes) (t : Tree) → T (is_before p t) → T (is_before (k ++ p) (prefixed k t))
prefixed_before k p [] h = tt
prefixed_before k p (e ∷ es) h = both _ _ (lt_of _ (same_begin k p e.0 ∙ less_of _ (first _ _ h))) (prefixed_before k p es (second _ _ h))

pub prefixed_in_order : (k : Bytes) (t : Tree) → IsInOrder t → IsInOrder (prefixed k t)
prefixed_in_order k [] h = tt
prefixed_in_order k (e ∷ es) h = both _ _ (prefixed_before k e.0 es (first _ _ h)) (prefixed_in_order k es (second _ _ h))

folder_before : (k : Bytes) (t : Tree) (rs : TreeOf Member) → is_folder_key k ≡ true → T (is_before k rs) → AllFit rs → AllBefore (prefixed k t) (flat rs)
folder_before k [] rs f h all = tt
folder_before k (e ∷ es) rs f h all = (before_flat k e.0 rs (inr f) h all, folder_before k es rs f h all)

member_before : (k : Bytes) (p : Member) (rs : TreeOf Member) → Fits k p → T (is_before k rs) → AllFit rs → AllBefore (prefixed k (member_tree p)) (flat rs)
member_before k (file entry) rs f h all = (before_flat k [] rs (inl refl) h all, tt)
member_before k (folder tree) rs f h all = folder_before k tree rs f.0 h all

member_in_order : (k : Bytes) (p : Member) → Fits k p → IsInOrder (member_tree p)
member_in_order k (file entry) f = tt
member_in_order k (folder tree) f = f.2

pub flat_in_order : (rows : TreeOf Member) → AreSound rows → IsInOrder (flat rows)
flat_in_order [] s = tt
flat_in_order (r ∷ rs) s =
    sorted_append (prefixed r.0 (member_tree r.1)) (flat rs) (prefixed_in_order r.0 (member_tree r.1) (member_in_order r.0 r.1 s.all_fit.0))
    (flat_in_order rs (sound_rest r rs s)) (member_before r.0 r.1 rs s.all_fit.0 (first _ _ s.in_order) s.all_fit.1)
