-- Where a path leads, key by key.
use Rattle.std.proofs.Common.{◌≡◌, ℕ, ◌==◌, Bool, true, false, cond, not, [], ◌∷◌, ◌++◌, length, drop, refl, sym, ap, subst, ◌∙◌, true≢false, append-nil, eqb-true, bytes_eq}
use Rattle.std.specs.Prelude.{◌&&◌}
use Rattle.plain_model.specs.Paths.{Bytes, is_empty, is_below}
use Rattle.plain_model.proofs.Numbers.{eqb_turned}
use Rattle.path_tree.specs.Folders.{key_of, rest_of, is_file_key, is_folder_key}
use Rattle.path_tree.specs.Setting.{name_of, ends_with_slash}
use Rattle.path_tree.proofs.Keys.{whole}

-- ---- two bytes and the slash

pub not_slash : (b c : ℕ) → (b == 47) ≡ true → (c == 47) ≡ false → (b == c) ≡ false
not_slash b c e f = by (b == c) refl
  where
    by : (t : Bool) → (b == c) ≡ t → t ≡ false
    by true h = absurd (true≢false (sym (sym (ap (λ x. x == 47) (eqb-true b c h)) ∙ e) ∙ f))
    by false h = refl

-- ---- what is on the way

pub on_the_way : (p q : Bytes) → bytes_eq (key_of p) (key_of q) ≡ false → bytes_eq (name_of p) (key_of q) ≡ is_below q p
on_the_way [] [] h = absurd (true≢false h)
on_the_way [] (c ∷ q) h = by (c == 47)
  where
    by : (t : Bool) → bytes_eq [] (cond t (47 ∷ []) (c ∷ key_of q)) ≡ false
    by true = refl
    by false = refl
on_the_way (b ∷ p) [] h = by (b == 47)
  where
    by : (t : Bool) → bytes_eq (cond t [] (b ∷ name_of p)) [] ≡ t
    by true = refl
    by false = refl
on_the_way (b ∷ p) (c ∷ q) h = by (b == 47) refl (c == 47) refl (on_the_way p q) h
  where
    inner : (t : Bool) → (bytes_eq (key_of p) (key_of q) ≡ false → bytes_eq (name_of p) (key_of q) ≡ is_below q p)
        → (t && bytes_eq (key_of p) (key_of q)) ≡ false → (t && bytes_eq (name_of p) (key_of q)) ≡ (t && is_below q p)
    inner true again h = again h
    inner false again h = refl

    by : (s : Bool) → (b == 47) ≡ s → (t : Bool) → (c == 47) ≡ t → (bytes_eq (key_of p) (key_of q) ≡ false → bytes_eq (name_of p) (key_of q) ≡ is_below q p)
        → bytes_eq (cond s (47 ∷ []) (b ∷ key_of p)) (cond t (47 ∷ []) (c ∷ key_of q)) ≡ false
        → bytes_eq (cond s [] (b ∷ name_of p)) (cond t (47 ∷ []) (c ∷ key_of q)) ≡ ((c == b) && is_below q p)
    by true e true f again h = absurd (true≢false h)
    by true e false f again h = sym (ap (λ t. t && is_below q p) (eqb_turned c b ∙ not_slash b c e f))
    by false e true f again h =
        ap (λ t. t && bytes_eq (name_of p) []) e
        ∙ sym (ap (λ t. t && is_below q p) (not_slash c b f e))
    by false e false f again h = inner (b == c) again h ∙ ap (λ t. t && is_below q p) (eqb_turned b c)

-- ---- what is after the path

pub drop_both : (a b c : Bytes) → drop (length (a ++ b)) (a ++ c) ≡ drop (length b) c
drop_both [] b c = refl
drop_both (x ∷ a) b c = drop_both a b c

pub after_path : (p q : Bytes) → key_of p ≡ key_of q → drop (length p) q ≡ drop (length (rest_of p)) (rest_of q)
after_path p q h =
    ap (λ (x : Bytes). drop (length x) q) (sym (whole p))
    ∙ ap (λ (x : Bytes). drop (length (key_of p ++ rest_of p)) x) (sym (whole q) ∙ ap (λ (k : Bytes). k ++ rest_of q) (sym h))
    ∙ drop_both (key_of p) (rest_of p) (rest_of q)

-- ---- a key with something after it is a folder's

pub long_is_folder : (p : Bytes) → is_empty (rest_of p) ≡ false → is_folder_key (key_of p) ≡ true
long_is_folder [] h = absurd (true≢false h)
long_is_folder (b ∷ p) h = by (b == 47) refl (long_is_folder p) h
  where
    by : (t : Bool) → (b == 47) ≡ t → (is_empty (rest_of p) ≡ false → is_folder_key (key_of p) ≡ true)
        → is_empty (cond t p (rest_of p)) ≡ false → is_folder_key (cond t (47 ∷ []) (b ∷ key_of p)) ≡ true
    by true e again h = refl
    by false e again h = ap (λ t. cond t (is_empty (key_of p)) (is_folder_key (key_of p))) e ∙ again h

pub slash_of_rest : (p : Bytes) → is_empty (rest_of p) ≡ false → ends_with_slash p ≡ ends_with_slash (rest_of p)
slash_of_rest [] h = absurd (true≢false h)
slash_of_rest (b ∷ []) h = by (b == 47) h
  where
    by : (t : Bool) → is_empty (cond t [] []) ≡ false → (b == 47) ≡ ends_with_slash (cond t [] [])
    by true h = absurd (true≢false h)
    by false h = absurd (true≢false h)
slash_of_rest (b ∷ c ∷ p) h = by (b == 47) (slash_of_rest (c ∷ p)) h
  where
    by : (t : Bool) → (is_empty (rest_of (c ∷ p)) ≡ false → ends_with_slash (c ∷ p) ≡ ends_with_slash (rest_of (c ∷ p)))
        → is_empty (cond t (c ∷ p) (rest_of (c ∷ p))) ≡ false → ends_with_slash (c ∷ p) ≡ ends_with_slash (cond t (c ∷ p) (rest_of (c ∷ p)))
    by true again h = refl
    by false again h = again h

-- and one with nothing after it is the whole path
pub slash_of_key : (p : Bytes) → is_empty (rest_of p) ≡ true → ends_with_slash p ≡ is_folder_key (key_of p)
slash_of_key [] h = refl
slash_of_key (b ∷ []) h = by (b == 47) refl
  where
    by : (t : Bool) → (b == 47) ≡ t → t ≡ is_folder_key (cond t (47 ∷ []) (b ∷ []))
    by true e = refl
    by false e = sym (ap (λ t. cond t true false) e)
slash_of_key (b ∷ c ∷ p) h = by (b == 47) refl (slash_of_key (c ∷ p)) h
  where
    by : (t : Bool) → (b == 47) ≡ t → (is_empty (rest_of (c ∷ p)) ≡ true → ends_with_slash (c ∷ p) ≡ is_folder_key (key_of (c ∷ p)))
        → is_empty (cond t (c ∷ p) (rest_of (c ∷ p))) ≡ true → ends_with_slash (c ∷ p) ≡ is_folder_key (cond t (47 ∷ []) (b ∷ key_of (c ∷ p)))
    by true e again h = absurd (true≢false (sym h))
    by false e again h = again h ∙ sym (ap (λ t. cond t (is_empty (key_of (c ∷ p))) (is_folder_key (key_of (c ∷ p)))) e)

pub file_of_key : (p : Bytes) → is_empty (rest_of p) ≡ true → is_folder_key (key_of p) ≡ false → is_file_key (key_of p) ≡ true
file_of_key [] h f = refl
file_of_key (b ∷ p) h f = by (b == 47) refl (file_of_key p) h f
  where
    by : (t : Bool) → (b == 47) ≡ t → (is_empty (rest_of p) ≡ true → is_folder_key (key_of p) ≡ false → is_file_key (key_of p) ≡ true)
        → is_empty (cond t p (rest_of p)) ≡ true → is_folder_key (cond t (47 ∷ []) (b ∷ key_of p)) ≡ false
        → is_file_key (cond t (47 ∷ []) (b ∷ key_of p)) ≡ true
    by true e again h f = absurd (true≢false f)
    by false e again h f =
        ap (λ t. not t && is_file_key (key_of p)) e ∙ again h (sym (ap (λ t. cond t (is_empty (key_of p)) (is_folder_key (key_of p))) e) ∙ f)

-- a path with nothing after its first key, and no slash at its end, is a name
pub name_is : (p : Bytes) → is_empty (rest_of p) ≡ true → ends_with_slash p ≡ false → is_file_key p ≡ true
name_is p e f = subst (λ (k : Bytes). is_file_key k ≡ true) (key_is p e) (file_of_key p e (sym (slash_of_key p e) ∙ f))
  where
    none : (r : Bytes) → is_empty r ≡ true → r ≡ []
    none [] h = refl
    none (b ∷ r) h = absurd (true≢false (sym h))

    key_is : (p : Bytes) → is_empty (rest_of p) ≡ true → key_of p ≡ p
    key_is p e = sym (append-nil (key_of p)) ∙ ap (λ (r : Bytes). key_of p ++ r) (sym (none (rest_of p) e)) ∙ whole p
