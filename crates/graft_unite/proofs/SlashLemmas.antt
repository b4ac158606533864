-- A name up to a place before which no slash is.
use Rattle.std.proofs.Common.{◌≡◌, ℕ, zero, suc, ◌+◌, ◌<◌, ◌≤◌, [], ◌∷◌, ◌++◌, drop, length, take, refl, ap, ◌∙◌, sym, arith, append_assoc, append-nil, eq-eqb, ne_eqb, add-one}
use Rattle.std.specs.Prelude.{◌==◌, slice_index_or}
use Rattle.std.proofs.lemmas.Bool.{cond-false, cond-true}
use Rattle.plain_model.specs.Paths.{Bytes}
use Rattle.graft_laws.specs.Names.{after_slash, before_slash}

-- no slash is before the place
pub record IsBefore (bytes : Bytes) (at : ℕ) : Type 0 where
  pub before : before_slash bytes ≡ take at bytes ++ before_slash (drop at bytes)
  pub after : after_slash bytes ≡ after_slash (drop at bytes)

pub at_first : (bytes : Bytes) → IsBefore bytes 0
at_first bytes = record { before = refl; after = refl }

-- the byte at a place
drop_at : (bytes : Bytes) (at : ℕ) → at < length bytes → drop at bytes ≡ slice_index_or bytes at 0 ∷ drop (suc at) bytes
drop_at [] at h = absurd (omega arith)
drop_at (b ∷ bs) zero h = refl
drop_at (b ∷ bs) (suc at) h = drop_at bs at (omega arith)

take_at : (bytes : Bytes) (at : ℕ) → at < length bytes → take (suc at) bytes ≡ take at bytes ++ slice_index_or bytes at 0 ∷ []
take_at [] at h = absurd (omega arith)
take_at (b ∷ bs) zero h = refl
take_at (b ∷ bs) (suc at) h = ap (λ (l : Bytes). b ∷ l) (take_at bs at (omega arith))

-- another byte
pub at_next : (bytes : Bytes) (at : ℕ) → at < length bytes → IsBefore bytes at → (slice_index_or bytes at 0 ≡ 47 → ⊥) → IsBefore bytes (at + 1)
at_next bytes at h i other =
    let b = slice_index_or bytes at 0 in
    let no = ne_eqb b 47 other in
    rw add-one (record {
      before = i.before ∙ ap (λ (l : Bytes). take at bytes ++ before_slash l) (drop_at bytes at h)
          ∙ ap (λ (l : Bytes). take at bytes ++ l) (cond-false (b == 47) [] (b ∷ before_slash (drop (suc at) bytes)) no)
          ∙ sym (append_assoc (take at bytes) (b ∷ []) (before_slash (drop (suc at) bytes)))
          ∙ ap (λ (l : Bytes). l ++ before_slash (drop (suc at) bytes)) (sym (take_at bytes at h));
      after = i.after ∙ ap after_slash (drop_at bytes at h) ∙ cond-false (b == 47) (drop (suc at) bytes) (after_slash (drop (suc at) bytes)) no;
    })

-- a slash
module _ (bytes : Bytes) (at : ℕ) (h : at < length bytes) (i : IsBefore bytes at) (is : slice_index_or bytes at 0 ≡ 47) where
  pub slash_before : take at bytes ≡ before_slash bytes
  slash_before =
      let b = slice_index_or bytes at 0 in
      sym (i.before ∙ ap (λ (l : Bytes). take at bytes ++ before_slash l) (drop_at bytes at h)
      ∙ ap (λ (l : Bytes). take at bytes ++ l) (cond-true (b == 47) [] (b ∷ before_slash (drop (suc at) bytes)) (eq-eqb b 47 is))
      ∙ append-nil (take at bytes))

  pub slash_after : drop (at + 1) bytes ≡ after_slash bytes
  slash_after =
      let b = slice_index_or bytes at 0 in
      rw add-one (sym (i.after ∙ ap after_slash (drop_at bytes at h) ∙ cond-true (b == 47) (drop (suc at) bytes) (after_slash (drop (suc at) bytes)) (eq-eqb b 47 is)))

-- none
none_left : (bytes : Bytes) (n : ℕ) → length bytes ≤ n → drop n bytes ≡ []
none_left [] zero h = refl
none_left [] (suc n) h = refl
none_left (b ∷ bs) zero h = absurd (omega arith)
none_left (b ∷ bs) (suc n) h = none_left bs n (omega arith)

module _ (bytes : Bytes) (at : ℕ) (h : length bytes ≤ at) (i : IsBefore bytes at) where
  all_taken : (bytes : Bytes) (n m : ℕ) → length bytes ≤ n → length bytes ≤ m → take n bytes ≡ take m bytes
  all_taken [] n m a b = none n m
    where
      none : (n m : ℕ) → ◌≡◌ {A = Bytes} (take n []) (take m [])
      none zero zero = refl
      none zero (suc m) = refl
      none (suc n) zero = refl
      none (suc n) (suc m) = refl
  all_taken (x ∷ xs) zero m a b = absurd (omega arith)
  all_taken (x ∷ xs) (suc n) zero a b = absurd (omega arith)
  all_taken (x ∷ xs) (suc n) (suc m) a b = ap (λ (l : Bytes). x ∷ l) (all_taken xs n m (omega arith) (omega arith))

  pub none_before : take (length bytes) bytes ≡ before_slash bytes
  none_before =
      sym (i.before ∙ ap (λ (l : Bytes). take at bytes ++ before_slash l) (none_left bytes at h) ∙ append-nil (take at bytes) ∙ all_taken bytes at (length bytes) h (omega arith))

  pub none_after : drop (length bytes + 1) bytes ≡ after_slash bytes
  none_after = none_left bytes (length bytes + 1) (omega arith) ∙ sym (i.after ∙ ap after_slash (none_left bytes at h))
