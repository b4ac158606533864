-- What is kept where a tree was used: its own, none that is new, and all but one of the others.
use Rattle.std.proofs.Common.{◌≡◌, ℕ, ◌≤◌, ◌<◌, Bool, true, false, cond, ◌⊎◌, inl, inr, [], ◌∷◌, length, take, drop, Contains, refl, sym, ap, subst, ◌∙◌, nat_eq, eqb-true, arith, length-drop}
use Rattle.std.specs.Map.{remove_entry}
use Rattle.std.proofs.lemmas.List.{take-append-drop, take_all}
use Rattle.std.proofs.lemmas.List.Elements.{Contains-append_cases}
use Rattle.lru.proofs.CallerLemmas.{Contains-remove_entry, Contains-take}
use Rattle.lru.proofs.Splits.{Contains-cons, Contains-head, Contains-nil, Contains-tail}
use Rattle.plain_model.specs.Trees.{Tree}
use Rattle.manifest_cache.specs.Kept.{Kept, is_kept, used}

module _ (c : ℕ) (t : Tree) (kept : Kept) where
  -- the others, where the commit was kept and where it wasn't
  abbrev others : Bool → Kept
  others b = cond b (remove_entry (nat_eq c) kept) (take 63 kept)

  pub used_none_new : (k : ℕ × Tree) → Contains (used c t kept) k → (k ≡ (c, t)) ⊎ Contains kept k
  used_none_new k h = elim (Contains-cons (c, t) (others (is_kept kept c)) k h) [ inl own ↦ inl (sym own) | inr rest ↦ inr (go (is_kept kept c) rest) ]
    where
      go : (b : Bool) → Contains (others b) k → Contains kept k
      go true rest = Contains-remove_entry (nat_eq c) kept k rest
      go false rest = Contains-take 63 kept k rest

  -- where one entry is taken away, the others stay
  others_stay : (es : Kept) (k : ℕ × Tree) → Contains es k → (k.0 ≡ c) ⊎ Contains (remove_entry (nat_eq c) es) k
  others_stay [] k h = absurd (Contains-nil k h)
  others_stay (e ∷ es) k h = go (nat_eq c e.0) refl (λ later. others_stay es k later)
    where
      go : (b : Bool) → nat_eq c e.0 ≡ b → (Contains es k → (k.0 ≡ c) ⊎ Contains (remove_entry (nat_eq c) es) k)
          → (k.0 ≡ c) ⊎ Contains (cond b es (e ∷ remove_entry (nat_eq c) es)) k
      go true it rest = elim (Contains-cons e es k h) [ inl own ↦ inl (sym (ap (λ (x : ℕ × Tree). x.0) own) ∙ sym (eqb-true c e.0 it)) | inr later ↦ inr later ]
      go false it rest = elim (Contains-cons e es k h) [
        | inl own ↦ inr (subst (Contains (e ∷ remove_entry (nat_eq c) es)) own (Contains-head e (remove_entry (nat_eq c) es)))
        | inr later ↦ elim (rest later) [ inl same ↦ inl same | inr there ↦ inr (Contains-tail e (remove_entry (nat_eq c) es) k there) ]
      ]

  -- one entry at most
  one_at_most : (es : Kept) → length es ≤ 1 → (gone : ℕ × Tree) × ((k : ℕ × Tree) → Contains es k → k ≡ gone)
  one_at_most [] h = ((0, []), λ k there. absurd (Contains-nil k there))
  one_at_most (e ∷ []) h = (e, λ k there. elim (Contains-cons e [] k there) [ inl own ↦ sym own | inr later ↦ absurd (Contains-nil k later) ])
  one_at_most (e ∷ f ∷ es) h = absurd (omega (arith, h))

  pub used_one_leaves : length kept ≤ 64 → (gone : ℕ × Tree) × ((k : ℕ × Tree) → Contains kept k → (k.0 ≡ c) ⊎ (Contains (used c t kept) k ⊎ (k ≡ gone)))
  used_one_leaves few =
      let size = length-drop 63 kept in
      let last = one_at_most (drop 63 kept) (omega (arith, size, few)) in
      (last.0, λ k h. go last.0 last.1 k h (is_kept kept c))
    where
      go : (gone : ℕ × Tree) → ((k : ℕ × Tree) → Contains (drop 63 kept) k → k ≡ gone) → (k : ℕ × Tree) → Contains kept k → (b : Bool)
          → (k.0 ≡ c) ⊎ (Contains ((c, t) ∷ others b) k ⊎ (k ≡ gone))
      go gone only k h true = elim (others_stay kept k h) [ inl same ↦ inl same | inr there ↦ inr (inl (Contains-tail (c, t) (remove_entry (nat_eq c) kept) k there)) ]
      go gone only k h false = elim (Contains-append_cases (take 63 kept) (drop 63 kept) k (subst (λ (es : Kept). Contains es k) (sym (take-append-drop 63 kept)) h)) [
        | inl front ↦ inr (inl (Contains-tail (c, t) (take 63 kept) k front))
        | inr back ↦ inr (inr (only k back))
      ]

  pub used_room : (k : ℕ × Tree) → length kept < 64 → Contains kept k → (k.0 ≡ c) ⊎ Contains (used c t kept) k
  used_room k room h = go (is_kept kept c)
    where
      go : (b : Bool) → (k.0 ≡ c) ⊎ Contains ((c, t) ∷ others b) k
      go true = elim (others_stay kept k h) [ inl same ↦ inl same | inr there ↦ inr (Contains-tail (c, t) (remove_entry (nat_eq c) kept) k there) ]
      go false = inr (Contains-tail (c, t) (take 63 kept) k (subst (λ (es : Kept). Contains es k) (sym (take_all 63 kept (omega (arith, room)))) h))
