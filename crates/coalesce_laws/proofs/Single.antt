-- Where a removed commit is the only parent of each of its children: no commit gets more parents than one had, a chain
-- from a root leaves a root, and the parents of a commit are those of the oldest one in its chain.
use Rattle.std.proofs.Common.{◌≡◌, ℕ, ◌≤◌, Bool, true, false, cond, not, List, [], ◌∷◌, ◌++◌, length, refl, sym, ap, subst, ◌∙◌, inl, inr, arith, eq-eqb, true≢false, append-nil}
use Rattle.std.specs.Prelude.{◌&&◌, ◌==◌, flat_map}
use Rattle.std.specs.List.{AllByRecursion, list_any}
use Rattle.std.proofs.lemmas.Bool.{cases_Bool, or_cases, or_left, or_parts, or_right}
use Rattle.plain_model.specs.declared.limit.TheConstants.{MAX_PARENTS}
use Rattle.plain_model.specs.declared.operation.FileOp.TheVariants.{DeleteAll}
use Rattle.plain_model.specs.Histories.{Node, Past}
use Rattle.plain_model.specs.Soundness.{are_distinct}
use Rattle.edit_laws.specs.Removal.{chain, expand, expand_all, once_each}
use Rattle.edit_laws.proofs.Chains.{chain_gone, chain_other, expand_gone, expand_other, expand_stays, once_each_distinct}
use Rattle.edit_laws.proofs.Following.{chain_none, expand_itself}
use Rattle.edit_laws.proofs.Repeats.{distinct_once, shorter_once}
use Rattle.squash_laws.specs.Takings.{anew, is_from_root, is_none}
use Rattle.coalesce_laws.specs.Remaining.{parents_of_oldest}

-- ---- few parents

pub few_none : 0 ≤ MAX_PARENTS
few_none = omega arith

module _ (removed : ℕ → Bool) where
  -- a commit with a removed parent has no other
  abbrev pub AreSingle : List ℕ → Type 0
  AreSingle ps = (p : ℕ) → list_any (λ q. q == p) ps ≡ true → removed p ≡ true → ps ≡ p ∷ []

  pub all_itself : (a : Past) (ps : List ℕ) → list_any removed ps ≡ false → flat_map (expand removed a) ps ≡ ps
  all_itself a [] h = refl
  all_itself a (p ∷ ps) h =
      let parts = or_parts (removed p) (list_any removed ps) h in
      λ i. expand_itself removed a p parts.0 i ++ all_itself a ps parts.1 i

  removed_one : (ps : List ℕ) → list_any removed ps ≡ true → (p : ℕ) × (list_any (λ q. q == p) ps ≡ true) × (removed p ≡ true)
  removed_one [] h = absurd (true≢false (sym h))
  removed_one (p ∷ ps) h =
      elim (or_cases (removed p) (list_any removed ps) h) [
        | inl it ↦ (p, or_left (p == p) (list_any (λ q. q == p) ps) (eq-eqb p p refl), it)
        | inr later ↦ let r = removed_one ps later in (r.0, or_right (p == r.0) (list_any (λ q. q == r.0) ps) r.1, r.2)
      ]

  pub few_all : (a : Past) → ((p : ℕ) → length (expand removed a p) ≤ MAX_PARENTS) → (ps : List ℕ) → AreSingle ps →
      length ps ≤ MAX_PARENTS → length (expand_all removed a ps) ≤ MAX_PARENTS
  few_all a f ps single few =
      elim (cases_Bool (list_any removed ps)) [
        | inl some ↦
            let r = removed_one ps some in
            let is = single r.0 r.1 r.2 in
            let one : expand_all removed a ps ≡ once_each (expand removed a r.0) = ap (expand_all removed a) is ∙ ap once_each (append-nil (expand removed a r.0)) in
            let shorter = shorter_once (expand removed a r.0) in
            let low = f r.0 in
            subst (λ (l : List ℕ). length l ≤ MAX_PARENTS) (sym one) (omega arith)
        | inr none ↦
            let same : expand_all removed a ps ≡ once_each ps = ap once_each (all_itself a ps none) in
            let shorter = shorter_once ps in
            subst (λ (l : List ℕ). length l ≤ MAX_PARENTS) (sym same) (omega arith)
      ]

  pub few_expanded : (a : Past) → AllByRecursion (λ (n : Node). AreSingle n.parents) a →
      AllByRecursion (λ (n : Node). length n.parents ≤ MAX_PARENTS) a → (p : ℕ) →
      length (expand removed a p) ≤ MAX_PARENTS
  few_expanded [] s f p = omega arith
  few_expanded (n ∷ older) s f p =
      elim (cases_Bool (n.id == p)) [
        | inl same ↦ elim (cases_Bool (removed p)) [
          | inl gone ↦
              subst (λ (l : List ℕ). length l ≤ MAX_PARENTS) (sym (expand_gone removed n older p same gone))
              (few_all older (λ q. few_expanded older s.1 f.1 q) n.parents s.0 f.0)
          | inr stays ↦ subst (λ (l : List ℕ). length l ≤ MAX_PARENTS) (sym (expand_stays removed n older p same stays)) (omega arith)
        ]
        | inr other ↦ subst (λ (l : List ℕ). length l ≤ MAX_PARENTS) (sym (expand_other removed n older p other)) (few_expanded older s.1 f.1 p)
      ]

  -- ---- a chain from a root leaves a root

  none_is : (ps : List ℕ) → is_none ps ≡ true → ps ≡ []
  none_is [] h = refl
  none_is (p ∷ ps) h = absurd (true≢false (sym h))

  alone : (a : Past) (p : ℕ) (ps : List ℕ) → AreSingle (p ∷ ps) → removed p ≡ true →
      expand_all removed a (p ∷ ps) ≡ once_each (expand removed a p)
  alone a p ps single gone =
      ap (expand_all removed a) (single p (or_left (p == p) (list_any (λ q. q == p) ps) (eq-eqb p p refl)) gone)
      ∙ ap once_each (append-nil (expand removed a p))

  roots : (a : Past) → AllByRecursion (λ (n : Node). AreSingle n.parents) a → (ps : List ℕ) → AreSingle ps →
      is_from_root (chain removed a ps) ≡ true → expand_all removed a ps ≡ []
  roots [] s ps single h = absurd (true≢false (sym h))
  roots (n ∷ older) s [] single h = absurd (true≢false (sym h))
  roots (n ∷ older) s (p ∷ ps) single h =
      elim (cases_Bool (removed p)) [
        | inr stays ↦ absurd (true≢false (sym h ∙ ap is_from_root (chain_none removed (n ∷ older) p ps stays)))
        | inl gone ↦
            alone (n ∷ older) p ps single gone
            ∙ elim (cases_Bool (n.id == p)) [
              | inl same ↦
                  ap once_each (expand_gone removed n older p same gone
                  ∙ below (chain removed older n.parents) refl (sym (ap is_from_root (chain_gone removed n older p ps same gone)) ∙ h) (λ x. roots older s.1 n.parents s.0 x))
              | inr other ↦
                  ap once_each (expand_other removed n older p other)
                  ∙ sym (alone older p ps single gone)
                  ∙ roots older s.1 (p ∷ ps) single (sym (ap is_from_root (chain_other removed n older p ps other)) ∙ h)
            ]
      ]
    where
      below : (ls : List Node) → chain removed older n.parents ≡ ls → is_from_root (chain removed older n.parents ++ n ∷ []) ≡ true
          → (is_from_root (chain removed older n.parents) ≡ true → expand_all removed older n.parents ≡ []) → expand_all removed older n.parents ≡ []
      below [] e x f = ap (expand_all removed older) (none_is n.parents (sym (ap (λ (l : List Node). is_from_root (l ++ n ∷ [])) e) ∙ x))
      below (m ∷ ls) e x f = f (ap is_from_root e ∙ sym (ap (λ (l : List Node). is_from_root (l ++ n ∷ [])) e) ∙ x)

  -- so no `deleteall` is put before the operations
  pub none_anew : (a : Past) → AllByRecursion (λ (n : Node). AreSingle n.parents) a → (ps : List ℕ) → AreSingle ps →
      anew (chain removed a ps) (expand_all removed a ps) ≡ []
  none_anew a s ps single = go (is_from_root (chain removed a ps)) refl
    where
      go : (b : Bool) → is_from_root (chain removed a ps) ≡ b → anew (chain removed a ps) (expand_all removed a ps) ≡ []
      go true h = λ i. cond (h i && not (is_none (roots a s ps single h i))) (DeleteAll ∷ []) []
      go false h = ap (λ b. cond (b && not (is_none (expand_all removed a ps))) (DeleteAll ∷ []) []) h

  -- ---- the parents are those of the oldest one

  one_each : (ps : List ℕ) → flat_map (expand removed []) ps ≡ ps
  one_each [] = refl
  one_each (p ∷ ps) = ap (λ (l : List ℕ). p ∷ l) (one_each ps)

  one_more_oldest : (ls : List Node) (n : Node) (ps : List ℕ) → parents_of_oldest (ls ++ n ∷ []) ps ≡ parents_of_oldest ls n.parents
  one_more_oldest [] n ps = refl
  one_more_oldest (m ∷ ls) n ps = refl

  none_gone : (a : Past) (p : ℕ) (ps : List ℕ) → list_any removed (p ∷ ps) ≡ false → are_distinct (p ∷ ps) ≡ true →
      expand_all removed a (p ∷ ps) ≡ parents_of_oldest (chain removed a (p ∷ ps)) (p ∷ ps)
  none_gone a p ps none distinct =
      let parts = or_parts (removed p) (list_any removed ps) none in
      ap once_each (all_itself a (p ∷ ps) none) ∙ distinct_once (p ∷ ps) distinct
      ∙ sym (ap (λ (ls : List Node). parents_of_oldest ls (p ∷ ps)) (chain_none removed a p ps parts.0))

  pub of_oldest : (a : Past) → AllByRecursion (λ (n : Node). AreSingle n.parents) a →
      AllByRecursion (λ (n : Node). are_distinct n.parents ≡ true) a → (ps : List ℕ) → AreSingle ps →
      are_distinct ps ≡ true → expand_all removed a ps ≡ parents_of_oldest (chain removed a ps) ps
  of_oldest [] s d ps single distinct = ap once_each (one_each ps) ∙ distinct_once ps distinct
  of_oldest (n ∷ older) s d [] single distinct = refl
  of_oldest (n ∷ older) s d (p ∷ ps) single distinct =
      elim (cases_Bool (list_any removed (p ∷ ps))) [
        | inr none ↦ none_gone (n ∷ older) p ps none distinct
        | inl some ↦
            let r = removed_one (p ∷ ps) some in
            let is = single r.0 r.1 r.2 in
            let gone : removed p ≡ true = ap removed (first_is p r.0 ps [] is) ∙ r.2 in
            alone (n ∷ older) p ps single gone
            ∙ elim (cases_Bool (n.id == p)) [
              | inl same ↦
                  let its = of_oldest older s.1 d.1 n.parents s.0 d.0 in
                  ap once_each (expand_gone removed n older p same gone)
                  ∙ distinct_once (expand_all removed older n.parents) (once_each_distinct (flat_map (expand removed older) n.parents))
                  ∙ its
                  ∙ sym (ap (λ (ls : List Node). parents_of_oldest ls (p ∷ ps)) (chain_gone removed n older p ps same gone) ∙ one_more_oldest (chain removed older n.parents) n (p ∷ ps))
              | inr other ↦
                  ap once_each (expand_other removed n older p other)
                  ∙ sym (alone older p ps single gone)
                  ∙ of_oldest older s.1 d.1 (p ∷ ps) single distinct
                  ∙ sym (ap (λ (ls : List Node). parents_of_oldest ls (p ∷ ps)) (chain_other removed n older p ps other))
            ]
      ]
    where
      first_is : (x y : ℕ) (xs ys : List ℕ) → ◌≡◌ {A = List ℕ} (x ∷ xs) (y ∷ ys) → x ≡ y
      first_is x y xs ys h = cc
