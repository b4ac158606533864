-- What stands for a removed commit, said of the whole past at once: it follows the commit's parents.
use Rattle.std.proofs.Common.{◌≡◌, ℕ, Bool, true, false, cond, List, [], ◌∷◌, ◌++◌, refl, sym, ap, subst, ◌∙◌, inl, inr, true≢false, Some, IsTrue}
use Rattle.std.specs.Prelude.{◌||◌, ◌==◌, flat_map}
use Rattle.std.specs.List.{AllByRecursion}
use Rattle.std.proofs.lemmas.Bool.{cases_Bool, cond-true, cond-false}
use Rattle.plain_model.specs.Histories.{IsLinkedPast, Node, Past, knows, node_at}
use Rattle.history_laws.proofs.LineLaws.{FirstKnown, first_known}
use Rattle.edit_laws.specs.Removal.{back, chain, expand, expand_all, once_each}
use Rattle.edit_laws.proofs.Chains.{chain_gone, chain_other, chain_stays, expand_gone, expand_other, expand_stays}
use Rattle.history_laws.proofs.Lists.{all_imply}
use Rattle.edit_laws.proofs.Trees.{known_later, not_fresh}

-- the parents of a commit that is found are known, and so is it
parents_known : (a : Past) → IsLinkedPast a → (p : ℕ) (n : Node) → node_at a p ≡ Some n →
    AllByRecursion (λ q. IsTrue (knows a q)) n.parents
parents_known [] s p n h = absurd cc
parents_known (m ∷ older) s p n h = go (m.id == p) h (λ x. parents_known older s.2 p n x)
  where
    later : (ps : List ℕ) → AllByRecursion (λ q. IsTrue (knows older q)) ps →
        AllByRecursion (λ q. IsTrue (knows (m ∷ older) q)) ps
    later ps k =
        all_imply (λ q. IsTrue (knows older q)) (λ q. IsTrue (knows (m ∷ older) q)) (λ q x. known_later m older q x) ps k

    go : (b : Bool) → cond b (Some m) (node_at older p) ≡ Some n →
        (node_at older p ≡ Some n → AllByRecursion (λ q. IsTrue (knows older q)) n.parents) →
        AllByRecursion (λ q. IsTrue (knows (m ∷ older) q)) n.parents
    go true x f = let is : m ≡ n = cc in subst (λ (k : Node). AllByRecursion (λ q. IsTrue (knows (m ∷ older) q)) k.parents) is (later m.parents s.1)
    go false x f = later n.parents (f x)

module _ (removed : ℕ → Bool) where
  -- a later commit changes nothing
  expand_later : (m : Node) (older : Past) → knows older m.id ≡ false → (ps : List ℕ) →
      AllByRecursion (λ q. IsTrue (knows older q)) ps →
      expand_all removed (m ∷ older) ps ≡ expand_all removed older ps
  expand_later m older fresh ps k = ap once_each (each ps k)
    where
      each : (ps : List ℕ) → AllByRecursion (λ q. IsTrue (knows older q)) ps →
          flat_map (expand removed (m ∷ older)) ps ≡ flat_map (expand removed older) ps
      each [] k = refl
      each (q ∷ qs) k = λ i. expand_other removed m older q (not_fresh m older q fresh k.0) i ++ each qs k.1 i

  pub chain_later : (m : Node) (older : Past) → knows older m.id ≡ false → (ps : List ℕ) → FirstKnown older ps →
      chain removed (m ∷ older) ps ≡ chain removed older ps
  chain_later m [] fresh [] k = refl
  chain_later m (n ∷ older) fresh [] k = refl
  chain_later m older fresh (q ∷ qs) k = chain_other removed m older q qs (not_fresh m older q fresh k)

  back_later : (m : Node) (older : Past) → knows older m.id ≡ false → (ps : List ℕ) → FirstKnown older ps →
      back removed (m ∷ older) ps ≡ back removed older ps
  back_later m [] fresh [] k = refl
  back_later m (n ∷ older) fresh [] k = refl
  back_later m older fresh (q ∷ qs) k = cond-false (m.id == q) _ _ (not_fresh m older q fresh k)

  -- ---- a removed commit

  pub expand_at : (a : Past) → IsLinkedPast a → (p : ℕ) (n : Node) → node_at a p ≡ Some n → removed p ≡ true →
      expand removed a p ≡ expand_all removed a n.parents
  expand_at [] s p n h r = absurd cc
  expand_at (m ∷ older) s p n h r = go (m.id == p) refl h (λ x. expand_at older s.2 p n x r)
    where
      go : (b : Bool) → (m.id == p) ≡ b → cond b (Some m) (node_at older p) ≡ Some n →
          (node_at older p ≡ Some n → expand removed older p ≡ expand_all removed older n.parents) →
          expand removed (m ∷ older) p ≡ expand_all removed (m ∷ older) n.parents
      go true e x f =
          let is : m ≡ n = cc in
          subst (λ (k : Node). expand removed (m ∷ older) p ≡ expand_all removed (m ∷ older) k.parents) is
          (expand_gone removed m older p e r ∙ sym (expand_later m older s.0 m.parents s.1))
      go false e x f =
          expand_other removed m older p e ∙ f x
          ∙ sym (expand_later m older s.0 n.parents (parents_known older s.2 p n x))

  pub chain_at : (a : Past) → IsLinkedPast a → (p : ℕ) (ps : List ℕ) (n : Node) → node_at a p ≡ Some n →
      removed p ≡ true → chain removed a (p ∷ ps) ≡ chain removed a n.parents ++ n ∷ []
  chain_at [] s p ps n h r = absurd cc
  chain_at (m ∷ older) s p ps n h r = go (m.id == p) refl h (λ x. chain_at older s.2 p ps n x r)
    where
      go : (b : Bool) → (m.id == p) ≡ b → cond b (Some m) (node_at older p) ≡ Some n →
          (node_at older p ≡ Some n → chain removed older (p ∷ ps) ≡ chain removed older n.parents ++ n ∷ []) →
          chain removed (m ∷ older) (p ∷ ps) ≡ chain removed (m ∷ older) n.parents ++ n ∷ []
      go true e x f =
          let is : m ≡ n = cc in
          subst (λ (k : Node). chain removed (m ∷ older) (p ∷ ps) ≡ chain removed (m ∷ older) k.parents ++ k ∷ []) is
          (chain_gone removed m older p ps e r ∙ ap (λ (l : List Node). l ++ m ∷ []) (sym (chain_later m older s.0 m.parents (first_known older m.parents s.1))))
      go false e x f =
          chain_other removed m older p ps e ∙ f x
          ∙ ap (λ (l : List Node). l ++ n ∷ []) (sym (chain_later m older s.0 n.parents (first_known older n.parents (parents_known older s.2 p n x))))

  pub back_at : (a : Past) → IsLinkedPast a → (p : ℕ) (ps : List ℕ) (n : Node) → node_at a p ≡ Some n →
      removed p ≡ true → back removed a (p ∷ ps) ≡ back removed a n.parents
  back_at [] s p ps n h r = absurd cc
  back_at (m ∷ older) s p ps n h r = go (m.id == p) refl h (λ x. back_at older s.2 p ps n x r)
    where
      go : (b : Bool) → (m.id == p) ≡ b → cond b (Some m) (node_at older p) ≡ Some n →
          (node_at older p ≡ Some n → back removed older (p ∷ ps) ≡ back removed older n.parents) →
          back removed (m ∷ older) (p ∷ ps) ≡ back removed (m ∷ older) n.parents
      go true e x f =
          let is : m ≡ n = cc in
          subst (λ (k : Node). back removed (m ∷ older) (p ∷ ps) ≡ back removed (m ∷ older) k.parents) is
          (cond-true (m.id == p) _ _ e ∙ cond-true (removed p) _ _ r ∙ sym (back_later m older s.0 m.parents (first_known older m.parents s.1)))
      go false e x f =
          cond-false (m.id == p) _ _ e ∙ f x
          ∙ sym (back_later m older s.0 n.parents (first_known older n.parents (parents_known older s.2 p n x)))

  -- ---- a commit that stays

  pub expand_itself : (a : Past) (p : ℕ) → removed p ≡ false → expand removed a p ≡ p ∷ []
  expand_itself [] p h = refl
  expand_itself (n ∷ older) p h =
      elim (cases_Bool (n.id == p)) [
        | inl same ↦ expand_stays removed n older p same h
        | inr other ↦ expand_other removed n older p other ∙ expand_itself older p h
      ]

  pub chain_none : (a : Past) (p : ℕ) (ps : List ℕ) → removed p ≡ false → chain removed a (p ∷ ps) ≡ []
  chain_none [] p ps h = refl
  chain_none (n ∷ older) p ps h =
      elim (cases_Bool (n.id == p)) [
        | inl same ↦ chain_stays removed n older p ps same h
        | inr other ↦ chain_other removed n older p ps other ∙ chain_none older p ps h
      ]

  pub back_itself : (a : Past) (p : ℕ) (ps : List ℕ) → removed p ≡ false → knows a p ≡ true →
      back removed a (p ∷ ps) ≡ Some p
  back_itself [] p ps h k = absurd (true≢false (sym k))
  back_itself (n ∷ older) p ps h k =
      elim (cases_Bool (n.id == p)) [
        | inl same ↦ cond-true (n.id == p) _ _ same ∙ cond-false (removed p) _ _ h
        | inr other ↦ cond-false (n.id == p) _ _ other ∙ back_itself older p ps h (sym (ap (λ b. b || knows older p) other) ∙ k)
      ]
