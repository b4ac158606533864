-- An emptied commit has the tree of the commit that comes in its place, or none of its files.
use Rattle.std.proofs.Common.{◌≡◌, ℕ, true, false, [], ◌∷◌, refl, sym, ap, ◌∙◌, inl, inr, eqb-true, true≢false, List, Option, Some, None, IsTrue, Bool}
use Rattle.std.specs.Prelude.{◌==◌}
use Rattle.std.specs.List.{AllByRecursion}
use Rattle.std.proofs.lemmas.Bool.{cases_Bool}
use Rattle.plain_model.specs.declared.operation.FileOp.{FileOp}
use Rattle.plain_model.specs.Histories.{IsLinkedPast, Node, Past, begun, folded, knows, tree_in}
use Rattle.plain_model.specs.Trees.{Tree}
use Rattle.history_laws.proofs.LineLaws.{known_before}
use Rattle.edit_laws.specs.Removal.{back}
use Rattle.edit_laws.proofs.Chains.{back_stays}
use Rattle.edit_laws.proofs.Trees.{not_fresh, tree_here, tree_other}
use Rattle.squash_laws.proofs.Hung.{back_gone, back_here, back_other, folded_none}
use Rattle.expunge_laws.specs.Expunged.{is_no_merge}
use Rattle.expunge_laws.proofs.InLine.{IsEmpty}

-- the tree of a commit, if there is one, or the empty tree
abbrev pub at_place : Past → Option ℕ → Option Tree
at_place a None = Some []
at_place a (Some b) = tree_in a b

module _ (removed : ℕ → Bool) where
  -- a later commit changes nothing
  at_later : (n : Node) (older : Past) → knows older n.id ≡ false → (ps : List ℕ) → at_place (n ∷ older) (back removed older ps) ≡ at_place older (back removed older ps)
  at_later n older fresh ps = go (back removed older ps) refl
    where
      go : (o : Option ℕ) → back removed older ps ≡ o → at_place (n ∷ older) o ≡ at_place older o
      go None e = refl
      go (Some b) e = tree_other n older b (not_fresh n older b fresh (back_stays removed older ps b e).1)

  pub in_place : (a : Past) → IsLinkedPast a → AllByRecursion (IsEmpty removed) a → (p : ℕ) → knows a p ≡ true → tree_in a p ≡ at_place a (back removed a (p ∷ []))
  in_place [] s e p k = absurd (true≢false (sym k))
  in_place (n ∷ older) s e p k =
      elim (cases_Bool (n.id == p)) [
        | inl same ↦ elim (cases_Bool (removed p)) [
          | inl gone ↦
              let its = ap removed (eqb-true n.id p same) ∙ gone in
              tree_here n older p same
              ∙ ap (λ (ops : List FileOp). folded ops (begun (tree_in older) n.parents)) (e.0.none its)
              ∙ folded_none (begun (tree_in older) n.parents)
              ∙ starts n.parents (e.0.single its) s.1 (λ q x. in_place older s.2 e.1 q x)
              ∙ sym (at_later n older s.0 n.parents)
              ∙ sym (ap (at_place (n ∷ older)) (back_gone removed n older p [] same gone))
          | inr stays ↦ sym (ap (at_place (n ∷ older)) (back_here removed n older p [] same stays))
        ]
        | inr other ↦
            tree_other n older p other
            ∙ in_place older s.2 e.1 p (known_before n older p other k)
            ∙ sym (at_later n older s.0 (p ∷ []))
            ∙ sym (ap (at_place (n ∷ older)) (back_other removed n older p [] other))
      ]
    where
      nowhere : (a : Past) → back removed a [] ≡ None
      nowhere [] = refl
      nowhere (m ∷ a) = refl

      starts : (ps : List ℕ) → is_no_merge ps ≡ true → AllByRecursion (λ q. IsTrue (knows older q)) ps → ((q : ℕ) → knows older q ≡ true → tree_in older q ≡ at_place older (back removed older (q ∷ []))) →
          begun (tree_in older) ps ≡ at_place older (back removed older ps)
      starts [] h x f = sym (ap (at_place older) (nowhere older))
      starts (q ∷ []) h x f = f q x.0
      starts (q ∷ r ∷ ps) h x f = absurd (true≢false (sym h))
