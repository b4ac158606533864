-- The operations of a commit on other parents: they may stand in the history, and they give the tree that the commit had.
use Rattle.std.proofs.Common.{◌≡◌, ℕ, Bool, true, false, List, [], ◌∷◌, ◌++◌, refl, sym, ap, ◌∙◌, eqb-true, true≢false, Option, Some, None}
use Rattle.std.specs.Prelude.{IsSome, unwrap_or, if◌then◌else◌}
use Rattle.std.specs.List.{AllByRecursion}
use Rattle.plain_model.specs.declared.operation.FileOp.{FileOp}
use Rattle.plain_model.specs.declared.event.PlainEvent.{PlainEvent}
use Rattle.plain_model.specs.Histories.{begun, folded, if_ok, tree}
use Rattle.plain_model.specs.Soundness.{IsSound}
use Rattle.plain_model.specs.Trees.{Tree}
use Rattle.history_laws.proofs.LineLaws.{folded_more}
use Rattle.history_laws.proofs.Lists.{all_join}
use Rattle.edit_laws.specs.Puts.{puts_of}
use Rattle.edit_laws.proofs.Fine.{IsFine}
use Rattle.commit_laws.proofs.Given.{IsHere}
use Rattle.reparent_laws.specs.Reparent.{have_same_first, ops_onto}
use Rattle.reparent_laws.specs.WrittenOut.{begun_tree, written_out}
use Rattle.reparent_laws.proofs.Merged.{anew}
use Rattle.reparent_laws.proofs.Puts.{puts_give_tree}
use Rattle.reparent_laws.proofs.TreeFacts.{puts_fine, tree_sound}

module _ (events : List PlainEvent) (h : IsSound events) where
  -- ---- what may stand in the history

  begun_fine : (parents : List ℕ) → AllByRecursion (IsFine events) (puts_of (begun_tree events parents))
  begun_fine [] = tt
  begun_fine (p ∷ parents) = go (tree events p) refl
    where
      go : (o : Option Tree) → tree events p ≡ o → AllByRecursion (IsFine events) (puts_of (unwrap_or o []))
      go None e = tt
      go (Some t) e = puts_fine events h p t e

  pub onto_fine : (new parents : List ℕ) (ops : List FileOp) → AllByRecursion (IsFine events) ops → AllByRecursion (IsFine events) (ops_onto events new parents ops)
  onto_fine new parents ops a =
      elim (have_same_first parents new) as (λ b. AllByRecursion (IsFine events) (if b then ops else written_out events parents ops)) [
        | true ↦ a
        | false ↦ ((tt, tt, tt), all_join (IsFine events) (puts_of (begun_tree events parents)) ops (begun_fine parents) a)
      ]

  -- ---- the tree

  pub begun_there : (parents : List ℕ) → AllByRecursion (IsHere events) parents → IsSome (begun (tree events) parents)
  begun_there [] a = refl
  begun_there (p ∷ parents) a = h.trees p a.0

  begins : (parents : List ℕ) → AllByRecursion (IsHere events) parents → begun (tree events) parents ≡ Some (begun_tree events parents)
  begins parents a = go (begun (tree events) parents) (begun_there parents a)
    where
      go : (o : Option Tree) → IsSome o → o ≡ Some (unwrap_or o [])
      go (Some t) s = refl
      go None s = absurd (true≢false (sym s))

  puts_begun : (parents : List ℕ) → AllByRecursion (IsHere events) parents → folded (puts_of (begun_tree events parents)) (Some []) ≡ begun (tree events) parents
  puts_begun [] a = refl
  puts_begun (p ∷ parents) a =
      let is = begins (p ∷ parents) a in
      let sound = tree_sound events h p (begun_tree events (p ∷ parents)) is in
      ap if_ok (puts_give_tree (begun_tree events (p ∷ parents)) sound.form sound.few) ∙ sym is

  same_begun : (parents others : List ℕ) → have_same_first parents others ≡ true → begun (tree events) others ≡ begun (tree events) parents
  same_begun [] [] e = refl
  same_begun (p ∷ ps) (q ∷ qs) e = ap (tree events) (sym (eqb-true p q e))
  same_begun [] (q ∷ qs) e = absurd (true≢false (sym e))
  same_begun (p ∷ ps) [] e = absurd (true≢false (sym e))

  pub onto_tree : (new parents : List ℕ) (ops : List FileOp) → AllByRecursion (IsHere events) new → AllByRecursion (IsHere events) parents →
      folded (ops_onto events new parents ops) (begun (tree events) new) ≡ folded ops (begun (tree events) parents)
  onto_tree new parents ops b a = go (have_same_first parents new) refl
    where
      go : (x : Bool) → have_same_first parents new ≡ x → folded (if x then ops else written_out events parents ops) (begun (tree events) new) ≡ folded ops (begun (tree events) parents)
      go true e = ap (folded ops) (same_begun parents new e)
      go false e =
          anew (puts_of (begun_tree events parents) ++ ops) (begun (tree events) new) (begun_there new b)
          ∙ folded_more (puts_of (begun_tree events parents)) ops (Some [])
          ∙ ap (folded ops) (puts_begun parents a)
