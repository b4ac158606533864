-- After an expunge each tree is the old one without the matched paths.
use Rattle.std.proofs.Common.{◌≡◌, ℕ, Bool, List, [], ◌∷◌, ◌++◌, refl, sym, ap, subst, ◌∙◌, inl, inr, Option, Some, None, Result, Ok, Err, option_map}
use Rattle.std.specs.Prelude.{◌==◌, IfOk, IsSome, unwrap_or}
use Rattle.std.proofs.lemmas.Bool.{cases_Bool}
use Rattle.plain_model.specs.declared.operation.Entry.{Entry}
use Rattle.plain_model.specs.declared.operation.FileOp.{FileOp}
use Rattle.plain_model.specs.Histories.{Past, begun, folded, if_ok, tree_in}
use Rattle.plain_model.specs.Paths.{Bytes}
use Rattle.plain_model.specs.Trees.{IsTree, Refusal, Tree, apply, apply_all, ◌>>=◌}
use Rattle.history_laws.proofs.LineLaws.{apply_more}
use Rattle.history_laws.proofs.TreeLaws.{apply_tree}
use Rattle.edit_laws.proofs.Trees.{tree_here, tree_other}
use Rattle.expunge_laws.specs.Replaced.{replaced, replaced_all, restricted}
use Rattle.expunge_laws.proofs.Replacing.{replaced_step}

-- ---- one operation after another

-- what two parts of a list of operations give
pub both_apply : (op : FileOp) (ops : List FileOp) (old new : Tree) → (apply op old >>= apply_all ops) ≡ Ok new → (mid : Tree) × (apply op old ≡ Ok mid) × (apply_all ops mid ≡ Ok new)
both_apply op ops old new h = go (apply op old) refl h
  where
    go : (r : Result Tree Refusal) → apply op old ≡ r → (r >>= apply_all ops) ≡ Ok new → (mid : Tree) × (apply op old ≡ Ok mid) × (apply_all ops mid ≡ Ok new)
    go (Ok mid) x y = (mid, x, y)
    go (Err e) x y = absurd cc

apply_all_tree : (ops : List FileOp) (old new : Tree) → IsTree old → apply_all ops old ≡ Ok new → IsTree new
apply_all_tree [] old new t h = let is : old ≡ new = cc in subst IsTree is t
apply_all_tree (op ∷ ops) old new t h =
    let m = both_apply op ops old new h in
    apply_all_tree ops m.0 new (subst (λ (r : Result Tree Refusal). IfOk r IsTree) m.1 (apply_tree op old t)) m.2

empty_tree : IsTree {X = Entry} []
empty_tree = record { in_order = tt; apart = λ p q a b. absurd cc }

ok_of : (r : Result Tree Refusal) (t : Tree) → if_ok r ≡ Some t → r ≡ Ok t
ok_of (Ok u) t h = let is : u ≡ t = cc in ap (λ (x : Tree). Ok x) is
ok_of (Err e) t h = absurd cc

-- what a fold that gave a tree began with, and that nothing was refused
pub begun_with : (ops : List FileOp) (o : Option Tree) (t : Tree) → folded ops o ≡ Some t → (u : Tree) × (o ≡ Some u) × (apply_all ops u ≡ Ok t)
begun_with ops None t e = absurd cc
begun_with ops (Some u) t e = (u, refl, ok_of (apply_all ops u) t e)

-- ---- each tree is a tree

abbrev pub IfTreeIs : Option Tree → Type 0
IfTreeIs None = Unit {0}
IfTreeIs (Some t) = IsTree t

folded_is : (ops : List FileOp) (o : Option Tree) → IfTreeIs o → IfTreeIs (folded ops o)
folded_is ops None h = tt
folded_is ops (Some t) h = go (apply_all ops t) refl
  where
    go : (r : Result Tree Refusal) → apply_all ops t ≡ r → IfTreeIs (if_ok r)
    go (Ok u) e = apply_all_tree ops t u h e
    go (Err why) e = tt

pub begun_is : (tree_of : ℕ → Option Tree) → ((c : ℕ) → IfTreeIs (tree_of c)) → (ps : List ℕ) → IfTreeIs (begun tree_of ps)
begun_is tree_of f [] = empty_tree
begun_is tree_of f (p ∷ ps) = f p

pub tree_is : (older : Past) (c : ℕ) → IfTreeIs (tree_in older c)
tree_is [] c = tt
tree_is (n ∷ older) c =
    elim (cases_Bool (n.id == c)) [
      | inl same ↦ subst IfTreeIs (sym (tree_here n older c same)) (folded_is n.ops (begun (tree_in older) n.parents) (begun_is (tree_in older) (λ p. tree_is older p) n.parents))
      | inr other ↦ subst IfTreeIs (sym (tree_other n older c other)) (tree_is older c)
    ]

-- ---- operations that were replaced

module _ (matched : Bytes → Bool) where
  replaced_all_step : (ops : List FileOp) (old new : Tree) → IsTree old → apply_all ops old ≡ Ok new → apply_all (replaced_all matched ops old) (restricted matched old) ≡ Ok (restricted matched new)
  replaced_all_step [] old new t h = let is : old ≡ new = cc in ap (λ (r : Tree). Ok (restricted matched r)) is
  replaced_all_step (op ∷ ops) old new t h =
      let m = both_apply op ops old new h in
      let mid_tree = subst (λ (r : Result Tree Refusal). IfOk r IsTree) m.1 (apply_tree op old t) in
      ap (λ (r : Result Tree Refusal). apply_all (elim r [ Ok x ↦ replaced matched op old x ++ replaced_all matched ops x | Err why ↦ [] ]) (restricted matched old)) m.1
      ∙ apply_more (replaced matched op old m.0) (replaced_all matched ops m.0) (restricted matched old)
      ∙ ap (λ (r : Result Tree Refusal). r >>= apply_all (replaced_all matched ops m.0)) (replaced_step matched op old m.0 t m.1)
      ∙ replaced_all_step ops m.0 new mid_tree m.2

  -- without the matched paths
  abbrev pub left_of_tree : Option Tree → Option Tree
  left_of_tree o = option_map (restricted matched) o

  begun_left : (tree_of : ℕ → Option Tree) (ps : List ℕ) → begun (λ c. left_of_tree (tree_of c)) ps ≡ left_of_tree (begun tree_of ps)
  begun_left tree_of [] = refl
  begun_left tree_of (p ∷ ps) = refl

  -- a commit that has a tree
  pub fits_left : (tree_of : ℕ → Option Tree) → ((c : ℕ) → IfTreeIs (tree_of c)) → (id : ℕ) (parents : List ℕ) (ops : List FileOp) → IsSome (tree_of id) → tree_of id ≡ folded ops (begun tree_of parents)
      → left_of_tree (tree_of id) ≡ folded (replaced_all matched ops (unwrap_or (begun tree_of parents) [])) (begun (λ c. left_of_tree (tree_of c)) parents)
  fits_left tree_of is id parents ops some fit = go (tree_of id) refl some
    where
      go : (o : Option Tree) → tree_of id ≡ o → IsSome o → left_of_tree (tree_of id) ≡ folded (replaced_all matched ops (unwrap_or (begun tree_of parents) [])) (begun (λ c. left_of_tree (tree_of c)) parents)
      go None x s = absurd cc
      go (Some t) x s =
          let m = begun_with ops (begun tree_of parents) t (sym fit ∙ x) in
          ap left_of_tree x
          ∙ sym (ap (λ o. folded (replaced_all matched ops (unwrap_or (begun tree_of parents) [])) o) (begun_left tree_of parents ∙ ap left_of_tree m.1)
          ∙ ap (λ (o : Option Tree). if_ok (apply_all (replaced_all matched ops (unwrap_or o [])) (restricted matched m.0))) m.1
          ∙ ap if_ok (replaced_all_step ops m.0 t (subst IfTreeIs m.1 (begun_is tree_of is parents)) m.2))
