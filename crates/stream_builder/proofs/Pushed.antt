-- What is known of the trees after one more operation.
use Rattle.std.proofs.Common.{◌≡◌, ℕ, ◌<◌, ◌≤◌, Bool, true, false, not, max, List, [], ◌∷◌, ◌++◌, Option, Some, None, Result, Ok, refl, sym, ap, subst, ◌∙◌, arith}
use Rattle.std.specs.Prelude.{◌||◌}
use Rattle.std.proofs.lemmas.Bool.Decides.{nat_tests}
use Rattle.plain_model.specs.declared.event.PlainEvent.{PlainEvent}
use Rattle.plain_model.specs.declared.limit.TheConstants.{MAX_PATHS}
use Rattle.plain_model.specs.declared.operation.FileOp.{FileOp}
use Rattle.plain_model.specs.declared.operation.FileOp.TheVariants.{Modify, Delete, Copy, Rename, DeleteAll}
use Rattle.plain_model.specs.Histories.{begun, folded, if_ok, tree}
use Rattle.plain_model.specs.Trees.{Tree, Refusal, apply_all, ◌>>=◌}
use Rattle.stream_grammar.specs.Limits.{limit_on, limit_of_tree}
use Rattle.history_laws.proofs.LineLaws.{folded_more}
use Rattle.stream_builder.specs.declared.known.OpenTree.{OpenTree}
use Rattle.stream_builder.specs.declared.known.OpenTree.TheVariants.{NotFolded, Folded}
use Rattle.stream_builder.specs.declared.known.Trees.{Trees}
use Rattle.stream_builder.specs.Agreement.{HasAtMost, IsOpened, TreesAgree, open_tree}
use Rattle.stream_builder.specs.Pushing.{Applies, CanApply, is_folded, may_be_refused, most_after}
use Rattle.stream_builder.proofs.TreeSizes.{modified, deleted}

pub at_most_more : (m n : ℕ) (o : Option Tree) → m ≤ n → HasAtMost m o → HasAtMost n o
at_most_more m n None le h = tt
at_most_more m n (Some t) le h = omega (arith, le, h)

-- the tree with one more operation
one_more : (events : List PlainEvent) (parents : List ℕ) (ops : List FileOp) (op : FileOp) → open_tree events parents (ops ++ op ∷ []) ≡ folded (op ∷ []) (open_tree events parents ops)
one_more events parents ops op = folded_more ops (op ∷ []) (begun (tree events) parents)

module _ (t : Trees) (events : List PlainEvent) (parents : List ℕ) (ops : List FileOp) (op : FileOp) (m : TreesAgree t events parents ops) where
  -- ---- to the tree that was folded

  module _ (found new : Option Tree) (paths most : ℕ) (is : t.opened ≡ Folded found) (applied : Applies op found (Ok paths) new) (most_is : most ≡ max t.most paths) where
    found_is : found ≡ open_tree events parents ops
    found_is = subst (λ (o : OpenTree). IsOpened o (open_tree events parents ops)) is m.is_opened

    new_is : new ≡ open_tree events parents (ops ++ op ∷ [])
    new_is = applied.0 ∙ ap (folded (op ∷ [])) found_is ∙ sym (one_more events parents ops op)

    pub on_folded : TreesAgree (record { kept = t.kept; opened = Folded new; most = most }) events parents (ops ++ op ∷ []) × (limit_on op (open_tree events parents ops) ≡ None)
    on_folded = (
      record {
        earlier = m.earlier;
        is_opened = new_is;
        all = λ c. at_most_more t.most most (tree events c) (omega (arith, most_is)) (m.all c);
        own = subst (HasAtMost most) new_is (at_most_more paths most new (omega (arith, most_is)) applied.2);
      },
      sym (ap (limit_on op) found_is) ∙ applied.1,
    )

  -- ---- without a tree

  module _ (most : ℕ) (is : t.opened ≡ NotFolded) (can : CanApply t op) (most_is : most ≡ most_after t.most op) where
    may : may_be_refused t.most op ≡ false
    may = go (may_be_refused t.most op) (subst (λ (o : OpenTree). (is_folded o || not (may_be_refused t.most op)) ≡ true) is can)
      where
        go : (b : Bool) → not b ≡ true → b ≡ false
        go true e = absurd cc
        go false e = refl

    abbrev AppliesTo : FileOp → Option Tree → Type 0
    AppliesTo x o = (limit_on x o ≡ None) × HasAtMost most (folded (x ∷ []) o)

    applies_to : (x : FileOp) → may_be_refused t.most x ≡ false → most ≡ most_after t.most x → (o : Option Tree) → HasAtMost t.most o → AppliesTo x o
    applies_to x free is None h = (refl, tt)
    applies_to (Modify mode content path) free is (Some u) h =
        let room : t.most < MAX_PATHS = grind (arith, nat_tests) in
        let v = modified mode content path u (omega (arith, room, h)) in
        let less = v.2 in (
          ap limit_of_tree v.1,
          subst (HasAtMost most) (sym (ap (λ (r : Result Tree Refusal). if_ok (r >>= apply_all [])) v.1)) (omega (arith, less, h, is, room)),
        )
    applies_to (Delete path) free is (Some u) h =
        let less = deleted path u in (refl, omega (arith, less, h, is))
    applies_to (Copy source target) free is (Some u) h = absurd cc
    applies_to (Rename source target) free is (Some u) h = absurd cc
    applies_to DeleteAll free is (Some u) h = (refl, omega arith)

    no_less : (x : FileOp) → may_be_refused t.most x ≡ false → most ≡ most_after t.most x → t.most ≤ most
    no_less (Modify mode content path) free is = let room : t.most < MAX_PATHS = grind (arith, nat_tests) in omega (arith, is, room)
    no_less (Delete path) free is = omega (arith, is)
    no_less (Copy source target) free is = omega (arith, is)
    no_less (Rename source target) free is = omega (arith, is)
    no_less DeleteAll free is = omega (arith, is)

    here : AppliesTo op (open_tree events parents ops)
    here = applies_to op may most_is (open_tree events parents ops) m.own

    pub on_none : TreesAgree (record { kept = t.kept; opened = t.opened; most = most }) events parents (ops ++ op ∷ []) × (limit_on op (open_tree events parents ops) ≡ None)
    on_none = (
      record {
        earlier = m.earlier;
        is_opened = subst (λ (o : OpenTree). IsOpened o (open_tree events parents (ops ++ op ∷ []))) (sym is) tt;
        all = λ c. at_most_more t.most most (tree events c) (no_less op may most_is) (m.all c);
        own = subst (HasAtMost most) (sym (one_more events parents ops op)) here.1;
      },
      here.0,
    )
