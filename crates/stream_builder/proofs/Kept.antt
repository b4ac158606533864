-- What is known of the trees after one more event, and at the beginning of a commit.
use Rattle.std.proofs.Common.{◌≡◌, ℕ, ◌+◌, ◌<◌, Bool, true, false, cond, List, [], ◌∷◌, ◌++◌, length, Option, Some, None, refl, sym, ap, subst, ◌∙◌, arith, ne_eqb, eq-eqb}
use Rattle.std.specs.Prelude.{◌==◌}
use Rattle.plain_model.specs.declared.event.PlainEvent.{PlainEvent}
use Rattle.plain_model.specs.declared.operation.FileOp.{FileOp}
use Rattle.plain_model.specs.declared.operation.FileOp.TheVariants.{DeleteAll}
use Rattle.plain_model.specs.Histories.{nodes, begun, folded, tree}
use Rattle.plain_model.specs.Trees.{Tree}
use Rattle.stream_grammar.specs.Known.{next_id, with_event}
use Rattle.stream_builder.specs.declared.draft_trees.kept_trees.KeptTrees.{KeptTrees}
use Rattle.stream_builder.specs.declared.known.OpenTree.{OpenTree}
use Rattle.stream_builder.specs.declared.known.OpenTree.TheVariants.{NotFolded}
use Rattle.stream_builder.specs.declared.known.Trees.{Trees}
use Rattle.stream_builder.specs.Keeping.{AreEarlier, IsEarlier}
use Rattle.stream_builder.specs.Agreement.{HasAtMost, IsOpened, TreesAgree, open_tree}
use Rattle.stream_builder.proofs.TreesAfter.{tree_beside, tree_after}

next_more : (events : List PlainEvent) (e : PlainEvent) → next_id (with_event events e) ≡ next_id events + 1
next_more events e = go events
  where
    go : (es : List PlainEvent) → length (es ++ e ∷ []) + 1 ≡ length es + 1 + 1
    go [] = refl
    go (x ∷ es) = let more = go es in omega (arith, more)

module _ (t : Trees) (events : List PlainEvent) (e : PlainEvent) where
  earlier_beside : ((c : ℕ) → c < next_id events → tree (with_event events e) c ≡ tree events c) → (kept : KeptTrees) → AreEarlier events kept → AreEarlier (with_event events e) kept
  earlier_beside same kept h = λ c t is.
      let own = h c t is in
      (same c own.1 ∙ own.0, let before = own.1 in let more = next_more events e in omega (arith, before, more))

  -- an event that is no commit is after the others
  pub one_beside : nodes (e ∷ []) ≡ [] → (parents : List ℕ) (ops : List FileOp) → TreesAgree t events parents ops → TreesAgree t (with_event events e) parents ops
  one_beside none parents ops m =
      let same = tree_beside events e none in
      let begins_same : begun (tree (with_event events e)) parents ≡ begun (tree events) parents = go parents same in
      record {
        earlier = earlier_beside (λ c before. same c) t.kept m.earlier;
        is_opened = subst (λ (o : Option Tree). IsOpened t.opened (folded ops o)) (sym begins_same) m.is_opened;
        all = λ c. subst (HasAtMost t.most) (sym (same c)) (m.all c);
        own = subst (λ (o : Option Tree). HasAtMost t.most (folded ops o)) (sym begins_same) m.own;
      }
    where
      go : (ps : List ℕ) → ((c : ℕ) → tree (with_event events e) c ≡ tree events c) → begun (tree (with_event events e)) ps ≡ begun (tree events) ps
      go [] same = refl
      go (p ∷ ps) same = same p

  -- a commit is after the others
  module _ (commit : ℕ) (parents : List ℕ) (ops : List FileOp) (m : TreesAgree t events [] []) (within : HasAtMost t.most (open_tree events parents ops))
      (one : nodes (e ∷ []) ≡ record { id = commit; parents = parents; ops = ops } ∷ []) (is : commit ≡ next_id events) where
    there : (c : ℕ) → tree (with_event events e) c ≡ cond (commit == c) (open_tree events parents ops) (tree events c)
    there c = tree_after events e (record { id = commit; parents = parents; ops = ops }) one c

    before : (c : ℕ) → c < next_id events → tree (with_event events e) c ≡ tree events c
    before c less = there c ∙ ap (λ b. cond b (open_tree events parents ops) (tree events c)) (ne_eqb commit c (λ same. omega (arith, same, is, less)))

    all_after : (c : ℕ) → HasAtMost t.most (tree (with_event events e) c)
    all_after c = subst (HasAtMost t.most) (sym (there c)) (go (commit == c))
      where
        go : (b : Bool) → HasAtMost t.most (cond b (open_tree events parents ops) (tree events c))
        go true = within
        go false = m.all c

    pub one_after : TreesAgree t (with_event events e) [] []
    one_after = record {
      earlier = earlier_beside before t.kept m.earlier;
      is_opened = m.is_opened;
      all = all_after;
      own = m.own;
    }

    pub earlier_after : AreEarlier (with_event events e) t.kept
    earlier_after = earlier_beside before t.kept m.earlier

    -- its own tree is known
    pub own_earlier : (made : Tree) → Some made ≡ open_tree events parents ops → IsEarlier (with_event events e) commit (Some made)
    own_earlier made same = (
      there commit ∙ ap (λ b. cond b (open_tree events parents ops) (tree events commit)) (eq-eqb commit commit refl) ∙ sym same,
      let more = next_more events e in omega (arith, is, more),
    )

    -- other trees are kept
    pub own_after : (kept : KeptTrees) → AreEarlier (with_event events e) kept → TreesAgree (record { kept = kept; opened = t.opened; most = t.most }) (with_event events e) [] []
    own_after kept earlier = record {
      earlier = earlier;
      is_opened = m.is_opened;
      all = all_after;
      own = m.own;
    }

-- all files of a commit go
pub emptied : (t : Trees) (events : List PlainEvent) (parents : List ℕ) → TreesAgree t events parents [] → t.opened ≡ NotFolded → TreesAgree t events parents (DeleteAll ∷ [])
emptied t events parents m none = record {
  earlier = m.earlier;
  is_opened = subst (λ (o : OpenTree). IsOpened o (open_tree events parents (DeleteAll ∷ []))) (sym none) tt;
  all = m.all;
  own = go (begun (tree events) parents);
}
  where
    go : (o : Option Tree) → HasAtMost t.most (folded (DeleteAll ∷ []) o)
    go None = tt
    go (Some u) = omega arith
